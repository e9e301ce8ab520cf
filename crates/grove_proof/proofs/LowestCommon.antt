-- Loop steps of the lowest common node.
use Rattle.std.proofs.Common.{◌≡◌, ℕ, ◌+◌, ◌<◌, ◌≤◌, List, length, Some, None, sym, ◌∙◌, ap, subst, inl, inr, arith}
use Rattle.std.specs.List.{slice_get}
use Rattle.std.proofs.lemmas.Option.{none-some, same_Some}
use Rattle.std.proofs.lemmas.Bool.{cases_eq}
use Rattle.std.proofs.lemmas.Bool.Decides.{nat_tests}
use Rattle.std.proofs.Common.{Bool, true, false, not, eqb, is_lt, nat_cmp}
use Rattle.grove_tree.specs.Trees.{Rows, parent_of, IsAbove, IsTree}
use Rattle.grove_tree.proofs.Above.{above_trans, above_step, above_le, above_self, root_above, parent_above, parent_lt}
use Rattle.grove_access.specs.Lists.{AreNodes}
use Rattle.grove_proof.specs.Tables.{IsMeet, IsLowest}

-- what comparisons of numbers say
pub less_true : (a b : ℕ) (r : Bool) → r ≡ is_lt (nat_cmp a b) → r ≡ true → a < b
less_true a b r e h = grind (arith, nat_tests)

-- a comparison that fails says that the other is at most as great
pub less_false : (a b : ℕ) (r : Bool) → r ≡ is_lt (nat_cmp a b) → r ≡ false → b ≤ a
less_false a b r e h = grind (arith, nat_tests)

-- numbers that differ are not one
pub differs : (a b : ℕ) (r : Bool) → r ≡ not (eqb a b) → r ≡ true → a ≡ b → ⊥
differs a b r e h = grind (arith, nat_tests)

-- and numbers that don't are one
pub agrees : (a b : ℕ) (r : Bool) → r ≡ not (eqb a b) → r ≡ false → a ≡ b
agrees a b r e h = grind (arith, nat_tests)

-- a node that isn't the root has a parent
pub has_a_parent : (rows : Rows) (v : ℕ) → IsTree rows → v < length rows → 0 < v → parent_of rows v ≡ None → ⊥
has_a_parent rows v tree within some none = elim (above_step rows 0 v (root_above rows tree v within)) [
  | inl e ↦ omega arith
  | inr under ↦ none-some under.0 (sym none ∙ under.1)
]

-- what is above two nodes is above what was reached from them, and that is above them
pub record IsSameMeet (rows : Rows) (first second left right : ℕ) : Type 0 where
  pub left_within : left < length rows
  pub right_within : right < length rows
  pub left_above : IsAbove rows left first
  pub right_above : IsAbove rows right second
  pub down : (c : ℕ) → IsAbove rows c first → IsAbove rows c second → IsAbove rows c left × IsAbove rows c right

-- what is above two nodes is above the parent of the greater one
over_parent : (rows : Rows) (c low high p : ℕ) → IsTree rows → low < high → parent_of rows high ≡ Some p → IsAbove rows c low → IsAbove rows c high → IsAbove rows c p
over_parent rows c low high p tree lt e a b = elim (above_step rows c high b) [
  | inl same ↦ let le : c ≤ low = above_le rows tree c low a in absurd (omega arith)
  | inr under ↦ subst (λ (q : ℕ). IsAbove rows c q) (same_Some under.0 p (sym under.1 ∙ e)) under.2
]

-- from the greater number one goes on at its parent
pub meet_right : (rows : Rows) (first second left right p : ℕ) → IsTree rows → IsSameMeet rows first second left right → left < right → parent_of rows right ≡ Some p → IsSameMeet rows first second left p
meet_right rows first second left right p tree so_far lt e =
    let less : p < right = parent_lt rows tree right p e in
    let within : right < length rows = so_far.right_within in
    record {
      left_within = so_far.left_within;
      right_within = omega arith;
      left_above = so_far.left_above;
      right_above = above_trans rows p right second (parent_above rows right p e) so_far.right_above;
      down = λ c a b. let both : IsAbove rows c left × IsAbove rows c right = so_far.down c a b in (both.0, over_parent rows c left right p tree lt e both.0 both.1);
    }

-- on either side
pub meet_left : (rows : Rows) (first second left right p : ℕ) → IsTree rows → IsSameMeet rows first second left right → right < left → parent_of rows left ≡ Some p → IsSameMeet rows first second p right
meet_left rows first second left right p tree so_far lt e =
    let less : p < left = parent_lt rows tree left p e in
    let within : left < length rows = so_far.left_within in
    record {
      left_within = omega arith;
      right_within = so_far.right_within;
      left_above = above_trans rows p left first (parent_above rows left p e) so_far.left_above;
      right_above = so_far.right_above;
      down = λ c a b. let both : IsAbove rows c left × IsAbove rows c right = so_far.down c a b in (over_parent rows c right left p tree lt e both.1 both.0, both.1);
    }

-- where both sides meet, that is the lowest node above both
pub meet_end : (rows : Rows) (first second left right : ℕ) → IsSameMeet rows first second left right → left ≡ right → IsMeet rows first second left
meet_end rows first second left right so_far e = record {
  first = so_far.left_above;
  second = subst (λ (v : ℕ). IsAbove rows v second) (sym e) so_far.right_above;
  lowest = λ c a b. (so_far.down c a b).0;
}

-- the lowest node above the nodes of the first accesses, of which there are some
pub record IsLowestIn (rows : Rows) (nodes : List ℕ) (n v : ℕ) : Type 0 where
  pub some : 0 < n
  pub within : v < length rows
  pub is : IsLowest rows nodes n v

-- the first accessed node is the lowest above itself
pub lowest_start : (rows : Rows) (nodes : List ℕ) (v : ℕ) → AreNodes rows nodes → slice_get nodes 0 ≡ Some v → IsLowestIn rows nodes 1 v
lowest_start rows nodes v fits h = grind (arith, above_self, same_Some)

-- one access more takes the lowest node above both
pub lowest_step : (rows : Rows) (nodes : List ℕ) (n v target w : ℕ) → IsTree rows → IsLowestIn rows nodes n v → slice_get nodes n ≡ Some target → IsMeet rows v target w → IsLowestIn rows nodes (n + 1) w
lowest_step rows nodes n v target w tree so_far names meet = record {
  some = omega arith;
  within = omega (arith, above_le rows tree w v meet.first, so_far.within);
  is = record {
    over = λ access other lt there. elim (cases_eq access n) [
      | inl e ↦ subst (λ (t : ℕ). IsAbove rows w t) (same_Some target other (sym names ∙ (ap (λ (i : ℕ). slice_get nodes i) (sym e) ∙ there))) meet.second
      | inr ne ↦ above_trans rows w v other meet.first (so_far.is.over access other (omega arith) there)
    ];
    lowest = λ c over. meet.lowest c (so_far.is.lowest c (λ access other lt there. over access other (omega arith) there)) (over n target (omega arith) names);
  };
}

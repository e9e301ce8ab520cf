-- Loop steps of the marks of the forced nodes.
use Rattle.std.proofs.Common.{◌≡◌, ℕ, ◌+◌, ◌<◌, Bool, true, false, ◌⊎◌, List, [], ◌∷◌, ◌++◌, length, get_or, Some, None}
use Rattle.std.proofs.Common.{sym, ◌∙◌, ap, subst, inl, inr, arith, length-set, append-nil}
use Rattle.std.proofs.lemmas.List.{length-replicate}
use Rattle.std.proofs.Math.ListN.{set, replicate}
use Rattle.std.specs.List.{slice_get}
use Rattle.std.proofs.lemmas.Option.{none-some, same_Some, slice_get_within, slice_get-get_or, slice_get_past}
use Rattle.std.proofs.lemmas.Bool.{cases_lt, cases_eq, cases_Bool, both_ways, false_from_ne_true}
use Rattle.grove_base.specs.Numbers.{passing_below}
use Rattle.grove_tree.specs.Trees.{Rows, parent_of, IsAbove, IsTree}
use Rattle.grove_base.proofs.Lists.{get_set_same, get_set_other, get_replicate}
use Rattle.grove_tree.proofs.Above.{above_trans, above_step, above_self, above_same, above_either, parent_above, parent_lt}
use Rattle.grove_access.specs.Lists.{AreNodes}
use Rattle.grove_access.specs.Forced.{IsForcedByTree, is_forced}
use Rattle.grove_access.proofs.ForcedByTree.{forced_get, forced_got}
use Rattle.grove_proof.specs.Tables.{IsLowest, IsMarked, MarksWay, MarksForced}

-- the way up from a node is marked below a node on it
pub record IsOnWay (rows : Rows) (top from at : ℕ) (old new : List Bool) : Type 0 where
  pub size : length new ≡ length rows
  pub above : IsAbove rows at from
  pub below : IsAbove rows top at
  pub within : at < length rows
  pub sound : (v : ℕ) → IsMarked new v → IsMarked old v ⊎ (IsAbove rows v from × IsAbove rows top v)
  pub kept : (v : ℕ) → IsMarked old v → IsMarked new v
  pub done : (v : ℕ) → IsAbove rows v from → IsAbove rows at v → (v ≡ at → ⊥) → IsMarked new v

-- at first nothing of the way is marked
pub way_start : (rows : Rows) (top from : ℕ) (marks : List Bool) → IsTree rows → length marks ≡ length rows → from < length rows → IsAbove rows top from → IsOnWay rows top from from marks marks
way_start rows top from marks tree size within above = record {
  size = size;
  above = above_self rows from;
  below = above;
  within = within;
  sound = λ v is. inl is;
  kept = λ v is. is;
  done = λ v up_v down ne. absurd (ne (above_same rows tree v from up_v down));
}

-- with one more node marked
marked_more : (marks : List Bool) (at v : ℕ) → at < length marks → IsMarked marks v → IsMarked (set marks at true) v
marked_more marks at v within is = grind (arith, cases_eq, get_set_other, get_set_same)

way_sound : (rows : Rows) (top from at : ℕ) (old new : List Bool) → IsOnWay rows top from at old new → (v : ℕ) → IsMarked (set new at true) v → IsMarked old v ⊎ (IsAbove rows v from × IsAbove rows top v)
way_sound rows top from at old new so_far v is = grind (arith, cases_eq, get_set_other)

way_done : (rows : Rows) (top from at : ℕ) (old new : List Bool) → IsTree rows → IsOnWay rows top from at old new → (v : ℕ) → IsAbove rows v from → IsAbove rows at v → IsMarked (set new at true) v
way_done rows top from at old new tree so_far v up_v down = grind (arith, cases_eq, get_set_same, marked_more)

-- one node of the way is marked, and the way goes on at its parent
pub way_step : (rows : Rows) (top from at p : ℕ) (old new : List Bool) → IsTree rows → IsOnWay rows top from at old new → (at ≡ top → ⊥) → parent_of rows at ≡ Some p
    → IsOnWay rows top from p old (set new at true)
way_step rows top from at p old new tree so_far other e =
    let inside : at < length rows = so_far.within in
    let within : at < length new = rw so_far.size inside in
    let less : p < at = parent_lt rows tree at p e in
    record {
      size = length-set new at true ∙ so_far.size;
      above = above_trans rows p at from (parent_above rows at p e) so_far.above;
      below = elim (above_step rows top at so_far.below) [
        | inl same ↦ absurd (other (sym same))
        | inr under ↦ subst (λ (q : ℕ). IsAbove rows top q) (same_Some under.0 p (sym under.1 ∙ e)) under.2
      ];
      within = omega arith;
      sound = way_sound rows top from at old new so_far;
      kept = λ v is. marked_more new at v within (so_far.kept v is);
      done = λ v up_v down ne. elim (above_either rows at v from so_far.above up_v) [
        | inl over ↦ way_done rows top from at old new tree so_far v up_v over
        | inr beyond ↦ elim (above_step rows v at beyond) [
          | inl same ↦ way_done rows top from at old new tree so_far v up_v (subst (λ (w : ℕ). IsAbove rows at w) (sym same) (above_self rows at))
          | inr under ↦ absurd (ne (above_same rows tree v p (subst (λ (q : ℕ). IsAbove rows v q) (same_Some under.0 p (sym under.1 ∙ e)) under.2) down))
        ]
      ];
    }

-- below the top the way goes on
pub way_goes_on : (rows : Rows) (top from at : ℕ) (old new : List Bool) → IsOnWay rows top from at old new → (at ≡ top → ⊥) → parent_of rows at ≡ None → ⊥
way_goes_on rows top from at old new so_far other none = elim (above_step rows top at so_far.below) [
  | inl same ↦ other (sym same)
  | inr under ↦ none-some under.0 (sym none ∙ under.1)
]

-- at the top the whole way is marked
pub way_end : (rows : Rows) (top from at : ℕ) (old new : List Bool) → IsTree rows → IsOnWay rows top from at old new → at ≡ top → MarksWay rows top from old (set new at true)
way_end rows top from at old new tree so_far e = record {
  sound = way_sound rows top from at old new so_far;
  kept = λ v is. marked_more new at v (rw so_far.size so_far.within) (so_far.kept v is);
  done = λ v up_v down. way_done rows top from at old new tree so_far v up_v (subst (λ (t : ℕ). IsAbove rows t v) (sym e) down);
}

-- the ways of the first accesses are marked, and only forced nodes are
pub record AreWays (rows : Rows) (nodes : List ℕ) (top n : ℕ) (marks : List Bool) : Type 0 where
  pub size : length marks ≡ length rows
  pub sound : (v : ℕ) → IsMarked marks v → IsForcedByTree rows nodes v
  pub done : (access target v : ℕ) → access < n → slice_get nodes access ≡ Some target → IsAbove rows v target → IsAbove rows top v → IsMarked marks v

-- the lowest common node is above every node between
pub ways_step : (rows : Rows) (nodes : List ℕ) (top n target : ℕ) (old new : List Bool) → IsLowest rows nodes (length nodes) top → AreWays rows nodes top n old
    → slice_get nodes n ≡ Some target → MarksWay rows top target old new → length new ≡ length rows → AreWays rows nodes top (n + 1) new
ways_step rows nodes top n target old new lowest so_far names way size = record {
  size = size;
  sound = λ v is. elim (way.sound v is) [
    | inl before ↦ so_far.sound v before
    | inr now ↦ record {
      access = n;
      target = target;
      names = names;
      covers = now.0;
      below = λ common is_common. above_trans rows common top v (lowest.lowest common (λ access other lt there. is_common access other there)) now.1;
    }
  ];
  done = grind (arith, cases_eq, same_Some);
}

-- with all ways marked all forced nodes are
pub ways_end : (rows : Rows) (nodes : List ℕ) (top n : ℕ) (marks : List Bool) → IsLowest rows nodes (length nodes) top → AreWays rows nodes top n marks → n ≡ length nodes
    → (v : ℕ) → IsForcedByTree rows nodes v → IsMarked marks v
ways_end rows nodes top n marks lowest all e v forced = grind (arith, slice_get_within)

-- marks of the forced nodes
pub marks_forced : (rows : Rows) (nodes : List ℕ) (marks : List Bool) → IsTree rows → AreNodes rows nodes → length marks ≡ length rows
    → ((v : ℕ) → IsMarked marks v → IsForcedByTree rows nodes v) → ((v : ℕ) → IsForcedByTree rows nodes v → IsMarked marks v) → MarksForced rows nodes marks
marks_forced rows nodes marks tree fits size sound complete = record {
  size = size;
  marked = λ v lt.
      let there : slice_get marks v ≡ Some (get_or marks v false) = slice_get-get_or marks v false (rw size lt) in
      there ∙ ap (λ (b : Bool). Some b) (elim (cases_Bool (get_or marks v false)) [
        | inl e ↦ e ∙ sym (forced_get rows nodes v tree (sound v (there ∙ ap (λ (b : Bool). Some b) e)))
        | inr e ↦ grind (arith, both_ways, false_from_ne_true, forced_got, same_Some)
      ]);
}

-- nothing is marked at first, and nothing is forced without accesses
pub none_marked : (n v : ℕ) → IsMarked (replicate n false) v → ⊥
none_marked n v is =
    grind (arith, both_ways, cases_lt, get_replicate, length-replicate, none-some, same_Some, slice_get_past)

-- a list without accesses forces no node
pub none_forced : (rows : Rows) (nodes : List ℕ) (v : ℕ) → length nodes ≡ 0 → IsForcedByTree rows nodes v → ⊥
none_forced rows nodes v e forced = let lt : forced.access < length nodes = slice_get_within nodes forced.access forced.target forced.names in omega arith

-- the numbers that pass, one number on
pub passing_hit : (n : ℕ) (test : ℕ → Bool) → test n ≡ true → passing_below (n + 1) test ≡ passing_below n test ++ n ∷ []
passing_hit n test h = grind (arith)

-- a number that fails adds nothing
pub passing_miss : (n : ℕ) (test : ℕ → Bool) → test n ≡ false → passing_below (n + 1) test ≡ passing_below n test
passing_miss n test h = grind (arith, append-nil)

-- what a mark that was read says
pub mark_says : (rows : Rows) (nodes : List ℕ) (marks : List Bool) (v : ℕ) (b : Bool) → MarksForced rows nodes marks → v < length rows → b ≡ get_or marks v b → is_forced rows nodes v ≡ b
mark_says rows nodes marks v b right lt read = grind (arith, same_Some, slice_get-get_or)

-- the numbers that pass, with one more put at the end
pub forced_hit : (n x : ℕ) (test : ℕ → Bool) (items new : List ℕ) → items ≡ passing_below n test → new ≡ items ++ x ∷ [] → x ≡ n → test n ≡ true → new ≡ passing_below (n + 1) test
forced_hit n x test items new so_far push e h = grind (arith, passing_hit)

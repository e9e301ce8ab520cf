-- Rows that are named by their numbers.
use Rattle.std.proofs.Common.{◌≡◌, ℕ, zero, suc, ◌<◌, ◌≤◌, ◌^◌, true, List, [], ◌∷◌, length, map}
use Rattle.std.proofs.Common.{decimal, slice_get, Option, Some, refl, ap, sym, ◌∙◌, subst, arith, IsTrue}
use Rattle.std.specs.List.{list_all}
use Rattle.std.specs.Option.{unwrap_or}
use Rattle.std.specs.Str.Parse.{AllDigits}
use Rattle.std.proofs.lemmas.Bool.{lt-ltb, le-leb, and_from, or_left, or_right}
use Rattle.std.proofs.lemmas.Option.{none-some}
use Rattle.std.proofs.lemmas.Str.Parse.{digit_at}
use Rattle.std.proofs.lemmas.Fmt.{decimal_nonempty, decimal_is_IsNumeral, length-decimal-le, decimal_injective}
use Rattle.grove_base.specs.Numbers.{numbers_below}
use Rattle.grove_base.proofs.Counting.{numbers_get}
use Rattle.grove_base.proofs.Lists.{get_map}
use Rattle.grove_tree.specs.Trees.{Rows, NodeRow, name_of, parent_of, IsTree}
use Rattle.grove_tree.specs.Rules.{is_name, is_name_byte, AreTreeRows, IsWithinLimits}
use Rattle.grove_tree.proofs.Above.{parent_within}
use Rattle.grove_nodes.specs.Building.{number_name, AreNamedByNumber}
use Rattle.grove_nodes.specs.Shapes.{HaveShape}
use Rattle.grove_nodes.proofs.Shapes.{same_length, same_weight, tree_alike, depth_alike}

name_at : (rows : Rows) (node : ℕ)
    → name_of rows node ≡ unwrap_or (slice_get (map (λ (row : NodeRow). row.name) rows) node) []
name_at [] node = refl
name_at (row ∷ rows) zero = refl
name_at (row ∷ rows) (suc node) = name_at rows node

pub name_is : (rows : Rows) → AreNamedByNumber rows → (node : ℕ) → node < length rows
    → name_of rows node ≡ number_name node
name_is rows named node lt =
    name_at rows node ∙ (ap (λ (names : List (List ℕ)). unwrap_or (slice_get names node) []) named
    ∙ ap (λ (o : Option (List ℕ)). unwrap_or o []) (get_map number_name (numbers_below (length rows)) node node
    (numbers_get (length rows) node lt)))

digit_byte : (c : ℕ) → 48 ≤ c → c ≤ 57 → is_name_byte c ≡ true
digit_byte c low high = grind (arith, and_from, le-leb, or_left, or_right)

digits_name : (ds : List ℕ) → AllDigits 10 ds → list_all is_name_byte ds ≡ true
digits_name [] are = refl
digits_name (c ∷ ds) (here, rest) = grind (arith, and_from, digit_at, digit_byte, digits_name ds rest)

-- a number is a name
decimal_name : (n : ℕ) → n < 10 ^ 10 → IsTrue (is_name (decimal n))
decimal_name n few =
    let small : n < 2 ^ 64 = omega (arith, few) in
    let some = decimal_nonempty n small in
    let short : length (decimal n) ≤ 32 = omega (arith, length-decimal-le 10 n (omega arith) few small) in
    and_from _ _ (lt-ltb 0 (length (decimal n)) some)
    (and_from _ _ (le-leb (length (decimal n)) 32 short) (digits_name (decimal n) (decimal_is_IsNumeral n small).0.1))

module _ (parents weights : List ℕ) (a b : Rows) (is : HaveShape parents weights a)
    (other : HaveShape parents weights b)
    (named : AreNamedByNumber b) (tree : IsTree a) (limits : IsWithinLimits a) where
  few : length b ≤ 4096
  few = subst (λ (n : ℕ). n ≤ 4096) (same_length parents weights a b is other) limits.few

  is_tree : IsTree b
  is_tree = tree_alike parents weights a b is other tree

  -- rows with a parent differ in their names
  differ_by : (first second parent : ℕ) → parent_of b first ≡ Some parent → parent_of b second ≡ Some parent
      → number_name first ≡ number_name second → first ≡ second
  differ_by zero second parent up up2 same = absurd (none-some parent (sym is_tree.root ∙ up))
  differ_by (suc first) zero parent up up2 same = absurd (none-some parent (sym is_tree.root ∙ up2))
  differ_by (suc first) (suc second) parent up up2 same = grind (arith, decimal_injective, few, parent_within)

  -- rows that are named by their numbers are within the limits if others of their shape are
  limits_alike : IsWithinLimits b
  limits_alike = record {
    few = few;
    shallow = λ node. subst (λ (n : ℕ). n ≤ 32) (sym (depth_alike parents weights a b is other tree node))
        (limits.shallow node);
    unnamed_root = name_is b named 0 is_tree.some;
    names = λ node lt. subst (λ (name : List ℕ). IsTrue (is_name name)) (sym (name_is b named (suc node) lt))
        (decimal_name (suc node) (omega (arith, few, lt)));
    differ = λ first second parent up up2 same. differ_by first second parent up up2
        (sym (name_is b named first (parent_within b first parent up))
        ∙ (same ∙ name_is b named second (parent_within b second parent up2)));
    weighty = λ node lt. subst (λ (n : ℕ). 1 ≤ n) (same_weight parents weights a b is other node)
        (limits.weighty node (subst (λ (n : ℕ). node < n) (sym (same_length parents weights a b is other)) lt));
    light = λ node. subst (λ (n : ℕ). n ≤ 1000) (same_weight parents weights a b is other node) (limits.light node);
  }

-- if rows that are named by their numbers are no tree, no rows of their shape are
pub none_alike : (parents weights : List ℕ) (rows : Rows) → HaveShape parents weights rows → AreNamedByNumber rows
    → ¬ AreTreeRows rows → (other : Rows) → HaveShape parents weights other → ¬ AreTreeRows other
none_alike parents weights rows is named none other shape (tree, limits) =
    none (
      tree_alike parents weights other rows shape is tree,
      limits_alike parents weights other rows shape is named
          tree limits,
    )

-- The rows of the forced nodes, listed in order.
use Rattle.std.proofs.Common.{◌≡◌, ◌≢◌, ℕ, zero, suc, ◌<◌, ◌≤◌, Bool, true, false, cond, List, [], ◌∷◌, ◌++◌, length}
use Rattle.std.proofs.Common.{slice_get, Option, Some, None, refl, sym, ◌∙◌, ap, inl, inr, append-nil, option_map}
use Rattle.std.proofs.Common.{arith, get_or}
use Rattle.std.specs.Option.{option_and_then}
use Rattle.std.proofs.lemmas.List.{map-append}
use Rattle.std.proofs.lemmas.Option.{none-some, same_Some, slice_get-get_or}
use Rattle.std.proofs.lemmas.Bool.{cases_eq, eq-eqb, ne_eqb, cond-true, cond-false}
use Rattle.std.proofs.Math.Dec.{eqb}
use Rattle.grove_base.specs.Numbers.{alone, passing_below}
use Rattle.grove_tree.specs.Trees.{Rows, IsTree, parent_of, weight_of}
use Rattle.grove_base.proofs.Lists.{get_append_cases}
use Rattle.grove_base.proofs.Counting.{passing_rises}
use Rattle.grove_tree.proofs.Above.{parent_lt}
use Rattle.grove_access.specs.Forced.{is_forced, forced_nodes}
use Rattle.grove_span.specs.declared.row.SpanRow.{SpanRow}
use Rattle.grove_span.specs.SpanRows.{node_of_row, find_place, parent_place, IsAccessedSo}
use Rattle.grove_span.specs.Ways.{IsListedTo, IsRising}

-- another number at the end changes nothing
pub find_before : (v w : ℕ) (xs : List ℕ) → w ≢ v → find_place v (xs ++ w ∷ []) ≡ find_place v xs
find_before v w [] ne = cond-false (eqb w v) (Some 0) None (ne_eqb w v ne)
find_before v w (x ∷ xs) ne = ap (λ (o : Option ℕ). cond (eqb x v) (Some 0) (option_map suc o)) (find_before v w xs ne)

-- a number is found among those below a bound as among those below a greater one
find_one_more : (t : Bool) (v n : ℕ) (xs : List ℕ) → v < n → find_place v (xs ++ alone t n) ≡ find_place v xs
find_one_more true v n xs lt = find_before v n xs (λ e. omega arith)
find_one_more false v n xs lt = ap (find_place v) (append-nil xs)

-- and so it is however great the bound
pub find_later : (test : ℕ → Bool) (v low high : ℕ) → v < low → low ≤ high → find_place v (passing_below high test) ≡ find_place v (passing_below low test)
find_later test v low zero lt le = absurd (omega arith)
find_later test v low (suc high) lt le = elim (cases_eq low (suc high)) [
  | inl e ↦ rw e refl
  | inr ne ↦ find_one_more (test high) v high (passing_below high test) (omega arith) ∙ find_later test v low high lt (omega arith)
]

-- the place of a node's parent among the nodes below it is that among all
parent_later : (rows : Rows) (nodes : List ℕ) (n : ℕ) (o : Option ℕ) → IsTree rows → n < length rows → parent_of rows n ≡ o
    → option_and_then (λ p. find_place p (passing_below n (is_forced rows nodes))) o ≡ option_and_then (λ p. find_place p (forced_nodes rows nodes)) o
parent_later rows nodes n None tree lt is = refl
parent_later rows nodes n (Some p) tree lt is = grind (arith, find_later, parent_lt)

-- a property of all rows, with one more
each_more : (P : SpanRow → Type 0) (items : List SpanRow) (last : SpanRow) → ((i : ℕ) (row : SpanRow) → slice_get items i ≡ Some row → P row) → P last
    → (i : ℕ) (row : SpanRow) → slice_get (items ++ last ∷ []) i ≡ Some row → P row
each_more P items last before here i row h = grind (arith, get_append_cases, none-some, same_Some)

-- one more node that is forced
pub list_hit : (rows : Rows) (nodes lengths : List ℕ) (n : ℕ) (numbers : List ℕ) (items : List SpanRow) (row : SpanRow) → IsTree rows → n < length rows
    → is_forced rows nodes n ≡ true → row.node ≡ n → row.weight ≡ weight_of rows n
    → row.parent ≡ option_and_then (λ p. find_place p numbers) (parent_of rows n) → IsAccessedSo nodes lengths row
    → IsListedTo rows nodes lengths n numbers items → IsListedTo rows nodes lengths (suc n) (numbers ++ n ∷ []) (items ++ row ∷ [])
list_hit rows nodes lengths n numbers items row tree lt hit is heavy parent visited so_far =
    let grown : passing_below (suc n) (is_forced rows nodes) ≡ passing_below n (is_forced rows nodes) ++ n ∷ [] =
    ap (λ (b : Bool). passing_below n (is_forced rows nodes) ++ alone b n) hit in
    record {
      counted = ap (λ (xs : List ℕ). xs ++ n ∷ []) so_far.counted ∙ sym grown;
      listed = map-append node_of_row items (row ∷ []) ∙ ap (λ (xs : List ℕ). xs ++ row.node ∷ []) so_far.listed ∙ ap (λ (v : ℕ). numbers ++ v ∷ []) is;
      parents = each_more (λ r. r.parent ≡ parent_place rows (forced_nodes rows nodes) r.node) items row so_far.parents
          (parent ∙ ap (λ (xs : List ℕ). option_and_then (λ p. find_place p xs) (parent_of rows n)) so_far.counted
          ∙ parent_later rows nodes n (parent_of rows n) tree lt refl ∙ ap (λ (v : ℕ). parent_place rows (forced_nodes rows nodes) v) (sym is));
      weights = each_more (λ r. r.weight ≡ weight_of rows r.node) items row so_far.weights (heavy ∙ ap (weight_of rows) (sym is));
      accesses = each_more (IsAccessedSo nodes lengths) items row so_far.accesses visited;
    }

-- one more node that is not forced
pub list_miss : (rows : Rows) (nodes lengths : List ℕ) (n : ℕ) (numbers : List ℕ) (items : List SpanRow) → is_forced rows nodes n ≡ false
    → IsListedTo rows nodes lengths n numbers items → IsListedTo rows nodes lengths (suc n) numbers items
list_miss rows nodes lengths n numbers items miss so_far = grind (arith, append-nil)

-- Places among rising numbers

-- numbers after the first
rest_rises : (x : ℕ) (xs : List ℕ) → IsRising (x ∷ xs) → IsRising xs
rest_rises x xs rising i j low high lt a b = rising (suc i) (suc j) low high (omega arith) a b

-- a number that stands at a place is found there
pub find_at : (xs : List ℕ) (place v : ℕ) → IsRising xs → slice_get xs place ≡ Some v → find_place v xs ≡ Some place
find_at [] place v rising at = absurd (none-some v at)
find_at (x ∷ xs) zero v rising at = cond-true (eqb x v) (Some 0) (option_map suc (find_place v xs)) (eq-eqb x v (same_Some x v at))
find_at (x ∷ xs) (suc place) v rising at =
    let less : x < v = rising 0 (suc place) x v (omega arith) refl at in
    cond-false (eqb x v) (Some 0) (option_map suc (find_place v xs)) (ne_eqb x v (λ e. omega arith))
    ∙ ap (λ (o : Option ℕ). option_map suc o) (find_at xs place v (rest_rises x xs rising) at)

-- a number that stands nowhere isn't found
pub find_nowhere : (xs : List ℕ) (v : ℕ) → ((place : ℕ) → slice_get xs place ≡ Some v → ⊥) → find_place v xs ≡ None
find_nowhere [] v none = refl
find_nowhere (x ∷ xs) v none =
    cond-false (eqb x v) (Some 0) (option_map suc (find_place v xs)) (ne_eqb x v (λ e. none 0 (ap (λ (k : ℕ). Some k) e)))
    ∙ ap (λ (o : Option ℕ). option_map suc o) (find_nowhere xs v (λ place. none (suc place)))

-- rising numbers as they are read
pub reads_rise : (xs : List ℕ) → IsRising xs → (i j : ℕ) → i ≤ j → j < length xs → get_or xs i 0 ≤ get_or xs j 0
reads_rise xs rising i j le lt = grind (arith, cases_eq, slice_get-get_or)

-- listed numbers rise
pub numbers_rise : (rows : Rows) (nodes : List ℕ) (n : ℕ) (numbers : List ℕ) → numbers ≡ passing_below n (is_forced rows nodes) → IsRising numbers
numbers_rise rows nodes n numbers is = rw is (passing_rises n (is_forced rows nodes))

none_pass : (rows : Rows) (n : ℕ) → passing_below n (is_forced rows []) ≡ []
none_pass rows zero = refl
none_pass rows (suc n) = append-nil (passing_below n (is_forced rows [])) ∙ none_pass rows n

-- a list that names no node forces none
pub none_forced : (rows : Rows) (nodes : List ℕ) → length nodes ≡ 0 → forced_nodes rows nodes ≡ []
none_forced rows [] e = none_pass rows (length rows)
none_forced rows (node ∷ nodes) e = absurd (omega arith)

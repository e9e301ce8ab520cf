-- Items of a list that are looked at in turn.
use Rattle.std.proofs.Common.{◌≡◌, ◌<◌, ◌≤◌, ℕ, suc, List, Some, length, slice_get, arith}
use Rattle.std.proofs.lemmas.Bool.{cases_eq}
use Rattle.std.proofs.lemmas.Option.{same_Some, slice_get_within}

-- one more
pub kept_more : {X : Type 0} (P : X → Type 0) (xs : List X) (place : ℕ) (x : X)
    → ((before : ℕ) (y : X) → before < place → slice_get xs before ≡ Some y → P y) → slice_get xs place ≡ Some x → P x
    → (before : ℕ) (y : X) → before < suc place → slice_get xs before ≡ Some y → P y
kept_more P xs place x kept at here before y less is = grind (arith, cases_eq, same_Some)

-- all
pub kept_all : {X : Type 0} (P : X → Type 0) (xs : List X) (place : ℕ)
    → ((before : ℕ) (y : X) → before < place → slice_get xs before ≡ Some y → P y) → length xs ≤ place
    → (at : ℕ) (y : X) → slice_get xs at ≡ Some y → P y
kept_all P xs place kept all at y is =
    let less : at < length xs = slice_get_within xs at y is in kept at y (omega arith) is

-- What a query asks of the nodes.
use Rattle.std.specs.Prelude.{◌≡◌, ℕ, ◌^◌, ◌<◌, List, [], ◌∷◌, Option, Some, None, codes, map, filter, bytes_eq}
use Rattle.std.specs.Str.Lossy.{utf8_lossy}
use Rattle.std.specs.Str.Parse.{IsNumeral, digits_value}
use Rattle.form_urlencoded.specs.Form.{raw_pairs, decode}

-- a round that a later one is waited for, the path of the node that is told of with those below it, and any word, by
-- which hints are asked for
pub record NodesQuery : Type 0 where
  pub after : Option ℕ
  pub below : Option (List ℕ)
  pub hints : Option (List ℕ)

-- the values beside this name, each decoded as in forms
abbrev pub values_beside : List ℕ → List (List ℕ × List ℕ) → List (List ℕ)
values_beside name pairs = map (λ pair. utf8_lossy (decode pair.1))
    (filter (λ pair. bytes_eq (utf8_lossy (decode pair.0)) name) pairs)

-- a whole number below 2 ^ 64 in decimal digits
pub record IsRound (text : List ℕ) (round : ℕ) : Type 0 where
  pub numeral : IsNumeral 10 text
  pub value : digits_value 10 text ≡ round
  pub fits : round < 2 ^ 64

-- no value is read as none, and a single one as what it means; several aren't read
abbrev pub ReadsAs : {A : Type 0} → (List ℕ → A → Type 0) → List (List ℕ) → Option A → Type 0
ReadsAs means [] None = Unit {0}
ReadsAs means (text ∷ []) (Some value) = means text value
ReadsAs means _ _ = ⊥

-- the query asks this
pub record IsRead (query : List ℕ) (asked : NodesQuery) : Type 0 where
  pub after : ReadsAs IsRound (values_beside (codes "after") (raw_pairs query)) asked.after
  pub below : ReadsAs (λ text path. path ≡ text) (values_beside (codes "below") (raw_pairs query)) asked.below
  pub hints : ReadsAs (λ text word. word ≡ text) (values_beside (codes "hints") (raw_pairs query)) asked.hints

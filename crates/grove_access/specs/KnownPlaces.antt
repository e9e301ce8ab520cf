-- For the proofs alone: where a node stands among those that are out, and how many share a bucket.
use Rattle.std.specs.Prelude.{◌≡◌, ℕ, ◌+◌, ◌<◌, ◌%◌, ◌==◌, List, [], ◌∷◌, slice_get, remove, Some, if◌then◌else◌}
use Rattle.grove_access.specs.declared.known.Known.{Known}
use Rattle.grove_access.specs.Carries.{known_at, without}

-- the node stands at this place, and at no earlier one
pub record StandsAt (known : List Known) (node place : ℕ) : Type 0 where
  pub item : Known
  pub there : slice_get known place ≡ Some item
  pub value : known_at known node ≡ Some item.value
  pub others : without known node ≡ remove known place

-- how many of the nodes fall into a bucket
abbrev pub in_bucket : List Known → ℕ → ℕ
in_bucket [] bucket = 0
in_bucket (k ∷ known) bucket = (if k.node % 256 == bucket then 1 else 0) + in_bucket known bucket

-- each count is how many nodes fall into its bucket, or it is full
abbrev pub Counts : List ℕ → List Known → Type 0
Counts counts known = (bucket count : ℕ) → slice_get counts bucket ≡ Some count → count < 255
    → count ≡ in_bucket known bucket

-- How many values a histogram has, up to a bound and in all.
use Rattle.std.specs.Prelude.{◌≡◌, ◌≤◌, ◌<◌, ℕ, ◌+◌, ◌-◌, ◌*◌, ◌^◌, min, List, length, sum, take, slice_index}
use Rattle.std.specs.Prelude.{replicate}
use Rattle.std.specs.Int.{div_ceil}
use Rattle.grove_gauge.specs.Scales.{most_of}
use Rattle.grove_gauge.specs.declared.buckets.Buckets.{Buckets}
use Rattle.grove_gauge.specs.declared.scale.Scale.{Scale}

abbrev pub no_values : Scale → Buckets
no_values scale = record { scale = scale; counts = replicate 20 0; sum = 0 }

-- a number as far as 64 bits go
abbrev pub capped : ℕ → ℕ
capped n = min n (2 ^ 64 - 1)

-- the values in the bucket at the place, and in all before it
abbrev pub within : List ℕ → ℕ → ℕ
within counts place = capped (sum (take (place + 1) counts))

-- so many hundredths of all values, rounded up
abbrev pub share_of : Buckets → ℕ → ℕ
share_of b hundredths = div_ceil (capped (capped (sum b.counts) * hundredths)) 100

-- the bound at a place that so many hundredths of the values are within, or the last, and no bound before is such
abbrev pub IsTimeWithin : Buckets → ℕ → ℕ → Type 0
IsTimeWithin b hundredths bound = (place : ℕ)
    × (place < length (most_of b.scale)) × (bound ≡ slice_index (most_of b.scale) place)
    × ((k : ℕ) → k < place → within b.counts k < share_of b hundredths)
    × (place + 1 < length (most_of b.scale) → share_of b hundredths ≤ within b.counts place)

-- each count of a histogram, without what was counted before
pub record IsChange (before now change : Buckets) : Type 0 where
  pub scale : change.scale ≡ now.scale
  pub counts : (place : ℕ) → place < 20
      → slice_index change.counts place ≡ slice_index now.counts place - slice_index before.counts place
  pub sum : change.sum ≡ now.sum - before.sum

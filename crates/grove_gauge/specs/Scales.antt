-- The buckets of a histogram.
use Rattle.std.specs.Prelude.{ℕ, ◌<◌, ◌≤◌, List, [], ◌∷◌, length, slice_index, slice_index_or, codes}
use Rattle.grove_gauge.specs.declared.scale.Scale.{Scale}
use Rattle.grove_gauge.specs.declared.scale.Scale.TheVariants.{Lines, Times}

-- the greatest value of each bucket but the last; times are in microseconds
abbrev pub most_of : Scale → List ℕ
most_of Lines = 1 ∷ 2 ∷ 4 ∷ 8 ∷ 16 ∷ []
most_of Times = 10 ∷ 20 ∷ 50 ∷ 100 ∷ 200 ∷ 500 ∷ 1000 ∷ 2000 ∷ 5000 ∷ 10000 ∷ 20000 ∷ 50000 ∷ 100000 ∷ 200000
    ∷ 500000 ∷ 1000000 ∷ 2000000 ∷ 5000000 ∷ 10000000 ∷ []

-- the same as it is shown; times are in seconds
abbrev pub shown_of : Scale → List (List ℕ)
shown_of Lines = codes "1" ∷ codes "2" ∷ codes "4" ∷ codes "8" ∷ codes "16" ∷ []
shown_of Times = codes "0.00001" ∷ codes "0.00002" ∷ codes "0.00005" ∷ codes "0.0001" ∷ codes "0.0002" ∷ codes "0.0005"
    ∷ codes "0.001" ∷ codes "0.002" ∷ codes "0.005" ∷ codes "0.01" ∷ codes "0.02" ∷ codes "0.05" ∷ codes "0.1"
    ∷ codes "0.2" ∷ codes "0.5" ∷ codes "1" ∷ codes "2" ∷ codes "5" ∷ codes "10" ∷ []

abbrev pub shown_at : Scale → ℕ → List ℕ
shown_at scale place = slice_index_or (shown_of scale) place []

-- the first bound that isn't below the value is at the place, or all bounds are before it
pub record IsPlaceOf (bounds : List ℕ) (value place : ℕ) : Type 0 where
  pub within : place ≤ length bounds
  pub before : (k : ℕ) → k < place → slice_index bounds k < value
  pub there : place < length bounds → value ≤ slice_index bounds place

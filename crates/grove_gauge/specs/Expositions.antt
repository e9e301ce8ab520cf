-- The form that Prometheus reads: families, each with a help, a kind and its samples.
use Rattle.std.specs.Prelude.{ℕ, List, [], ◌++◌, length, flat_map, codes, decimal, sum, Option, None, Some}
use Rattle.grove_base.specs.Numbers.{numbers_below}
use Rattle.grove_gauge.specs.Families.{row_of}
use Rattle.grove_gauge.specs.Scales.{most_of, shown_at}
use Rattle.grove_gauge.specs.Shares.{capped, within}
use Rattle.grove_gauge.specs.Times.{seconds_text}
use Rattle.grove_gauge.specs.declared.buckets.Buckets.{Buckets}
use Rattle.grove_gauge.specs.declared.families.Family.{Family}
use Rattle.grove_gauge.specs.declared.scale.Scale.TheVariants.{Lines, Times}
use Rattle.grove_gauge.specs.declared.scale.Scale.{Scale}

-- what a family begins with
unfoldable pub head_text : Family → List ℕ
head_text f =
    codes "# HELP " ++ (row_of f).name ++ codes " " ++ (row_of f).help
    ++ codes "\n# TYPE " ++ (row_of f).name ++ codes " " ++ (row_of f).kind ++ codes "\n"

unfoldable pub sample_text : Family → ℕ → List ℕ
sample_text f value = (row_of f).name ++ codes " " ++ decimal value ++ codes "\n"

unfoldable pub labelled_text : Family → List ℕ → List ℕ → ℕ → List ℕ
labelled_text f label said value =
    (row_of f).name ++ codes "{" ++ label ++ codes "=\"" ++ said ++ codes "\"} " ++ decimal value ++ codes "\n"

-- a family of one number
abbrev pub single_text : Family → ℕ → List ℕ
single_text f value = head_text f ++ sample_text f value

-- the same, if there is one
abbrev pub maybe_text : Family → Option ℕ → List ℕ
maybe_text f None = []
maybe_text f (Some value) = single_text f value

-- how many values are within the bound at a place
unfoldable pub bound_text : Family → Buckets → ℕ → List ℕ
bound_text f b place = (row_of f).name ++ codes "_bucket{le=\"" ++ shown_at b.scale place
    ++ codes "\"} " ++ decimal (within b.counts place) ++ codes "\n"

abbrev pub bounded_text : Family → Buckets → List ℕ
bounded_text f b = flat_map (bound_text f b) (numbers_below (length (most_of b.scale)))

-- a sum in the unit that is shown
abbrev pub sum_text : Scale → ℕ → List ℕ
sum_text Lines sum = decimal sum
sum_text Times sum = seconds_text sum

-- how many values there are, their sum, and how many they are once more
unfoldable pub all_text : Family → Buckets → List ℕ
all_text f b =
    (row_of f).name ++ codes "_bucket{le=\"+Inf\"} " ++ decimal (capped (sum b.counts)) ++ codes "\n"
    ++ (row_of f).name ++ codes "_sum " ++ sum_text b.scale b.sum ++ codes "\n"
    ++ (row_of f).name ++ codes "_count " ++ decimal (capped (sum b.counts)) ++ codes "\n"

-- a family that is a histogram
abbrev pub histogram_text : Family → Buckets → List ℕ
histogram_text f b = head_text f ++ bounded_text f b ++ all_text f b

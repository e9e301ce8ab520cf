-- The slots of a list's accesses, one after the other: each access has as many as it is long.
use Rattle.std.specs.Prelude.{ℕ, List, slice_index}
use Rattle.grove_base.specs.Numbers.{sum_below}

-- how many slots lie before an access: the lengths of those before it, added up
abbrev pub slots_before : List ℕ → ℕ → ℕ
slots_before lengths access = sum_below access (λ earlier. slice_index lengths earlier)

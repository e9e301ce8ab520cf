use Rattle.std.proofs.Common.{◌≡◌, ℕ, ◌<◌, length, false}
use Rattle.std.specs.Prelude.{slice_index_or}
use Rattle.grove_build.specs.Stays.{is_needed}
use Rattle.grove_build.proofs.stays.needed_of.Given as goal

abbrev pub invariant-loop-k : goal.invariant-loop-k
invariant-loop-k l = (length l.needed.items ≡ length l.rows)
    × ((j : ℕ) → j < length l.rows → slice_index_or l.needed.items j false ≡ is_needed l.rows l.gaps l.k j)

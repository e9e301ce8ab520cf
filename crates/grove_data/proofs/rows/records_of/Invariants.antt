use Rattle.std.proofs.Common.{◌≡◌, map, take}
use Rattle.std.specs.Int.{w64, cast_signed}
use Rattle.grove_data.proofs.rows.records_of.Given as goal

abbrev pub invariant-loop-word : goal.invariant-loop-word
invariant-loop-word l = l.values.items ≡ map (cast_signed w64) (take l.word-index l.words)

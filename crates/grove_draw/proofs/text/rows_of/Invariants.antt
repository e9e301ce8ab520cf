use Rattle.std.proofs.Common.{string_bytes, take}
use Rattle.grove_draw.specs.Writings.{AreWritten, IsTextRow}
use Rattle.grove_draw.proofs.text.rows_of.Given as goal

abbrev pub invariant-loop-place : goal.invariant-loop-place
invariant-loop-place l = AreWritten IsTextRow (take l.place l.picture.bars.items) (string_bytes l.rows)

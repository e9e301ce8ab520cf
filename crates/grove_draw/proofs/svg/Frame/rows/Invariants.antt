use Rattle.std.proofs.Common.{string_bytes, take}
use Rattle.grove_draw.specs.Scales.{x_of}
use Rattle.grove_draw.specs.Writings.{AreWritten, IsSvgRow}
use Rattle.grove_draw.proofs.svg.Frame.rows.Given as goal

abbrev pub invariant-loop-place : goal.invariant-loop-place
invariant-loop-place l = AreWritten (IsSvgRow (x_of l.self)) (take l.place l.picture.bars.items) (string_bytes l.rows)

use Rattle.std.proofs.Common.{[], add-one, rules}
use Rattle.grove_draw.specs.Scales.{x_of}
use Rattle.grove_draw.specs.Writings.{IsSvgRow}
use Rattle.grove_draw.proofs.WrittenRows.{written_more}
use Rattle.grove_draw.proofs.svg.Frame.rows.Goals as goal

pub loop-place-init : goal.loop-place-init
loop-place-init c = ([], tt, search rules)

pub loop-place-preserved : goal.loop-place-preserved
loop-place-preserved c =
    let row = c.in_ok-row.ensures in
    rw add-one (written_more (IsSvgRow (x_of c.args.self.now)) _ _ _ _ _ _ c.loop-place.invariant row.1 row.2
    (search rules))

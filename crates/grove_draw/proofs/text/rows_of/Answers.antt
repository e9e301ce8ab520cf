use Rattle.std.proofs.Common.{[], add-one, rules}
use Rattle.grove_draw.specs.Writings.{IsTextRow}
use Rattle.grove_draw.proofs.WrittenRows.{written_more}
use Rattle.grove_draw.proofs.text.rows_of.Goals as goal

pub loop-place-init : goal.loop-place-init
loop-place-init c = ([], tt, search rules)

pub loop-place-preserved : goal.loop-place-preserved
loop-place-preserved c =
    let row = c.in_ok-row.ensures in
    rw add-one (written_more IsTextRow _ _ _ _ _ _ c.loop-place.invariant row.1 row.2 (search rules))

use Rattle.std.proofs.Common.{rules}
use Rattle.grove_wire.specs.Forms.{as_signed}
use Rattle.grove_wire.specs.Outcomes.{of_form}
use Rattle.grove_wire.proofs.Each.{exactly, gives_items}
use Rattle.grove_wire.proofs.standing.records_of.Goals as goal

pub returns : goal.returns
returns c =
    gives_items _ _ _ 4294967295 _ _ c.whole-place.ensures c.args.items.now c.read_few.result c.read_few.ensures.all
    c.read_few.ensures.stopped (of_form as_signed)
    (λ at shown r is. exactly r _ (search rules))

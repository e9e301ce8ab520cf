use Rattle.std.proofs.Common.{rules}
use Rattle.grove_wire.specs.Forms.{event_form}
use Rattle.grove_wire.specs.Outcomes.{of_form}
use Rattle.grove_wire.proofs.Each.{exactly, gives_items}
use Rattle.grove_wire.proofs.events.events_of.Goals as goal

pub returns-clause-read : goal.returns-clause-read
returns-clause-read c =
    gives_items _ _ _ 1048576 _ _ c.whole.ensures c.args.items.now c.read_few.result c.read_few.ensures.all
    c.read_few.ensures.stopped (of_form event_form)
    (λ at shown r is. exactly r _ (search rules))

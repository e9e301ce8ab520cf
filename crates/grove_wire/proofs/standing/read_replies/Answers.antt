use Rattle.std.proofs.Common.{refl, rules}
use Rattle.grove_wire.specs.Forms.{reply_form}
use Rattle.grove_wire.specs.Outcomes.{of_form}
use Rattle.grove_wire.proofs.Each.{exactly, gives_items}
use Rattle.grove_wire.proofs.standing.read_replies.Goals as goal

pub returns : goal.returns
returns c =
    gives_items _ _ _ 4294967295 _ _ refl c.args.items.now c.read_few.result c.read_few.ensures.all
    c.read_few.ensures.stopped (of_form reply_form)
    (λ at shown r is. exactly r _ (search rules))

use Rattle.std.proofs.Common.{sym, ap, ◌∙◌}
use Rattle.grove_wire.specs.FlatValues.{step_on}
use Rattle.grove_wire.proofs.FlatValues.{step_of_few}
use Rattle.grove_line.proofs.TokenValues.{starts_weaker}
use Rattle.grove_line.proofs.parts.StepItemItem.next.Goals as goal

pub returns-clause-read : goal.returns-clause-read
returns-clause-read c = starts_weaker (λ d is. c.step_on.ensures.read ∙ ap (step_on c.args.finder.now c.args.place) is
    ∙ sym (step_of_few c.args.finder.now c.args.place d)) c.in_ok-items.ensures.read

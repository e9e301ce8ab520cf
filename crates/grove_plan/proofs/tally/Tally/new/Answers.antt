use Rattle.std.proofs.Common.{replicate, refl, ◌∙◌, ap}
use Rattle.grove_plan.specs.declared.tally.Hold.TheVariants.{Free}
use Rattle.grove_plan.proofs.TallyState.{tally_starts}
use Rattle.grove_plan.proofs.tally.Tally.new.Goals as goal

pub returns : goal.returns
returns c = λ lengths plan. tally_starts c.args.tree.now plan _ (c.in_ok-holds.ensures.items_if_clones_equal (λ y e. e) ∙ ap (λ n. replicate n Free) c.len.ensures.number) refl refl refl refl

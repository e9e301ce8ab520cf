use Rattle.std.proofs.Common.{◌≡◌, ◌++◌, slice_index}
use Rattle.std.specs.Prelude.{flat_map}
use Rattle.grove_base.specs.Numbers.{numbers_below}
use Rattle.grove_gauge.specs.Expositions.{head_text}
use Rattle.grove_gauge.specs.declared.families.Family.TheVariants.{NodeWaits}
use Rattle.grove_serve.specs.MetricsTexts.{node_text}
use Rattle.grove_serve.proofs.metrics_text.write_waits.Given as goal

abbrev pub invariant-loop-number : goal.invariant-loop-number
invariant-loop-number l = l.text ≡ l.fn.text ++ head_text NodeWaits
    ++ flat_map (λ node. node_text NodeWaits l.tree node (slice_index l.waits node)) (numbers_below l.number)

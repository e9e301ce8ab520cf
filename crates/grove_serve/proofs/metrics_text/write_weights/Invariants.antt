use Rattle.std.proofs.Common.{◌≡◌, ◌++◌}
use Rattle.std.specs.Prelude.{flat_map}
use Rattle.grove_base.specs.Numbers.{numbers_below}
use Rattle.grove_gauge.specs.Expositions.{head_text}
use Rattle.grove_gauge.specs.declared.families.Family.TheVariants.{NodeWeight}
use Rattle.grove_serve.specs.MetricsTexts.{node_text}
use Rattle.grove_tree.specs.Trees.{weight_of}
use Rattle.grove_serve.proofs.metrics_text.write_weights.Given as goal

abbrev pub invariant-loop-number : goal.invariant-loop-number
invariant-loop-number l = l.text ≡ l.fn.text ++ head_text NodeWeight
    ++ flat_map (λ node. node_text NodeWeight l.tree node (weight_of l.tree node)) (numbers_below l.number)

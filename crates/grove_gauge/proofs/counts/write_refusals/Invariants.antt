use Rattle.std.proofs.Common.{◌≡◌, ◌++◌, take}
use Rattle.std.specs.Prelude.{flat_map}
use Rattle.grove_gauge.specs.Counts.{refusal_text}
use Rattle.grove_gauge.specs.Expositions.{head_text}
use Rattle.grove_gauge.specs.declared.families.Family.TheVariants.{Refused}
use Rattle.grove_gauge.proofs.counts.write_refusals.Given as goal

abbrev pub invariant-loop-refusal : goal.invariant-loop-refusal
invariant-loop-refusal l =
    l.text ≡ l.fn.text ++ head_text Refused ++ flat_map refusal_text (take l.refusal-index l.refusals)

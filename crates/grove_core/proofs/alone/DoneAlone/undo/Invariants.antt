use Rattle.std.proofs.Common.{◌≡◌, length, reverse, vec_len}
use Rattle.grove_access.specs.Effects.{records_after}
use Rattle.grove_access.specs.Lists.{nodes_of, AreBelow}
use Rattle.grove_core.proofs.alone.DoneAlone.undo.Given as goal

abbrev pub invariant-loop-access : goal.invariant-loop-access
invariant-loop-access l = record {
  left : records_after (reverse l.overwritten.items) l.records
      ≡ records_after (reverse l.initial.overwritten.items) l.initial.records;
  within : AreBelow (length l.records) (nodes_of l.overwritten.items);
}

abbrev pub decreases-loop-access : goal.decreases-loop-access
decreases-loop-access l = vec_len l.overwritten

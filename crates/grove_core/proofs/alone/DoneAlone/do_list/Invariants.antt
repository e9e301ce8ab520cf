use Rattle.std.proofs.Common.{take}
use Rattle.grove_core.specs.Doing.{Does}
use Rattle.grove_core.proofs.alone.DoneAlone.do_list.Given as goal

abbrev pub invariant-loop-place : goal.invariant-loop-place
invariant-loop-place l = Does (take l.place l.list) l.initial.records l.records l.initial.self l.self

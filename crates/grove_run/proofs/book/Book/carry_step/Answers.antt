use Rattle.std.proofs.Common.{arith}
use Rattle.std.proofs.lemmas.Bool.{both_ways}
use Rattle.grove_run.proofs.Stepping.{step_read, has_room}
use Rattle.grove_run.proofs.book.Book.carry_step.Goals as goal

pub returns-in-Some-clause-foreign : goal.returns-in-Some-clause-foreign
returns-in-Some-clause-foreign c = grind (arith, both_ways, has_room, step_read)

pub returns-in-Some-clause-kept : goal.returns-in-Some-clause-kept
returns-in-Some-clause-kept c = grind (arith, both_ways, has_room, step_read)

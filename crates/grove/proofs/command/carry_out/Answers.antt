use Rattle.grove.proofs.command.carry_out.Goals as goal

pub returns-in-Err-clause-done : goal.returns-in-Err-clause-done
returns-in-Err-clause-done g c = rw c.say_stop.ensures c.in-Err.ensures.stopped

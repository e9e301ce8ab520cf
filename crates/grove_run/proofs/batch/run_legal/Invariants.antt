use Rattle.grove_run.proofs.batch.run_legal.Given as goal

abbrev pub ghosts-do_together : goal.ghosts-do_together
ghosts-do_together g a = record { tree = a.core.tree; jobs = a.core.jobs; opening = a.core.opening }

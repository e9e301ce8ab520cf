use Rattle.grove_run.proofs.working.+chain.Given as goal

abbrev pub decreases-join+arg2 : goal.decreases-join+arg2
decreases-join+arg2 g l = l.others

abbrev pub decreases-work_all : goal.decreases-work_all
decreases-work_all g l = l.workers

use Rattle.std.proofs.Common.{ℕ, ◌∙◌, ap, arith}
use Rattle.std.proofs.lemmas.Bool.{both_ways}
use Rattle.grove_core.specs.Runs.{next_step}
use Rattle.grove_core.specs.Kept.{past_of}
use Rattle.grove_run.proofs.Stepping.{lock_within, lock_not_out, blocked_at}
use Rattle.grove_run.proofs.book.lock.Goals as goal

pub value-value-requires : goal.value-value-requires
value-value-requires c = lock_within c.args.core.now.tree c.args.core.now.jobs (past_of c.args.core.now) c.args.carry.now.txn c.args.node c.requires.legal c.requires.next

pub try_lock-requires : goal.try_lock-requires
try_lock-requires c = ap (λ (t : ℕ). next_step c.args.core.now.jobs (past_of c.args.core.now) t) c.txn-txn.ensures.txn ∙ c.requires.next

pub mark-requires : goal.mark-requires
mark-requires c = grind (arith, blocked_at)

pub returns-in-Ok-2-clause-fits : goal.returns-in-Ok-2-clause-fits
returns-in-Ok-2-clause-fits c = grind (arith, both_ways, lock_not_out)

pub returns-in-Err-clause-done : goal.returns-in-Err-clause-done
returns-in-Err-clause-done c = grind (arith, blocked_at)

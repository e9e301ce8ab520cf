use Rattle.std.proofs.Common.{ℕ, ◌∙◌, ap}
use Rattle.grove_core.specs.declared.event.Event.TheVariants.{Take}
use Rattle.grove_core.specs.Runs.{next_step}
use Rattle.grove_core.specs.Kept.{past_of}
use Rattle.grove_run.specs.Books.{after_event}
use Rattle.grove_run.proofs.book.unlock.Goals as goal

pub unlock-requires : goal.unlock-requires
unlock-requires c = ap (λ (t : ℕ). next_step c.args.core.now.jobs (past_of c.args.core.now) t) c.txn.ensures.txn ∙ c.requires.next

pub returns-in-Some-clause-done : goal.returns-in-Some-clause-done
returns-in-Some-clause-done c = λ other.
    (c.unlock.ensures ∙ ap (λ (t : ℕ). after_event c.args.core.now (Take t)) c.txn.ensures.txn, c.in-Some.ensures.without)

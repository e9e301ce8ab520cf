use Rattle.std.proofs.Common.{◌≡◌, map}
use Rattle.grove_base.specs.Numbers.{numbers_below}
use Rattle.grove_core.specs.Kept.{past_of}
use Rattle.grove_core.specs.Runs.{run_replies}
use Rattle.grove_core.proofs.replies.replies_of.Given as goal

abbrev pub invariant-loop-txn : goal.invariant-loop-txn
invariant-loop-txn l = map (λ list. list.now) l.replies.items
    ≡ map (run_replies l.core.jobs l.core.opening (past_of l.core)) (numbers_below l.txn)

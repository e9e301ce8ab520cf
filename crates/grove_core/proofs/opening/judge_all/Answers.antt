use Rattle.std.proofs.Common.{◌≡◌, Some, sym, below_more, arith}
use Rattle.std.specs.List.{slice_get, slice_index_or}
use Rattle.grove_access.specs.Lists.{nodes_of}
use Rattle.grove_plan.specs.Plans.{IsLegal}
use Rattle.grove_core.specs.Runs.{list_of, plan_of}
use Rattle.grove_base.proofs.Lists.{read_at}
use Rattle.grove_core.proofs.RunSteps.{list_of_at, plan_of_at}
use Rattle.grove_core.proofs.CoreOpens.{first_fault, job_fault_at}
use Rattle.grove_core.proofs.opening.judge_all.Goals as goal

pub judge_job-requires : goal.judge_job-requires
judge_job-requires c = grind (arith, list_of_at, read_at)

pub returns-in-Err-clause-fault : goal.returns-in-Err-clause-fault
returns-in-Err-clause-fault c = grind (arith, first_fault, read_at)

pub loop-txn-preserved : goal.loop-txn-preserved
loop-txn-preserved c =
    let job : slice_get c.args.jobs.now c.loop-txn.txn ≡ Some c.index-jobs-txn.result =
    read_at c.args.jobs.now c.loop-txn.txn c.index-jobs-txn.result c.loop-txn-test.true c.index-jobs-txn.is in
    let same : slice_index_or c.args.jobs.now c.loop-txn.txn c.index-jobs-txn.result ≡ c.index-jobs-txn.result = sym c.index-jobs-txn.is in
    record {
      legal = below_more (λ t. IsLegal c.args.tree.now (nodes_of (list_of c.args.jobs.now t)) (plan_of c.args.jobs.now t)) c.loop-txn.txn c.loop-txn.invariant.legal
          (rw (list_of_at c.args.jobs.now c.loop-txn.txn c.index-jobs-txn.result job, plan_of_at c.args.jobs.now c.loop-txn.txn c.index-jobs-txn.result job) c.in_default.ensures.legal);
      faultless = grind (arith, job_fault_at);
    }

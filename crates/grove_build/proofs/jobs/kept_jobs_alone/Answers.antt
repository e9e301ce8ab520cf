use Rattle.std.proofs.Common.{List, subst}
use Rattle.std.specs.List.{AllZip}
use Rattle.std.proofs.lemmas.Result.{IfOk-weaker}
use Rattle.grove_access.specs.declared.access.Access.{Access}
use Rattle.grove_build.proofs.SettledJobs.{IsSettledFor, settled_are}
use Rattle.grove_build.proofs.jobs.kept_jobs_alone.Goals as goal

pub returns-clause-jobs : goal.returns-clause-jobs
returns-clause-jobs c =
    let AreFor : List (List Access) → Type 0 = λ lists.
    AllZip (IsSettledFor c.args.tree.now) lists c.in_ok-settled.settled.items in
    let settled : AreFor c.args.lists.items = subst AreFor c.deref.ensures.value c.in_ok-settled.ensures.plans in
    IfOk-weaker c.jobs_of.result _ _
    (λ jobs. settled_are c.args.tree.now c.args.lists.items c.in_ok-settled.settled.items jobs.items settled)
    c.jobs_of.ensures

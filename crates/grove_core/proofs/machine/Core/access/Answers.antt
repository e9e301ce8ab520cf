use Rattle.std.proofs.Common.{◌≡◌, ℕ, ◌<◌, List, length, refl, ◌∙◌, ap, subst, arith}
use Rattle.std.specs.List.{slice_get, slice_index_or}
use Rattle.std.specs.Vec.{vec_capacity}
use Rattle.grove_base.proofs.Lists.{read_at}
use Rattle.grove_access.specs.declared.reply.Reply.{Reply}
use Rattle.grove_plan.specs.declared.step.Step.TheVariants as plan_step
use Rattle.grove_core.specs.declared.job.Job.{Job}
use Rattle.grove_core.specs.declared.event.Event.TheVariants.{Take}
use Rattle.grove_core.specs.Cores.{IsAnswered}
use Rattle.grove_core.specs.Runs.{list_of}
use Rattle.grove_core.proofs.CoreReads.{seen, closed, next_read, progress_there, steps_small, accessed_within, access_listed, event_room, reply_room}
use Rattle.grove_core.proofs.CoreSteps.{job_there, may_access, core_accessed}
use Rattle.grove_core.proofs.RunSteps.{list_of_at}
use Rattle.grove_core.proofs.machine.Core.access.Goals as goal

pub bounds-self-inside-txn : goal.bounds-self-inside-txn
bounds-self-inside-txn c = job_there c.self.invariant c.args.txn (plan_step.Access c.args.access) (rw (← c.self.view_is) at c.requires)

-- the list that is read of a job
list_there : (jobs : List Job) (t : ℕ) (job : Job) → t < length jobs → job ≡ slice_index_or jobs t job → list_of jobs t ≡ (slice_index_or jobs t job).list
list_there jobs t job within is = list_of_at jobs t job (read_at jobs t job within is) ∙ ap (λ (j : Job). j.list) is

pub get-access-requires : goal.get-access-requires
get-access-requires c =
    let next = rw (← c.self.view_is) at c.requires in
    let list = list_there c.self.inside.jobs.now c.args.txn c.index-self-txn.result (job_there c.self.invariant c.args.txn (plan_step.Access c.args.access) next) c.index-self-txn.is in
    subst (λ l. c.args.access < length l) list (access_listed c.self.invariant c.args.txn c.args.access next)

pub apply-reply-requires : goal.apply-reply-requires
apply-reply-requires c =
    let next = rw (← c.self.view_is) at c.requires in
    let list = list_there c.self.inside.jobs.now c.args.txn c.index-self-txn.result (job_there c.self.invariant c.args.txn (plan_step.Access c.args.access) next) c.index-self-txn.is in
    accessed_within c.self.invariant c.args.txn c.args.access c.get-access.result next (ap (λ l. slice_get l c.args.access) list ∙ c.get-access.ensures)

pub index_mut-progress-requires : goal.index_mut-progress-requires
index_mut-progress-requires c =
    let lt : c.args.txn < length c.self.inside.progress.items = progress_there (seen c.self.view_is c.self.invariant) c.args.txn (plan_step.Access c.args.access) c.requires in
    omega arith

pub answer-requires : goal.answer-requires
answer-requires c =
    let core = seen c.self.view_is c.self.invariant in
    let h = next_read core c.args.txn (plan_step.Access c.args.access) c.requires c.index_mut-progress.ensures.value in
    let room : length c.index_mut-progress.result.now.replies.items < c.index_mut-progress.result.now.replies.capacity = reply_room core c.args.txn c.args.access c.requires h in
    record { few = steps_small core c.args.txn (plan_step.Access c.args.access) c.requires h; room = omega arith }

pub push_reserved-requires : goal.push_reserved-requires
push_reserved-requires c =
    let room : length c.self.inside.history.items < vec_capacity c.self.inside.history =
    event_room c.self.view_is c.self.invariant (Take c.args.txn) (may_access (seen c.self.view_is c.self.invariant) c.args.txn c.args.access c.requires) in
    omega arith

pub invariant_of-self : goal.invariant_of-self
invariant_of-self c =
    let next = rw (← c.self.view_is) at c.requires in
    let h = next_read c.self.invariant c.args.txn (plan_step.Access c.args.access) next c.index_mut-progress.ensures.value in
    let list = list_there c.self.inside.jobs.now c.args.txn c.index-self-txn.result (job_there c.self.invariant c.args.txn (plan_step.Access c.args.access) next) c.index-self-txn.is in
    let answered = subst (λ (reply : Reply). IsAnswered reply c.index_mut-progress.result.now c.answer.new.self) c.apply-reply.ensures.reply c.answer.ensures in
    rw c.apply-reply.ensures.records
    (closed c.push_reserved.new.self.items (vec_capacity c.push_reserved.new.self) refl c.push_reserved.ensures.items c.push_reserved.ensures.capacity
    (core_accessed c.self.invariant c.args.txn c.args.access c.get-access.result next (ap (λ l. slice_get l c.args.access) list ∙ c.get-access.ensures) h answered))

-- What a core keeps, as its functions read it: what there is room for, and what may happen next.
use Rattle.std.proofs.Common.{◌≡◌, ℕ, suc, ◌+◌, ◌^◌, ◌<◌, ◌≤◌, true, false, List, [], ◌∷◌, ◌++◌, length, reverse, get_or, ltb, Option, Some, None, sym, ◌∙◌, ap, subst, arith}
use Rattle.std.specs.List.{slice_get}
use Rattle.std.proofs.lemmas.List.{reverse-append, length-reverse}
use Rattle.std.proofs.lemmas.Option.{slice_get_within}
use Rattle.std.proofs.lemmas.Bool.{ltb-true, eqb-true}
use Rattle.grove_base.specs.Numbers.{count_below}
use Rattle.grove_base.proofs.Counting.{count_hit, count_mono}
use Rattle.grove_base.proofs.Lists.{read_at}
use Rattle.grove_access.specs.declared.access.Access.{Access}
use Rattle.grove_plan.specs.declared.step.Step.{Step}
use Rattle.grove_plan.specs.declared.step.Step.TheVariants.{Lock, Unlock}
use Rattle.grove_plan.specs.declared.step.Step.TheVariants as plan_step
use Rattle.grove_plan.specs.Plans.{is_lock}
use Rattle.grove_plan.proofs.Held.{HeldAt, held_not}
use Rattle.grove_core.specs.declared.job.Job.{Job}
use Rattle.grove_core.specs.declared.event.Event.{Event}
use Rattle.grove_core.specs.declared.owner.Owner.{Owner}
use Rattle.grove_core.specs.declared.progress.Progress.{Progress}
use Rattle.grove_core.specs.Runs.{list_of, plan_of, steps_done, next_step, holds, MayHappen, deeds}
use Rattle.grove_core.specs.RunBounds.{lock_steps}
use Rattle.grove_core.specs.Kept.{CoreState, past_of}
use Rattle.grove_core.specs.Owners.{holder_of, last_holder_of}
use Rattle.grove_core.specs.CarriedTests.{is_owner}
use Rattle.grove_core.specs.Cores.{Run, run_of, after, HasProgress, Owns, IsLastAt, IsOwned, Tables, IsCore}
use Rattle.grove_core.proofs.Precedence.{within_jobs}
use Rattle.grove_core.proofs.ConflictOrder.{access_held}
use Rattle.grove_core.proofs.RunBounds.{history_bound, accessing, waits_most}
use Rattle.grove_core.proofs.RunSteps.{plan_of_at, deeds_length}
use Rattle.grove_core.proofs.NeverStalls.{steps_within}
use Rattle.grove_core.proofs.CoreSteps.{job_there, holding_before}

-- the latest event stands first
pub reverse_last : {A : Type 0} (xs : List A) (x : A) → reverse (xs ++ x ∷ []) ≡ x ∷ reverse xs
reverse_last xs x = reverse-append xs (x ∷ [])

-- what a lookup finds stands there
pub found : {A : Type 0} {items looked : List A} {n number : ℕ} {x : A} → looked ≡ items → number ≡ n → ltb number (length looked) ≡ true → x ≡ get_or looked number x → slice_get items n ≡ Some x
found {A} {items} {looked} {n} {number} {x} same is lt read = grind (arith, ltb-true, read_at)

-- what the fields keep is kept of the core that callers see
pub seen : {core value : CoreState} {kept : Tables} → core ≡ value → IsCore (run_of core) kept → IsCore (run_of value) kept
seen {core} {value} {kept} is h = subst (λ (c : CoreState). IsCore (run_of c) kept) is h

module _ {run : Run} {kept : Tables} (core : IsCore run kept) where
  -- how far a job has come, by what is read of it
  pub job_read : (t : ℕ) → t < length run.jobs → {p : Progress} → p ≡ get_or kept.progress t p → HasProgress run t p
  job_read t lt {p} read = core.come t p (read_at kept.progress t p (let all : length kept.progress ≡ length run.jobs = core.all_jobs in omega arith) read)

  -- and a job with a next step
  pub next_read : (t : ℕ) (s : Step) → next_step run.jobs run.past t ≡ Some s → {p : Progress} → p ≡ get_or kept.progress t p → HasProgress run t p
  next_read t s next {p} read = job_read t (job_there core t s next) read

  -- its progress is there
  pub progress_there : (t : ℕ) (s : Step) → next_step run.jobs run.past t ≡ Some s → t < length kept.progress
  progress_there t s next = let lt : t < length run.jobs = job_there core t s next in let all : length kept.progress ≡ length run.jobs = core.all_jobs in omega arith

  -- a job has done few steps
  pub steps_few : (t : ℕ) → t < length run.jobs → steps_done run.past t < 2 ^ 32
  steps_few t lt = omega (arith, steps_within run.jobs run.past core.is_run t, core.short t lt)

  pub steps_small : (t : ℕ) (s : Step) → next_step run.jobs run.past t ≡ Some s → {p : Progress} → HasProgress run t p → p.steps_done < 2 ^ 32
  steps_small t s next {p} h = grind (arith, job_there, steps_few)

  -- and holds no more nodes
  pub held_few : (t : ℕ) {p : Progress} → HasProgress run t p → p.held_nodes ≤ p.steps_done
  held_few t {p} h = grind (arith)

  -- there is a record for each node
  pub records_all : length kept.records ≡ length run.tree
  records_all = ap length core.recorded ∙ deeds_length (deeds run.jobs run.past) run.opening ∙ core.opened

  -- also for one that is accessed
  pub accessed_within : (t number : ℕ) (visit : Access) → next_step run.jobs run.past t ≡ Some (plan_step.Access number) → slice_get (list_of run.jobs t) number ≡ Some visit → visit.node < length kept.records
  accessed_within t number visit next listed =
      let at : HeldAt (plan_of run.jobs t) visit.node (steps_done run.past t) = access_held run.tree run.jobs core.legal t (steps_done run.past t) number visit next listed in
      grind (arith, job_there, records_all)

  -- an access that comes next is one of the list
  pub access_listed : (t number : ℕ) → next_step run.jobs run.past t ≡ Some (plan_step.Access number) → number < length (list_of run.jobs t)
  access_listed t number next = (accessing run.tree run.jobs core.legal run.opening run.past core.is_run t number next).listed

  -- and there is room for its reply
  pub reply_room : (t number : ℕ) → next_step run.jobs run.past t ≡ Some (plan_step.Access number) → {p : Progress} → HasProgress run t p → length p.replies.items < p.replies.capacity
  reply_room t number next {p} h =
      omega (
        arith,
        (accessing run.tree run.jobs core.legal run.opening run.past core.is_run t number next).fewer,
        ap length h.answers,
        h.room,
      )

  -- for a lock
  pub lock_room : (t node : ℕ) → next_step run.jobs run.past t ≡ Some (Lock node) → {p : Progress} → HasProgress run t p → length p.locked.items < p.locked.capacity
  lock_room t node next {p} h =
      let f = λ (i : ℕ). is_lock (slice_get (plan_of run.jobs t) i) in
      let more : count_below (suc (steps_done run.past t)) f ≤ lock_steps (plan_of run.jobs t) =
      count_mono (suc (steps_done run.past t)) (length (plan_of run.jobs t)) f (slice_get_within (plan_of run.jobs t) (steps_done run.past t) (Lock node) next) in
      omega (arith, h.locks, count_hit (steps_done run.past t) f (ap is_lock next), h.spare)

  -- and for a wait
  pub wait_room : (node count : ℕ) → slice_get kept.waits node ≡ Some count → count + 1 < 2 ^ 32
  wait_room node count at =
      omega (
        arith,
        core.waited node count at,
        waits_most run.tree run.jobs core.legal run.past core.is_run node,
        core.few,
      )

  -- a job that unlocks a node holds some
  pub unlocks_some : (t node : ℕ) → next_step run.jobs run.past t ≡ Some (Unlock node) → {p : Progress} → HasProgress run t p → 0 < p.held_nodes
  unlocks_some t node next {p} h = grind (arith, holding_before)

  -- whether a job is at its end, by what is read of its progress and of its plan
  module _ (t : ℕ) (lt : t < length run.jobs) {p : Progress} (read : p ≡ get_or kept.progress t p) {job : Job} (is : job ≡ get_or run.jobs t job) {steps : List Step} (same : steps ≡ job.plan) where
    size : length steps ≡ length (plan_of run.jobs t)
    size = ap length (same ∙ sym (plan_of_at run.jobs t job (read_at run.jobs t job lt is)))

    pub not_ended : p.steps_done < length steps → steps_done run.past t < length (plan_of run.jobs t)
    not_ended less = let at : p.steps_done ≡ steps_done run.past t = (job_read t lt read).at in omega (arith, size)

    pub ended : length steps ≤ p.steps_done → steps_done run.past t ≡ length (plan_of run.jobs t)
    ended le = grind (arith, job_read, size, steps_within)

  -- the tables have an entry for each node
  pub owner_there : (node : ℕ) → node < length run.tree → node < length kept.owners
  owner_there node lt = let e : length kept.owners ≡ length run.tree = core.all_owners in omega arith

  pub wait_there : (node : ℕ) → node < length run.tree → node < length kept.waits
  wait_there node lt = let e : length kept.waits ≡ length run.tree = core.all_waits in omega arith

  -- which is read at the node's number
  pub owner_read : (node number : ℕ) → node < length run.tree → number ≡ node → (owner : Owner) → owner ≡ get_or kept.owners number owner → IsOwned run.jobs run.past node owner
  owner_read node number within same owner read =
      core.owned node owner (read_at kept.owners node owner (owner_there node within) (subst (λ (n : ℕ). owner ≡ get_or kept.owners n owner) same read))

  pub wait_read : (node number : ℕ) → node < length run.tree → number ≡ node → (count : ℕ) → count ≡ get_or kept.waits number count → slice_get kept.waits node ≡ Some count
  wait_read node number within same count read = grind (arith, read_at, wait_there)

  -- who holds the node
  pub holder_seen : (node number : ℕ) → node < length run.tree → number ≡ node → (owner : Owner) → owner ≡ get_or kept.owners number owner → (o : Option ℕ) → holder_of owner ≡ o → Owns run.jobs run.past node o
  holder_seen node number within same owner read o is = subst (λ (x : Option ℕ). Owns run.jobs run.past node x) is (owner_read node number within same owner read).0

  -- which job locked it last
  last_tells : (t node : ℕ) (last : Option ℕ) → IsLastAt run.jobs run.past node last → is_owner last t ≡ true → IsLastAt run.jobs run.past node (Some t)
  last_tells t node None h yes' = absurd (cc)
  last_tells t node (Some w) h yes' = subst (λ (k : ℕ). IsLastAt run.jobs run.past node (Some k)) (eqb-true w t yes') h

  pub last_seen : (t node number : ℕ) → node < length run.tree → number ≡ node → (owner : Owner) → owner ≡ get_or kept.owners number owner → is_owner (last_holder_of owner) t ≡ true → IsLastAt run.jobs run.past node (Some t)
  last_seen t node number within same owner read yes' = last_tells t node (last_holder_of owner) (owner_read node number within same owner read).1 yes'

  -- beyond the last node nothing is held
  pub owner_past : (t node : ℕ) → length kept.owners ≤ node → holds run.jobs run.past t node ≡ false
  owner_past t node beyond = grind (arith, held_not, within_jobs)

-- there is room for an event that may happen
pub event_room : {core value : CoreState} {kept : Tables} → core ≡ value → IsCore (run_of core) kept → (event : Event) → MayHappen value.jobs (past_of value) event → length core.history < kept.room
event_room {core} {value} {kept} is h event may =
    omega (
      arith,
      length-reverse core.history,
      history_bound core.jobs (event ∷ reverse core.history) (rw (← is) at may, h.is_run),
      h.room,
    )

-- and then the fields keep what they have to
pub closed : {core value : CoreState} {event : Event} {kept : Tables} (items : List Event) (room : ℕ) → core ≡ value → items ≡ core.history ++ event ∷ [] → room ≡ kept.room
    → IsCore (after (run_of value) event) kept → IsCore (record (run_of core) { past = reverse items }) (record kept { room = room })
closed {core} {value} {event} {kept} items room is e f h = grind (arith, reverse_last)

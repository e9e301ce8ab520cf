-- What a core keeps, after each kind of event.
use Rattle.std.proofs.Common.{◌≡◌, ◌≢◌, ℕ, suc, ◌+◌, ◌<◌, ◌≤◌, ℤ, true, false, eqb, List, [], ◌∷◌, ◌++◌, length, set}
use Rattle.std.proofs.Common.{Option, Some, None, refl, sym, ◌∙◌, ap, subst, inl, inr, arith, add-one, length-append}
use Rattle.std.specs.List.{slice_get}
use Rattle.std.specs.Prelude.{IfSome, IfNone}
use Rattle.smallvec.specs.SmallVec.{SmallVec}
use Rattle.std.proofs.lemmas.List.{length-set}
use Rattle.std.proofs.lemmas.Option.{same_Some, slice_get_within}
use Rattle.std.proofs.lemmas.Bool.{cases_eq, both_ways, eq-eqb, ne_eqb, cond-true, cond-false}
use Rattle.grove_base.specs.Numbers.{count_below}
use Rattle.grove_access.specs.declared.access.Access.{Access}
use Rattle.grove_access.specs.declared.reply.Reply.{Reply}
use Rattle.grove_access.specs.Effects.{changed_by, reply_to}
use Rattle.grove_plan.specs.declared.step.Step.{Step}
use Rattle.grove_plan.specs.declared.step.Step.TheVariants.{Lock, Unlock}
use Rattle.grove_plan.specs.declared.step.Step.TheVariants as plan_step
use Rattle.grove_plan.specs.Plans.{locks, is_lock, unlocks, held, ObeysTreeProtocol}
use Rattle.grove_plan.proofs.Held.{locks_from, held_step_lock, held_step_unlock, lock_same, HeldAt, held_at}
use Rattle.grove_core.specs.declared.job.Job.{Job}
use Rattle.grove_core.specs.declared.event.Event.TheVariants.{Take, Mark}
use Rattle.grove_core.specs.declared.locking.Locked.{Locked}
use Rattle.grove_core.specs.declared.progress.Progress.{Progress}
use Rattle.grove_core.specs.Runs.{list_of, plan_of, steps_done, next_step, holds, is_marked, IsFree, IsHeldBy, MayHappen, deed_of, run_records, run_replies, waits_of}
use Rattle.grove_core.specs.RunBounds.{lock_steps}
use Rattle.grove_core.specs.Orders.{lock_time, earlier}
use Rattle.grove_core.specs.declared.owner.Owner.{Owner}
use Rattle.grove_core.specs.declared.owner.Owner.TheVariants.{Nobody, Holder, Last}
use Rattle.grove_core.specs.Owners.{holder_of}
use Rattle.grove_core.specs.Cores.{time_in, IsFirst, KeepsLock, IsLocked, IsUnlocked, IsAnswered, IsMarked, Run, after, HasProgress, Owns, IsLastAt, IsOwned, Tables, IsCore}
use Rattle.grove_core.proofs.Precedence.{within_jobs}
use Rattle.grove_core.proofs.CountChanges.{count_agree}
use Rattle.grove_core.proofs.StepTimes.{steps_new, steps_other}
use Rattle.grove_core.proofs.LockTimes.{time_added, time_kept, none_before}
use Rattle.grove_core.proofs.RunSteps.{lock_time_kept, lock_time_other, lock_time_new, locks_lock, idle_records, idle_replies, accessed_records, accessed_replies, other_replies}
use Rattle.grove_base.proofs.Counting.{count_hit, count_mono}
use Rattle.grove_base.proofs.Lists.{get_set_same, get_set_other, item_there}
use Rattle.grove_core.proofs.OwnerSteps.{last_same, owned_same, none_later, holds_other, holds_same, holding_locked, holding_unlocked, owned_after}

-- The progress of each job

-- how many of a job's first steps are locks
abbrev locks_below : List Job → ℕ → ℕ → ℕ
locks_below jobs t n = count_below n (λ i. is_lock (slice_get (plan_of jobs t) i))

-- one step more has as many
locks_grow : (jobs : List Job) (t n : ℕ) → locks_below jobs t n ≤ locks_below jobs t (suc n)
locks_grow jobs t n = count_mono n (suc n) (λ i. is_lock (slice_get (plan_of jobs t) i)) (omega arith)

progress_other : (run : Run) (t u : ℕ) (p : Progress) → t ≢ u → HasProgress run u p → HasProgress (after run (Take t)) u p
progress_other run t u p ne h = grind (arith, cond-false, lock_time_other, ne_eqb, other_replies, steps_other)

-- of the job that took a step
progress_taken : (run : Run) (t : ℕ) (p q : Progress) → HasProgress run t p
    → q.steps_done ≡ p.steps_done + 1 → q.marked ≡ false → q.replies.items ≡ run_replies run.jobs run.opening (Take t ∷ run.past) t → q.replies.capacity ≡ p.replies.capacity
    → q.locked.capacity ≡ p.locked.capacity → length q.locked.items ≤ locks_below run.jobs t (suc (steps_done run.past t))
    → ((node : ℕ) → IsFirst run.jobs node → time_in q.locked.items node ≡ lock_time run.jobs (Take t ∷ run.past) t node)
    → q.held_nodes ≡ count_below (length run.tree) (λ node. holds run.jobs (Take t ∷ run.past) t node) → q.held_nodes ≤ p.held_nodes + 1
    → HasProgress (after run (Take t)) t q
progress_taken run t p q h at marks answers room spare locks times holding held =
    grind (arith, add-one, cond-true, eq-eqb, steps_new)

-- of all jobs
all_progress : (P : ℕ → Progress → Type 0) (Q : ℕ → Progress → Type 0) (progress : List Progress) (t : ℕ) (q : Progress)
    → ((u : ℕ) (p : Progress) → slice_get progress u ≡ Some p → P u p) → ((u : ℕ) (p : Progress) → t ≢ u → P u p → Q u p) → Q t q
    → (u : ℕ) (p : Progress) → slice_get (set progress t q) u ≡ Some p → Q u p
all_progress P Q progress t q all more here u p h =
    grind (arith, cases_eq, get_set_other, get_set_same, length-set, same_Some, slice_get_within)

-- The core after a step

module _ {run : Run} {kept : Tables} (core : IsCore run kept) where
  core_taken : (t : ℕ) → MayHappen run.jobs run.past (Take t) → (records : List ℤ) → records ≡ run_records run.jobs run.opening (Take t ∷ run.past) → (q : Progress)
      → HasProgress (after run (Take t)) t q → (owners : List Owner) → length owners ≡ length run.tree
      → ((node : ℕ) (o : Owner) → slice_get owners node ≡ Some o → IsOwned run.jobs (Take t ∷ run.past) node o)
      → IsCore (after run (Take t)) (record kept { records = records; progress = set kept.progress t q; owners = owners })
  core_taken t may records recorded q come owners all_owners owned = record {
    tree = core.tree;
    few = core.few;
    legal = core.legal;
    short = core.short;
    opened = core.opened;
    is_run = (may, core.is_run);
    room = core.room;
    recorded = recorded;
    all_jobs = length-set kept.progress t q ∙ core.all_jobs;
    come = all_progress (HasProgress run) (HasProgress (after run (Take t))) kept.progress t q core.come (λ u p ne h. progress_other run t u p ne h) come;
    all_owners = all_owners;
    owned = owned;
    all_waits = core.all_waits;
    waited = core.waited;
    firsts = core.firsts;
  }

  -- a job with a next step is there
  pub job_there : (t : ℕ) (s : Step) → next_step run.jobs run.past t ≡ Some s → t < length run.jobs
  job_there t s next = within_jobs run.jobs t (steps_done run.past t) s next

  -- and its plan obeys the tree protocol
  obeying : (t : ℕ) (s : Step) → next_step run.jobs run.past t ≡ Some s → ObeysTreeProtocol run.tree (plan_of run.jobs t)
  obeying t s next = (core.legal t (job_there t s next)).obeys

  -- a node that is to be locked is one of the tree
  pub locked_within : (t node : ℕ) → next_step run.jobs run.past t ≡ Some (Lock node) → node < length run.tree
  locked_within t node next = (obeying t (Lock node) next).locks_nodes (steps_done run.past t) node next

  -- a job that unlocks a node holds it
  unlocks_held : (t node : ℕ) → next_step run.jobs run.past t ≡ Some (Unlock node) → holds run.jobs run.past t node ≡ true
  unlocks_held t node next = (obeying t (Unlock node) next).unlocks_held (steps_done run.past t) node next

  -- a node that a job holds is one of the tree
  pub held_within : (t node : ℕ) → holds run.jobs run.past t node ≡ true → node < length run.tree
  held_within t node held =
      let lock : HeldAt (plan_of run.jobs t) node (steps_done run.past t) = held_at (plan_of run.jobs t) node (steps_done run.past t) held in
      (core.legal t (within_jobs run.jobs t lock.at (Lock node) lock.is_lock)).obeys.locks_nodes lock.at node lock.is_lock

  pub unlocked_within : (t node : ℕ) → next_step run.jobs run.past t ≡ Some (Unlock node) → node < length run.tree
  unlocked_within t node next = held_within t node (unlocks_held t node next)

  -- what may be done
  pub may_lock : (t node : ℕ) → next_step run.jobs run.past t ≡ Some (Lock node) → IsFree run.jobs run.past t node → MayHappen run.jobs run.past (Take t)
  may_lock t node next free = (Lock node, next, λ n e. subst (λ (k : ℕ). IsFree run.jobs run.past t k) (lock_same node n e) free)

  pub may_unlock : (t node : ℕ) → next_step run.jobs run.past t ≡ Some (Unlock node) → MayHappen run.jobs run.past (Take t)
  may_unlock t node next = (Unlock node, next, λ n e. absurd (cc))

  pub may_access : (t number : ℕ) → next_step run.jobs run.past t ≡ Some (plan_step.Access number) → MayHappen run.jobs run.past (Take t)
  may_access t number next = (plan_step.Access number, next, λ n e. absurd (cc))

  -- a lock adds at most one to those that are kept
  kept_size : (p q : Progress) (lock : Option Locked) → KeepsLock p.locked q.locked lock → length q.locked.items ≤ length p.locked.items + 1
  kept_size p q None keeps = grind (arith)
  kept_size p q (Some lock) keeps = grind (arith, length-append)

  -- and the times are those of all nodes that some job locks first
  kept_times : (t node : ℕ) → next_step run.jobs run.past t ≡ Some (Lock node) → (p q : Progress) → HasProgress run t p
      → (lock : Option Locked) → IfSome lock (λ l. l ≡ record { node = node; time = length run.past }) → IfNone lock (IsFirst run.jobs node → ⊥)
      → KeepsLock p.locked q.locked lock
      → (n : ℕ) → IsFirst run.jobs n → time_in q.locked.items n ≡ lock_time run.jobs (Take t ∷ run.past) t n
  kept_times t node next p q h None is left keeps n first = grind (arith, lock_time_kept, locks_lock)
  kept_times t node next p q h (Some lock) is left keeps n first =
      let new : Locked = record { node = node; time = length run.past } in
      ap (λ (ls : List Locked). time_in ls n) (keeps.locked ∙ ap (λ (l : Locked). p.locked.items ++ l ∷ []) is)
      ∙ elim (cases_eq node n) [
        | inl e ↦ subst (λ (k : ℕ). IsFirst run.jobs k → time_in (p.locked.items ++ new ∷ []) k ≡ lock_time run.jobs (Take t ∷ run.past) t k) e
            (λ here. time_added p.locked.items new node refl (h.times node here ∙ none_before run.tree run.jobs run.past t node (obeying t (Lock node) next) next (lock_time run.jobs run.past t node) refl) ∙ sym (lock_time_new run.jobs run.past t node next)) first
        | inr ne ↦ time_kept p.locked.items new n ne ∙ h.times n first ∙ sym (lock_time_kept run.jobs run.past t t n (locks_lock n node (next_step run.jobs run.past t) next ne))
      ]

  -- a core that takes a lock keeps what it has to
  pub core_locked : (t node : ℕ) → next_step run.jobs run.past t ≡ Some (Lock node) → IsFree run.jobs run.past t node → {p q : Progress} → HasProgress run t p
      → (lock : Option Locked) → IfSome lock (λ l. l ≡ record { node = node; time = length run.past }) → IfNone lock (IsFirst run.jobs node → ⊥) → IsLocked lock p q
      → IsCore (after run (Take t)) (record kept { progress = set kept.progress t q; owners = set kept.owners node (Holder t) })
  core_locked t node next free {p} {q} h lock is left now =
      let idle : deed_of t (list_of run.jobs t) (next_step run.jobs run.past t) ≡ [] = ap (deed_of t (list_of run.jobs t)) next in
      let size : length q.locked.items ≤ length p.locked.items + 1 = kept_size p q lock now.locked in
      let one : locks_below run.jobs t (suc (steps_done run.past t)) ≡ suc (locks_below run.jobs t (steps_done run.past t)) = count_hit (steps_done run.past t) (λ i. is_lock (slice_get (plan_of run.jobs t) i)) (ap is_lock next) in
      let le : length p.locked.items ≤ locks_below run.jobs t (steps_done run.past t) = h.locks in
      core_taken t (may_lock t node next free) kept.records (core.recorded ∙ sym (idle_records run.jobs run.opening run.past t idle)) q
      (progress_taken run t p q h now.at now.marks
      (ap (λ (r : SmallVec Reply). r.items) now.replies ∙ h.answers ∙ sym (idle_replies run.jobs run.opening run.past t t idle))
      (ap (λ (r : SmallVec Reply). r.capacity) now.replies)
      now.locked.room (omega arith) (kept_times t node next p q h lock is left now.locked)
      (now.held ∙ add-one p.held_nodes ∙ ap suc h.holding ∙ sym (holding_locked run.tree run.jobs run.past t node (length run.tree) (obeying t (Lock node) next) next (locked_within t node next))) (omega arith))
      (set kept.owners node (Holder t)) (length-set kept.owners node (Holder t) ∙ core.all_owners)
      (owned_after run.jobs run.past (Take t ∷ run.past) kept.owners node (Holder t) core.owned (
        (
          ap (held (plan_of run.jobs t) node) (steps_new run.past t t refl) ∙ held_step_lock (plan_of run.jobs t) node (steps_done run.past t) next,
          λ u ne. holds_other run.jobs run.past t u node (λ e. ne (sym e)) ∙ free u ne,
        ),
        λ u. ap (λ (o : Option ℕ). earlier o (lock_time run.jobs (Take t ∷ run.past) u node)) (lock_time_new run.jobs run.past t node next)
            ∙ none_later run.jobs (Take t ∷ run.past) u node (length run.past) (omega arith) (lock_time run.jobs (Take t ∷ run.past) u node) refl,
      )
      (λ n ne. holds_same run.jobs run.past t n (locks_lock n node (next_step run.jobs run.past t) next ne) (ap (unlocks n) next))
      (λ n ne u. lock_time_kept run.jobs run.past t u n (locks_lock n node (next_step run.jobs run.past t) next ne)))

  -- any other step adds no lock
  left_size : (t : ℕ) (p q : Progress) → HasProgress run t p → q.locked ≡ p.locked → length q.locked.items ≤ locks_below run.jobs t (suc (steps_done run.past t))
  left_size t p q h same = grind (arith, locks_grow)

  -- and leaves the times
  left_times : (t : ℕ) (p q : Progress) → HasProgress run t p → q.locked ≡ p.locked → ((n : ℕ) → locks n (next_step run.jobs run.past t) ≡ false)
      → (n : ℕ) → IsFirst run.jobs n → time_in q.locked.items n ≡ lock_time run.jobs (Take t ∷ run.past) t n
  left_times t p q h same none n first = ap (λ (r : SmallVec Locked). time_in r.items n) same ∙ h.times n first ∙ sym (lock_time_kept run.jobs run.past t t n (none n))

  -- the owner of a held node
  owner_alone : (t node : ℕ) (owner : Option ℕ) → Owns run.jobs run.past node owner → holds run.jobs run.past t node ≡ true → (u : ℕ) → u ≢ t → holds run.jobs run.past u node ≡ false
  owner_alone t node None owns h u ne = absurd (both_ways (holds run.jobs run.past t node) (owns t) h)
  owner_alone t node (Some w) owns h u ne = grind (arith, both_ways, cases_eq)

  -- which locked it last
  owner_last : (t node : ℕ) (owner : Owner) → IsOwned run.jobs run.past node owner → holds run.jobs run.past t node ≡ true → IsLastAt run.jobs run.past node (Some t)
  owner_last t node Nobody owned h = absurd (both_ways (holds run.jobs run.past t node) (owned.0 t) h)
  owner_last t node (Holder w) owned h = grind (arith, both_ways, cases_eq)
  owner_last t node (Last w) owned h = absurd (both_ways (holds run.jobs run.past t node) (owned.0 t) h)

  -- so many nodes are held before an unlock
  pub holding_before : (t node : ℕ) → next_step run.jobs run.past t ≡ Some (Unlock node)
      → count_below (length run.tree) (λ v. holds run.jobs run.past t v) ≡ suc (count_below (length run.tree) (λ v. holds run.jobs (Take t ∷ run.past) t v))
  holding_before t node next = holding_unlocked run.tree run.jobs run.past t node (length run.tree) (obeying t (Unlock node) next) next (unlocked_within t node next)

  -- so does one that takes an unlock
  pub core_unlocked : (t node : ℕ) → next_step run.jobs run.past t ≡ Some (Unlock node) → {p q : Progress} → HasProgress run t p → IsUnlocked p q
      → IsCore (after run (Take t)) (record kept { progress = set kept.progress t q; owners = set kept.owners node (Last t) })
  core_unlocked t node next {p} {q} h now =
      let idle : deed_of t (list_of run.jobs t) (next_step run.jobs run.past t) ≡ [] = ap (deed_of t (list_of run.jobs t)) next in
      let holding : holds run.jobs run.past t node ≡ true = unlocks_held t node next in
      let counted : p.held_nodes ≡ count_below (length run.tree) (λ v. holds run.jobs run.past t v) = h.holding in
      let one : count_below (length run.tree) (λ v. holds run.jobs run.past t v) ≡ suc (count_below (length run.tree) (λ v. holds run.jobs (Take t ∷ run.past) t v)) = holding_before t node next in
      let fewer : q.held_nodes + 1 ≡ p.held_nodes = now.held in
      let there : (o : Owner) × (slice_get kept.owners node ≡ Some o) = item_there kept.owners node (let e : length kept.owners ≡ length run.tree = core.all_owners in let l : node < length run.tree = held_within t node holding in omega arith) in
      let owned : IsOwned run.jobs run.past node there.0 = core.owned node there.0 there.1 in
      core_taken t (may_unlock t node next) kept.records (core.recorded ∙ sym (idle_records run.jobs run.opening run.past t idle)) q
      (progress_taken run t p q h now.at now.marks
      (ap (λ (r : SmallVec Reply). r.items) now.replies ∙ h.answers ∙ sym (idle_replies run.jobs run.opening run.past t t idle))
      (ap (λ (r : SmallVec Reply). r.capacity) now.replies)
      (ap (λ (r : SmallVec Locked). r.capacity) now.locked) (left_size t p q h now.locked) (left_times t p q h now.locked (λ n. ap (locks n) next))
      (omega arith) (omega arith))
      (set kept.owners node (Last t)) (length-set kept.owners node (Last t) ∙ core.all_owners)
      (owned_after run.jobs run.past (Take t ∷ run.past) kept.owners node (Last t) core.owned (
        λ u. elim (cases_eq t u) [
          | inl e ↦ grind (arith, held_step_unlock, steps_new)
          | inr ne ↦ holds_other run.jobs run.past t u node ne ∙ owner_alone t node (holder_of there.0) owned.0 holding u (λ e. ne (sym e))
        ],
        last_same run.jobs run.past (Take t ∷ run.past) node (Some t) (λ u. lock_time_kept run.jobs run.past t u node (ap (locks node) next)) (owner_last t node there.0 owned holding),
      )
      (λ n ne. holds_same run.jobs run.past t n (ap (locks n) next) (ap (unlocks n) next ∙ ne_eqb node n ne))
      (λ n ne u. lock_time_kept run.jobs run.past t u n (ap (locks n) next)))

  -- and one that takes an access
  pub core_accessed : (t number : ℕ) (visit : Access) → next_step run.jobs run.past t ≡ Some (plan_step.Access number) → slice_get (list_of run.jobs t) number ≡ Some visit
      → {p q : Progress} → HasProgress run t p → IsAnswered (reply_to visit kept.records) p q
      → IsCore (after run (Take t)) (record kept { records = changed_by visit kept.records; progress = set kept.progress t q })
  core_accessed t number visit next listed {p} {q} h now =
      let same : (v : ℕ) → (u : ℕ) → holds run.jobs (Take t ∷ run.past) u v ≡ holds run.jobs run.past u v =
      λ v. holds_same run.jobs run.past t v (ap (locks v) next) (ap (unlocks v) next) in
      core_taken t (may_access t number next) (changed_by visit kept.records)
      (ap (changed_by visit) core.recorded ∙ sym (accessed_records run.jobs run.opening run.past t number visit next listed)) q
      (progress_taken run t p q h now.at now.marks
      (now.replies ∙ ap (λ (rs : List Reply). rs ++ reply_to visit kept.records ∷ []) h.answers
      ∙ ap (λ (r : List ℤ). run_replies run.jobs run.opening run.past t ++ reply_to visit r ∷ []) core.recorded
      ∙ sym (accessed_replies run.jobs run.opening run.past t number visit next listed))
      now.room
      (ap (λ (r : SmallVec Locked). r.capacity) now.locked) (left_size t p q h now.locked) (left_times t p q h now.locked (λ n. ap (locks n) next))
      (now.held ∙ h.holding ∙ sym (count_agree (length run.tree) (λ v. holds run.jobs (Take t ∷ run.past) t v) (λ v. holds run.jobs run.past t v) (λ v less. same v t))) (omega arith))
      kept.owners core.all_owners
      (λ n o e. owned_same run.jobs run.past (Take t ∷ run.past) n o (same n) (λ u. lock_time_kept run.jobs run.past t u n (ap (locks n) next)) (core.owned n o e))

  -- after a mark
  marked_other : (t u : ℕ) (p : Progress) → t ≢ u → HasProgress run u p → HasProgress (after run (Mark t)) u p
  marked_other t u p ne h = grind (arith, cond-false, ne_eqb)

  waited_more : (t node count : ℕ) → next_step run.jobs run.past t ≡ Some (Lock node) → slice_get kept.waits node ≡ Some count → (n c : ℕ) → slice_get (set kept.waits node (count + 1)) n ≡ Some c
      → c ≡ waits_of run.jobs (Mark t ∷ run.past) n
  waited_more t node count next at n c h =
      let was : count ≡ waits_of run.jobs run.past node = core.waited node count at in
      elim (cases_eq node n) [
        | inl e ↦ grind (arith, cond-true, get_set_same, locks_from, same_Some, slice_get_within)
        | inr ne ↦ grind (arith, cond-false, get_set_other, locks_lock)
      ]

  -- and one that marks a job
  pub core_marked : (t node : ℕ) → next_step run.jobs run.past t ≡ Some (Lock node) → (holder : ℕ) → IsHeldBy run.jobs run.past t node holder → is_marked run.past t ≡ false
      → {p q : Progress} → HasProgress run t p → IsMarked p q → (count : ℕ) → slice_get kept.waits node ≡ Some count
      → IsCore (after run (Mark t)) (record kept { progress = set kept.progress t q; waits = set kept.waits node (count + 1) })
  core_marked t node next holder blocked unmarked {p} {q} h now count counted = record {
    tree = core.tree;
    few = core.few;
    legal = core.legal;
    short = core.short;
    opened = core.opened;
    is_run = ((node, next, (holder, blocked), unmarked), core.is_run);
    room = core.room;
    recorded = core.recorded;
    all_jobs = length-set kept.progress t q ∙ core.all_jobs;
    come = all_progress (HasProgress run) (HasProgress (after run (Mark t))) kept.progress t q core.come (λ u r ne old. marked_other t u r ne old)
        (record {
          at = now.at ∙ h.at;
          marks = now.marks ∙ sym (cond-true (eqb t t) true (is_marked run.past t) (eq-eqb t t refl));
          answers = ap (λ (r : SmallVec Reply). r.items) now.replies ∙ h.answers;
          room = subst (λ (r : SmallVec Reply). length (list_of run.jobs t) ≤ r.capacity) (sym now.replies) h.room;
          spare = subst (λ (r : SmallVec Locked). lock_steps (plan_of run.jobs t) ≤ r.capacity) (sym now.locked) h.spare;
          locks = subst (λ (r : SmallVec Locked). length r.items ≤ locks_below run.jobs t (steps_done run.past t)) (sym now.locked) h.locks;
          times = λ n first. ap (λ (r : SmallVec Locked). time_in r.items n) now.locked ∙ h.times n first;
          holding = now.held ∙ h.holding;
          held = subst (λ (k : ℕ). k ≤ steps_done run.past t) (sym now.held) h.held;
        });
    all_owners = core.all_owners;
    owned = λ n o e. owned_same run.jobs run.past (Mark t ∷ run.past) n o (λ u. refl) (λ u. refl) (core.owned n o e);
    all_waits = length-set kept.waits node (count + 1) ∙ core.all_waits;
    waited = waited_more t node count next counted;
    firsts = core.firsts;
  }

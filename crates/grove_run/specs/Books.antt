-- For the proofs alone: a core and its claims, under which records travel with locks.
use Rattle.std.specs.Prelude.{◌≡◌, ℕ, ◌+◌, [], ◌∷◌, ◌++◌, length, slice_get, Option, Some, if◌then◌else◌}
use Rattle.grove_access.specs.Effects.{record_at}
use Rattle.grove_access.specs.Carries.{Carried, without}
use Rattle.grove_plan.specs.declared.step.Step.{Step}
use Rattle.grove_plan.specs.declared.step.Step.TheVariants.{Lock, Unlock, Access}
use Rattle.grove_core.specs.declared.event.Event.{Event}
use Rattle.grove_core.specs.declared.event.Event.TheVariants.{Take, Mark}
use Rattle.grove_core.specs.Runs.{plan_of, steps_done, is_marked, IsBlocked}
use Rattle.grove_core.specs.Kept.{CoreState, past_of}
use Rattle.grove_core.specs.Carried.{records_of, IsOf, after_steps}
use Rattle.grove_run.specs.declared.steps.CarryStep.{CarryStep}
use Rattle.grove_run.specs.declared.steps.CarryStep.TheVariants.{Stepped, Blocked, Ended, Foreign}

-- a book, as its callers see it
pub record BookState : Type 0 where
  pub core : CoreState
  pub claimed : ℕ

abbrev pub after_event : CoreState → Event → CoreState
after_event core event = record core { history = core.history ++ event ∷ [] }

-- nothing but the history is another
abbrev pub IsSameBatch : CoreState → CoreState → Type 0
IsSameBatch old new = (new.tree ≡ old.tree) × (new.jobs ≡ old.jobs) × (new.opening ≡ old.opening)

-- some job holds the node that this one is to lock
abbrev pub IsBlockedAt : CoreState → ℕ → Type 0
IsBlockedAt core t = (holder : ℕ) × IsBlocked core.jobs (past_of core) t holder

-- the core with a mark at the job's lock
abbrev pub marked : CoreState → ℕ → CoreState
marked core t = if is_marked (past_of core) t then core else after_event core (Mark t)

-- the step after the entries of a carry
abbrev pub step_after : CoreState → Carried → Option Step
step_after core carry = slice_get (plan_of core.jobs carry.txn)
    (steps_done (past_of core) carry.txn + length carry.entries)

-- the step can't be done with the carry: it is an access, or a lock for which there is no room
abbrev pub HasNoStep : Carried → Option Step → Type 0
HasNoStep carry (Some (Lock v)) = length carry.known ≡ carry.most_nodes
HasNoStep carry (Some (Access i)) = Unit {0}
HasNoStep carry _ = ⊥

-- the carry isn't of the core, or its step can't be done with it
abbrev pub IsForeign : CoreState → Carried → Type 0
IsForeign core carry = IsOf core carry → HasNoStep carry (step_after core carry)

-- the core that has taken the entries of a carry
abbrev pub core_taken : CoreState → Carried → CoreState
core_taken core carry = after_steps core carry.txn (length carry.entries)

-- a lock takes the record of its node in, an unlock gives it back
abbrev pub Moved : CoreState → Carried → Step → Carried → Type 0
Moved core carry (Lock v) new = new
    ≡ record carry { known = carry.known ++ record { node = v; value = record_at (records_of core) v } ∷ [] }
Moved core carry (Unlock v) new = new ≡ record carry { known = without carry.known v }
Moved core carry (Access i) new = ⊥

-- what doing a step comes to, for the core and the carry
abbrev pub IsDone : CoreState → Carried → Step → CarryStep → CoreState → Carried → Type 0
IsDone core carry step Stepped after new = (after ≡ after_event core (Take carry.txn)) × Moved core carry step new
IsDone core carry step Blocked after new = IsBlockedAt core carry.txn × (after ≡ marked core carry.txn) × (new ≡ carry)
IsDone core carry step Ended after new = ⊥
IsDone core carry step Foreign after new = ⊥

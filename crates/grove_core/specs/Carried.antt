-- For the proofs alone: a job's accesses that were done on the records that it has out, before the core knows of them.
use Rattle.std.specs.Prelude.{◌≡◌, ℕ, ◌+◌, ◌<◌, ℤ, List, [], ◌∷◌, ◌++◌, length, replicate, slice_get, Some, is_some}
use Rattle.grove_access.specs.declared.reply.Reply.{Reply}
use Rattle.grove_access.specs.declared.entry.Entry.{Entry}
use Rattle.grove_access.specs.Carries.{Carried, known_at}
use Rattle.grove_plan.specs.declared.step.Step.TheVariants.{Access}
use Rattle.grove_core.specs.declared.event.Event.TheVariants.{Take}
use Rattle.grove_core.specs.Runs.{list_of, plan_of, steps_done, holds, run_records}
use Rattle.grove_core.specs.Kept.{CoreState, past_of}

-- the records as they are now
abbrev pub records_of : CoreState → List ℤ
records_of core = run_records core.jobs core.opening (past_of core)

-- What a job has out is what it holds, known as it is, and its entries are the job's next steps, with its own accesses.
pub record IsOf (core : CoreState) (carry : Carried) : Type 0 where
  pub job : carry.txn < length core.jobs
  pub out : (node : ℕ) → is_some (known_at carry.known node) ≡ holds core.jobs (past_of core) carry.txn node
  pub known : (node : ℕ) (value : ℤ) → known_at carry.known node ≡ Some value → slice_get (records_of core) node
      ≡ Some value
  pub next : (i : ℕ) (e : Entry) → slice_get carry.entries i ≡ Some e
      → slice_get (plan_of core.jobs carry.txn) (steps_done (past_of core) carry.txn + i) ≡ Some (Access e.number)
  pub own : (i : ℕ) (e : Entry) → slice_get carry.entries i ≡ Some e → slice_get (list_of core.jobs carry.txn) e.number
      ≡ Some e.access

-- the core after so many steps more of a job
abbrev pub after_steps : CoreState → ℕ → ℕ → CoreState
after_steps core t n = record core { history = core.history ++ replicate n (Take t) }

abbrev pub replies_in : List Entry → List Reply
replies_in [] = []
replies_in (e ∷ entries) = e.reply ∷ replies_in entries

-- For the proofs alone: the tests of whether a carry is of a core, one by one.
use Rattle.std.specs.Prelude.{◌≡◌, ℕ, ◌+◌, ◌==◌, Bool, true, false, List, slice_get, Option, Some, None, is_some}
use Rattle.grove_access.specs.declared.access.Access.{Access}
use Rattle.grove_access.specs.declared.known.Known.{Known}
use Rattle.grove_access.specs.declared.entry.Entry.{Entry}
use Rattle.grove_access.specs.Carries.{Carried, known_at}
use Rattle.grove_plan.specs.declared.step.Step.{Step}
use Rattle.grove_plan.specs.declared.step.Step.TheVariants as plan_step
use Rattle.grove_core.specs.Runs.{holds}
use Rattle.grove_core.specs.Kept.{CoreState, past_of}
use Rattle.grove_core.specs.Carried.{records_of}

-- the owner of a node is this job
abbrev pub is_owner : Option ℕ → ℕ → Bool
is_owner None t = false
is_owner (Some u) t = u == t

-- the job holds the node, and its record is the known value
abbrev pub Knows : CoreState → ℕ → Known → Type 0
Knows core t k = (holds core.jobs (past_of core) t k.node ≡ true) × (slice_get (records_of core) k.node ≡ Some k.value)

abbrev pub KnowsAll : CoreState → ℕ → List Known → Type 0
KnowsAll core t known = (i : ℕ) (k : Known) → slice_get known i ≡ Some k → Knows core t k

-- each node is out that the job holds
abbrev pub HasAll : CoreState → Carried → Type 0
HasAll core carry = (node : ℕ) → holds core.jobs (past_of core) carry.txn node ≡ true
    → is_some (known_at carry.known node) ≡ true

-- the step at a position is the entry's access, and this is one of the list
abbrev pub IsNext : List Access → List Step → ℕ → Entry → Type 0
IsNext list plan at e = (slice_get plan at ≡ Some (plan_step.Access e.number))
    × (slice_get list e.number ≡ Some e.access)

abbrev pub Follows : List Access → List Step → ℕ → List Entry → Type 0
Follows list plan start entries = (i : ℕ) (e : Entry) → slice_get entries i ≡ Some e → IsNext list plan (start + i) e

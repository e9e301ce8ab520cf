-- The laws of the forced nodes and of the certificate.
use Rattle.std.specs.Prelude.{◌≡◌, ℕ, ◌+◌, ◌≤◌, ◌↔◌, List}
use Rattle.grove_tree.specs.Trees.{Rows, IsTree}
use Rattle.grove_access.specs.Lists.{AreNodes}
use Rattle.grove_access.specs.Forced.{IsForcedByTree, forced_nodes}
use Rattle.grove_plan.specs.declared.step.Step.{Step}
use Rattle.grove_plan.specs.Plans.{IsLegal, IsLeast, IsForced, cost}
use Rattle.grove_plan.specs.Slots.{LocksAtSlot, UnlocksAtSlot, first_lock_slot, first_release_slot}
use Rattle.grove_proof.specs.declared.flow.FlowRow.{FlowRow}
use Rattle.grove_proof.specs.Forced.{IsForcedList}
use Rattle.grove_proof.specs.Five.{MeetsFive}
use Rattle.grove_proof.specs.Changes.{IsChangedOnce}
use Rattle.grove_proof.specs.Flows.{gains, losses, Balances, IsCertificate}

-- the nodes that every legal plan locks are those that the tree tells
abbrev pub ForcedIsByTree : Type 0
ForcedIsByTree = (rows : Rows) (nodes : List ℕ) (node : ℕ) → IsTree rows → AreNodes rows nodes
    → IsForced rows nodes node ↔ IsForcedByTree rows nodes node

abbrev pub ForcedListIsByTree : Type 0
ForcedListIsByTree = (rows : Rows) (nodes list : List ℕ) → IsTree rows → AreNodes rows nodes
    → IsForcedList rows nodes list ↔ (list ≡ forced_nodes rows nodes)

-- in every legal plan the slots of the forced nodes are there and meet the five constraints
abbrev pub LegalMeetsFive : Type 0
LegalMeetsFive = (rows : Rows) (nodes lengths : List ℕ) (plan : List Step) → IsTree rows → IsLegal rows nodes plan
    → MeetsFive rows nodes lengths plan
    × ((node : ℕ) → IsForcedByTree rows nodes node → LocksAtSlot plan node (first_lock_slot plan node)
    × UnlocksAtSlot plan node (first_release_slot plan node))

-- the bound of rows that balance is at most the cost of every legal plan
abbrev pub WeakDuality : Type 0
WeakDuality = (rows : Rows) (nodes lengths : List ℕ) (flow : List FlowRow) (plan : List Step) → IsTree rows
    → AreNodes rows nodes → Balances rows nodes flow → IsLegal rows nodes plan
    → gains nodes lengths flow ≤ cost rows lengths plan + losses nodes lengths flow

-- accepted means least
abbrev pub CertifiedIsLeast : Type 0
CertifiedIsLeast = (rows : Rows) (nodes lengths : List ℕ) (flow : List FlowRow) (plan : List Step) → IsTree rows
    → AreNodes rows nodes → IsLegal rows nodes plan
    → IsCertificate rows nodes lengths flow (cost rows lengths plan) → IsLeast rows nodes lengths plan

-- with one amount changed, a certificate is one of no cost whatever
abbrev pub OneChangeIsRefused : Type 0
OneChangeIsRefused = (rows : Rows) (nodes lengths : List ℕ) (flow other : List FlowRow) (cost claim : ℕ) → IsTree rows
    → IsCertificate rows nodes lengths flow cost → IsChangedOnce flow other
    → ¬ IsCertificate rows nodes lengths other claim

-- A settled plan and its certificate name nodes of the tree.
use Rattle.std.proofs.Common.{ℕ, List}
use Rattle.grove_tree.specs.Trees.{Rows}
use Rattle.grove_base.proofs.Lists.{get_map}
use Rattle.grove_plan.specs.declared.step.Step.{Step}
use Rattle.grove_plan.specs.declared.step.Step.TheVariants.{Lock, Unlock, Access}
use Rattle.grove_plan.specs.Plans.{IsLeast, IsLockedBy}
use Rattle.grove_plan.proofs.Held.{HeldAt, held_at}
use Rattle.grove_proof.specs.declared.flow.FlowRow.{FlowRow}
use Rattle.grove_proof.specs.Flows.{node_of, IsCertificate}
use Rattle.grove_wire.specs.Writing.{PlanFits, FlowFits}

-- the nodes of a least plan's steps are nodes of the tree
pub plan_fits : (rows : Rows) (nodes lengths : List ℕ) (plan : List Step) → IsLeast rows nodes lengths plan
    → PlanFits rows plan
plan_fits rows nodes lengths plan least place (Lock node) at = least.legal.obeys.locks_nodes place node at
plan_fits rows nodes lengths plan least place (Unlock node) at =
    let lock : HeldAt plan node place = held_at plan node place (least.legal.obeys.unlocks_held place node at) in
    least.legal.obeys.locks_nodes lock.at node lock.is_lock
plan_fits rows nodes lengths plan least place (Access access) at = tt

-- the nodes of a certificate's rows are forced, so each legal plan locks them
pub flow_fits : (rows : Rows) (nodes lengths : List ℕ) (plan : List Step) (flow : List FlowRow) (cost : ℕ)
    → IsLeast rows nodes lengths plan → IsCertificate rows nodes lengths flow cost → FlowFits rows flow
flow_fits rows nodes lengths plan flow cost least certificate place row at =
    let locked : IsLockedBy plan row.node =
    (certificate.balances.forced.forced row.node).0 (place, get_map node_of flow place row at) plan least.legal in
    least.legal.obeys.locks_nodes locked.0 row.node locked.1

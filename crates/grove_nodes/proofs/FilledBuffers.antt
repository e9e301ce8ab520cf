-- What is put into a caller's buffers is what was asked for.
use Rattle.std.proofs.Common.{◌≡◌, ℕ, List, ap, sym, subst, arith}
use Rattle.grove_tree.specs.Trees.{Rows}
use Rattle.grove_access.specs.declared.fault.ListFault.{ListFault}
use Rattle.grove_access.specs.declared.fault.ListFault.TheVariants.{TooLong, NoNode, BadLength, Memory}
use Rattle.grove_plan.specs.declared.step.Step.{Step}
use Rattle.grove_proof.specs.declared.flow.FlowRow.{FlowRow}
use Rattle.grove_build.specs.declared.planning.Planned.{Planned}
use Rattle.grove_nodes.specs.declared.counted.Counted.{Counted}
use Rattle.grove_nodes.specs.declared.part.PartNode.{PartNode}
use Rattle.grove_nodes.specs.declared.status.Status.{Status}
use Rattle.grove_nodes.specs.declared.status.Status.TheVariants as status
use Rattle.grove_nodes.specs.Lists.{IsListFault}
use Rattle.grove_nodes.specs.Parts.{IsNoTask, IsPlannedWhole, PlansPart}
use Rattle.grove_nodes.specs.Planning.{AreCounted, AreUnlisted, AreUntouched, Buffers, IsPlannedBy, PlansNodes}
use Rattle.grove_nodes.specs.Planning.{PutsPlan, place_of, refused_at}
use Rattle.grove_nodes.specs.Putting.{counted_of, PutsIf}
use Rattle.grove_nodes.specs.Telling.{list_status}

module _ (IsPlan : List Step → List FlowRow → ℕ → Type 0) (IsReason : ℕ → Type 0) (planned : Planned)
    (buffers : Buffers) where
  counts : (counted : Counted) → counted ≡ counted_of planned → AreCounted planned.plan planned.flow counted
  counts counted is = record { steps = ap (λ (c : Counted). c.steps) is; rows = ap (λ (c : Counted). c.rows) is }

  priced : (counted : Counted) → counted ≡ counted_of planned → IsPlan planned.plan planned.flow planned.cost
      → IsPlan planned.plan planned.flow counted.cost
  priced counted is plan = subst (λ (price : ℕ). IsPlan planned.plan planned.flow price)
      (sym (ap (λ (c : Counted). c.cost) is)) plan

  pub put_so : (counted : Counted) (ended : Status) → IsPlan planned.plan planned.flow planned.cost
      → PutsIf planned buffers counted ended → PutsPlan IsPlan IsReason buffers counted ended
  put_so counted status.Done plan (is, holds) =
      (planned.plan, planned.flow, priced counted is plan, counts counted is, holds)
  put_so counted status.Room plan (is, (lacks, same)) = grind (arith, counts, priced)
  put_so counted status.Memory plan (is, same) = (is, same)
  put_so counted status.Refused plan (is, none) = absurd none
  put_so counted status.Closed plan (is, none) = absurd none

module _ (rows : Rows) (nodes lengths : List ℕ) (buffers : Buffers) where
  -- the settled plan is put
  pub puts_nodes : (planned : Planned) (counted : Counted) (ended : Status)
      → IsPlannedBy rows nodes lengths planned.plan planned.flow planned.cost
      → PutsIf planned buffers counted ended → PlansNodes rows nodes lengths buffers counted ended
  puts_nodes planned counted ended = put_so (IsPlannedBy rows nodes lengths) (AreUnlisted rows nodes lengths) planned
      buffers counted ended

  -- or there is no list
  pub refuses_nodes : (fault : ListFault) (counted : Counted) → counted ≡ refused_at (place_of fault)
      → AreUntouched buffers
      → IsListFault rows nodes lengths fault → PlansNodes rows nodes lengths buffers counted (list_status fault)
  refuses_nodes Memory counted is same none = (is, same)
  refuses_nodes TooLong counted is same reason =
      ((TooLong, (λ e. absurd (cc)), reason, ap (λ (c : Counted). c.place) is), same)
  refuses_nodes (NoNode place) counted is same reason =
      ((NoNode place, (λ e. absurd (cc)), reason, ap (λ (c : Counted). c.place) is), same)
  refuses_nodes (BadLength place) counted is same reason =
      ((BadLength place, (λ e. absurd (cc)), reason, ap (λ (c : Counted). c.place) is), same)

-- the same over a part
pub puts_part : (part : List PartNode) (places lengths : List ℕ) (buffers : Buffers) (planned : Planned)
    (counted : Counted) (ended : Status) → IsPlannedWhole part places lengths planned.plan planned.flow planned.cost
    → PutsIf planned buffers counted ended → PlansPart part places lengths buffers counted ended
puts_part part places lengths buffers planned counted ended =
    put_so (IsPlannedWhole part places lengths) (IsNoTask part places lengths) planned buffers counted ended

pub refuses_part : (part : List PartNode) (places lengths : List ℕ) (buffers : Buffers) (place : ℕ) (counted : Counted)
    → counted ≡ refused_at place → AreUntouched buffers → IsNoTask part places lengths place
    → PlansPart part places lengths buffers counted status.Refused
refuses_part part places lengths buffers place counted is same none =
    (subst (IsNoTask part places lengths) (sym (ap (λ (c : Counted). c.place) is)) none, same)

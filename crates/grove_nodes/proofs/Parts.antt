-- What is planned over a part is planned over each whole tree that it is cut from.
use Rattle.std.proofs.Common.{◌≡◌, ℕ, suc, ◌<◌, ◌≤◌, ◌⊎◌, List, [], ◌∷◌, length, map, slice_get, Option, Some, arith}
use Rattle.std.proofs.Common.{refl, ap, ap₂, sym, ◌∙◌, subst, inl, inr}
use Rattle.std.specs.Prelude.{◌≢◌, Result, Ok, Err, IfOk}
use Rattle.std.specs.Option.{option_map, unwrap_or}
use Rattle.grove_base.proofs.Lists.{get_map, map_length, item_there}
use Rattle.grove_tree.specs.Trees.{Rows, IsTree}
use Rattle.grove_tree.specs.Rules.{AreTreeRows}
use Rattle.grove_tree.specs.declared.fault.TreeFault.{TreeFault}
use Rattle.grove_tree.specs.declared.fault.TreeFault.TheVariants as tree
use Rattle.grove_access.specs.Lists.{AreNodes}
use Rattle.grove_access.specs.declared.fault.ListFault.{ListFault}
use Rattle.grove_access.specs.declared.fault.ListFault.TheVariants as list
use Rattle.grove_plan.specs.declared.step.Step.{Step}
use Rattle.grove_plan.specs.declared.step.Step.TheVariants.{Lock, Unlock, Access}
use Rattle.grove_plan.specs.Plans.{IsLeast, IsLockedBy, cost}
use Rattle.grove_plan.proofs.Held.{HeldAt, held_at}
use Rattle.grove_proof.specs.declared.flow.FlowRow.{FlowRow}
use Rattle.grove_proof.specs.Flows.{node_of, IsCertificate}
use Rattle.grove_build.specs.declared.planning.Planned.{Planned}
use Rattle.grove_cut.specs.CutTrees.{IsCut, step_at_origin, plan_at_origin, row_at_origin, flow_at_origin}
use Rattle.grove_cut.proofs.CutPlans.{cuts_keep_cost}
use Rattle.grove_cut.proofs.CutFlows.{cuts_keep_certificates}
use Rattle.grove_cut.proofs.CutLeast.{cuts_keep_least}
use Rattle.grove_cut.proofs.CutSettled.{cuts_keep_settled}
use Rattle.grove_nodes.specs.declared.part.PartNode.{PartNode}
use Rattle.grove_nodes.specs.declared.part_planning.PartFault.{PartFault}
use Rattle.grove_nodes.specs.declared.part_planning.PartFault.TheVariants as fault
use Rattle.grove_nodes.specs.Lists.{IsListFault}
use Rattle.grove_nodes.specs.PartPlans.{number_in, list_fault, tree_fault, IsNoPart, IsNoTree}
use Rattle.grove_nodes.specs.Parts.{HaveShapeOf, IsPartOf, IsPlannedWhole}
use Rattle.grove_nodes.specs.Planning.{IsPlannedBy}
use Rattle.grove_nodes.specs.Shapes.{HaveShape}
use Rattle.grove_nodes.proofs.Shapes.{sizes, same_length, cut_alike}

-- what is mapped alike at each place is the same
map_alike : {A B : Type 0} (f g : A → B) (xs : List A) → ((i : ℕ) (x : A) → slice_get xs i ≡ Some x → f x ≡ g x)
    → map f xs ≡ map g xs
map_alike f g [] same = refl
map_alike f g (x ∷ xs) same = ap₂ (λ y ys. y ∷ ys) (same 0 x refl) (map_alike f g xs (λ i y at. same (suc i) y at))

abbrev parents_of : List PartNode → List ℕ
parents_of part = map (λ (node : PartNode). node.parent) part

abbrev weights_of : List PartNode → List ℕ
weights_of part = map (λ (node : PartNode). node.weight) part

module _ (part : List PartNode) (built : Rows) (shape : HaveShapeOf part built) (whole : Rows) (origin : ℕ → ℕ)
    (is_part : IsPartOf whole part origin) where
  is_cut : IsCut whole built origin
  is_cut = cut_alike (parents_of part) (weights_of part) is_part.cut built is_part.shape shape whole origin
      is_part.is_cut

  size : length part ≡ length built
  size = sym (map_length (λ (node : PartNode). node.parent) part)
      ∙ (sizes (parents_of part) (weights_of part) built shape).0

  -- a node of the part has its number
  numbered : (node : ℕ) → node < length built → number_in part node ≡ origin node
  numbered node lt =
      let (own, at) = item_there part node (subst (λ (n : ℕ). node < n) (sym size) lt) in
      ap (λ (o : Option PartNode). unwrap_or (option_map (λ (n : PartNode). n.number) o) node) at
      ∙ sym (is_part.numbers node own at)

  module _ (nodes lengths : List ℕ) (plan : List Step) (flow : List FlowRow) (price : ℕ)
      (least : IsLeast built nodes lengths plan) where
    step_numbered : (place : ℕ) (step : Step) → slice_get plan place ≡ Some step
        → step_at_origin (number_in part) step ≡ step_at_origin origin step
    step_numbered place (Lock node) at = ap Lock (numbered node (least.legal.obeys.locks_nodes place node at))
    step_numbered place (Unlock node) at =
        let lock : HeldAt plan node place = held_at plan node place (least.legal.obeys.unlocks_held place node at) in
        ap Unlock (numbered node (least.legal.obeys.locks_nodes lock.at node lock.is_lock))
    step_numbered place (Access access) at = refl

    plan_numbered : plan_at_origin (number_in part) plan ≡ plan_at_origin origin plan
    plan_numbered = map_alike (step_at_origin (number_in part)) (step_at_origin origin) plan step_numbered

    row_numbered : IsCertificate built nodes lengths flow price → (place : ℕ) (row : FlowRow)
        → slice_get flow place ≡ Some row → row_at_origin (number_in part) row ≡ row_at_origin origin row
    row_numbered certified place row at =
        let locked : IsLockedBy plan row.node =
        (certified.balances.forced.forced row.node).0 (place, get_map node_of flow place row at) plan least.legal in
        ap (λ (n : ℕ). record row { node = n })
        (numbered row.node (least.legal.obeys.locks_nodes locked.0 row.node locked.1))

    flow_numbered : IsCertificate built nodes lengths flow price
        → flow_at_origin (number_in part) flow ≡ flow_at_origin origin flow
    flow_numbered certified = map_alike (row_at_origin (number_in part)) (row_at_origin origin) flow
        (row_numbered certified)

  planned_at_origin : (nodes lengths : List ℕ) (plan : List Step) (flow : List FlowRow) (price : ℕ) → IsTree whole
      → AreNodes built nodes → IsPlannedBy built nodes lengths plan flow price
      → IsPlannedBy whole (map origin nodes) lengths (plan_at_origin origin plan) (flow_at_origin origin flow) price
  planned_at_origin nodes lengths plan flow price tree fits planned = record {
    settled = (cuts_keep_settled whole built origin tree is_cut nodes lengths plan fits).0 planned.settled;
    least = (cuts_keep_least whole built origin tree is_cut nodes lengths plan fits).0 planned.least;
    priced = planned.priced ∙ sym (cuts_keep_cost whole built origin is_cut lengths plan);
    certified = (cuts_keep_certificates whole built origin tree is_cut nodes lengths flow price fits).0
        planned.certified;
  }

pub planned_whole : (part : List PartNode) (built : Rows) (nodes lengths : List ℕ) (plan : List Step)
    (flow : List FlowRow)
    (price : ℕ) → HaveShapeOf part built → AreNodes built nodes → IsPlannedBy built nodes lengths plan flow price
    → IsPlannedWhole part nodes lengths (plan_at_origin (number_in part) plan) (flow_at_origin (number_in part) flow)
    price
planned_whole part built nodes lengths plan flow price shape fits planned whole origin tree is_part =
    let steps = plan_numbered part built shape whole origin is_part nodes lengths plan flow price planned.least in
    let rows = flow_numbered part built shape whole origin is_part nodes lengths plan flow price planned.least
    planned.certified in
    subst (λ (xs : List Step). IsPlannedBy whole (map origin nodes) lengths xs (flow_at_origin (number_in part) flow)
    price) (sym steps)
    (subst (λ (xs : List FlowRow). IsPlannedBy whole (map origin nodes) lengths (plan_at_origin origin plan) xs price)
    (sym rows)
    (planned_at_origin part built shape whole origin is_part nodes lengths plan flow price tree fits planned))

list_alike : (a b : Rows) (nodes lengths : List ℕ) (why : ListFault) → length a ≡ length b
    → IsListFault a nodes lengths why → IsListFault b nodes lengths why
list_alike a b nodes lengths list.TooLong same is = is
list_alike a b nodes lengths (list.NoNode place) same (stands, far) =
    (stands, λ node at. subst (λ (n : ℕ). n ≤ node) same (far node at))
list_alike a b nodes lengths (list.BadLength place) same is = is
list_alike a b nodes lengths list.Memory same is = is

-- a list that is refused over the part as it was built is refused over all rows of its shape
pub list_refused : (part : List PartNode) (built : Rows) (nodes lengths : List ℕ) (why : ListFault)
    → HaveShapeOf part built → IsListFault built nodes lengths why → IsNoPart part nodes lengths (list_fault why)
list_refused part built nodes lengths list.Memory shape is = tt
list_refused part built nodes lengths list.TooLong shape is =
    inr (λ rows other. (list.TooLong, (λ e. absurd (cc)), is, refl))
list_refused part built nodes lengths (list.NoNode place) shape is =
    inr (λ rows other. (
      list.NoNode place,
      (λ e. absurd (cc)),
      list_alike built rows nodes lengths (list.NoNode place)
          (same_length (parents_of part) (weights_of part) built rows shape other) is,
      refl,
    ))
list_refused part built nodes lengths (list.BadLength place) shape is =
    inr (λ rows other. (list.BadLength place, (λ e. absurd (cc)), is, refl))

tree_or : (why : TreeFault) → (tree_fault why ≡ fault.Memory)
    ⊎ ((why ≢ tree.Memory) × ((place : ℕ) × (tree_fault why ≡ fault.Refused place)))
tree_or tree.Empty = inr (λ e. absurd (cc), (0, refl))
tree_or tree.TooMany = inr (λ e. absurd (cc), (4096, refl))
tree_or (tree.BadParent row) = inr (λ e. absurd (cc), (row, refl))
tree_or (tree.TooDeep row) = inr (λ e. absurd (cc), (row, refl))
tree_or (tree.BadName row) = inr (λ e. absurd (cc), (row, refl))
tree_or (tree.TwiceNamed row) = inr (λ e. absurd (cc), (row, refl))
tree_or (tree.BadWeight row) = inr (λ e. absurd (cc), (row, refl))
tree_or tree.Memory = inl refl

-- a part of which no tree is built is none
pub tree_refused : (part : List PartNode) (parents weights : List ℕ) (why : TreeFault) → parents ≡ parents_of part
    → weights ≡ weights_of part
    → (why ≢ tree.Memory → (rows : Rows) → HaveShape parents weights rows → ¬ AreTreeRows rows)
    → IsNoTree part (tree_fault why)
tree_refused part parents weights why by_parent by_weight none = grind (arith, tree_or)

-- a plan that got the numbers of the whole tree is one over it
pub numbered_whole : (part : List PartNode) (built : Rows) (nodes lengths : List ℕ) (planned : Planned)
    (result : Result Planned PartFault) → HaveShapeOf part built → AreNodes built nodes
    → IsPlannedBy built nodes lengths planned.plan planned.flow planned.cost
    → IfOk result (λ (whole : Planned). whole.plan ≡ plan_at_origin (number_in part) planned.plan)
    → IfOk result (λ (whole : Planned). whole.flow ≡ flow_at_origin (number_in part) planned.flow)
    → IfOk result (λ (whole : Planned). whole.cost ≡ planned.cost)
    → IfOk result (λ (whole : Planned). IsPlannedWhole part nodes lengths whole.plan whole.flow whole.cost)
numbered_whole part built nodes lengths planned (Err why) shape fits is plan flow cost = tt
numbered_whole part built nodes lengths planned (Ok whole) shape fits is plan flow cost =
    subst (λ (steps : List Step). IsPlannedWhole part nodes lengths steps whole.flow whole.cost) (sym plan)
    (subst (λ (rows : List FlowRow). IsPlannedWhole part nodes lengths (plan_at_origin (number_in part) planned.plan)
    rows whole.cost) (sym flow)
    (subst (λ (price : ℕ). IsPlannedWhole part nodes lengths (plan_at_origin (number_in part) planned.plan)
    (flow_at_origin (number_in part) planned.flow) price) (sym cost)
    (planned_whole part built nodes lengths planned.plan planned.flow planned.cost shape fits is)))

-- A document with a plan and a flow put in reads as before, with these, and is hardly deeper.
use Rattle.std.proofs.Common.{◌≡◌, ℕ, ◌≤◌, List, [], ◌∷◌, Ordering, Less, Equal, Greater, Some, true, false, refl, sym, ap, ◌∙◌, arith, bytes_eq}
use Rattle.std.specs.Prelude.{map, codes, Ok}
use Rattle.std.proofs.lemmas.Bool.{false≢true}
use Rattle.std.specs.Ordering.{nat_cmp, match_ordering}
use Rattle.std.specs.Cmp.Lexicographic.{slice_cmp}
use Rattle.serde_json.specs.Data.{Data, null, boolean, number, string, array, object, Members, no_members, member, put, depth, items_depth, members_depth}
use Rattle.serde_json.specs.Find.{get}
use Rattle.serde_json.specs.View.{items_of}
use Rattle.serde_json.proofs.Views.{get_member-put, get_member-put_other}
use Rattle.grove_tree.specs.Trees.{Rows}
use Rattle.grove_plan.specs.declared.step.Step.{Step}
use Rattle.grove_plan.specs.declared.step.Step.TheVariants.{Lock, Unlock, Access}
use Rattle.grove_proof.specs.declared.flow.FlowRow.{FlowRow}
use Rattle.grove_wire.specs.Forms as form
use Rattle.grove_wire.specs.Reading.{items_in, version_in, tree_in, list_in, plan_in, flow_in}
use Rattle.grove_wire.specs.Writing.{step_data, plan_data, flow_row_data, flow_data}
use Rattle.grove_answer.specs.declared.reading.Task.{Task}
use Rattle.grove_answer.specs.Outcomes.{task_in, trial_in, claim_in}
use Rattle.grove_answer.specs.PlannedDocuments.{planned_document}

-- ---- what is read again

items_same : (name : List ℕ) (a b : Data) → get name a ≡ get name b → form.items_of name a ≡ form.items_of name b
unfolding form.items_of
items_same name a b same = rw same refl

-- the task is read from three members
task_same : (a b : Data) → get (codes "nodes") a ≡ get (codes "nodes") b → get (codes "version") a ≡ get (codes "version") b → get (codes "list") a ≡ get (codes "list") b → task_in a ≡ task_in b
unfolding task_in tree_in list_in version_in items_in
task_same a b nodes version list = rw (items_same (codes "nodes") a b nodes, items_same (codes "list") a b list, version) refl

differ : (xs ys : List ℕ) → bytes_eq xs ys ≡ false → bytes_eq ys ys ≡ true → xs ≡ ys → ⊥
differ xs ys other same is = false≢true (sym other ∙ ap (λ (l : List ℕ). bytes_eq l ys) is ∙ same)

-- two members put in leave the others as they were
kept : (name : List ℕ) (p f : Data) (ms : Members) → bytes_eq name (codes "plan") ≡ false → bytes_eq name (codes "flow") ≡ false
    → get name (object (put (codes "plan") p (put (codes "flow") f ms))) ≡ get name (object ms)
kept name p f ms no_plan no_flow =
    get_member-put_other name (codes "plan") p (put (codes "flow") f ms) (differ name (codes "plan") no_plan refl)
    ∙ get_member-put_other name (codes "flow") f ms (differ name (codes "flow") no_flow refl)

module _ (task : Task) (plan : List Step) (flow : List FlowRow)
    (reads_plan : (d : Data) → get (codes "plan") d ≡ Some (plan_data task.tree plan) → plan_in task.tree d ≡ Ok plan)
    (reads_flow : (d : Data) → get (codes "flow") d ≡ Some (flow_data task.tree flow) → flow_in task.tree d ≡ Ok flow) where
  object_claims : (ms : Members) → task_in (object ms) ≡ Ok task → claim_in (planned_document task.tree plan flow (object ms)) ≡ Ok (task, plan, flow)
  unfolding claim_in trial_in
  object_claims ms read =
      let p = plan_data task.tree plan in
      let f = flow_data task.tree flow in
      let whole = object (put (codes "plan") p (put (codes "flow") f ms)) in
      let same : task_in whole ≡ task_in (object ms) =
      task_same whole (object ms) (kept (codes "nodes") p f ms refl refl) (kept (codes "version") p f ms refl refl) (kept (codes "list") p f ms refl refl) in
      let flow_there : get (codes "flow") whole ≡ Some f =
      get_member-put_other (codes "flow") (codes "plan") p (put (codes "flow") f ms) (differ (codes "flow") (codes "plan") refl refl) ∙ get_member-put (codes "flow") f ms in
      rw (same, read, reads_plan whole (get_member-put (codes "plan") p (put (codes "flow") f ms)), reads_flow whole flow_there) refl

  -- the document that is written is read with the plan and the flow
  pub claims : (d : Data) → task_in d ≡ Ok task → claim_in (planned_document task.tree plan flow d) ≡ Ok (task, plan, flow)
  unfolding task_in tree_in items_in form.items_of
  claims null read = absurd (cc)
  claims (boolean b) read = absurd (cc)
  claims (number n) read = absurd (cc)
  claims (string s) read = absurd (cc)
  claims (array ds) read = absurd (cc)
  claims (object ms) read = object_claims ms read

-- ---- few levels

put_chosen : (o : Ordering) (n : ℕ) (a b c : Members) → members_depth a ≤ n → members_depth b ≤ n → members_depth c ≤ n → members_depth (match_ordering o a b c) ≤ n
put_chosen Less n a b c ha hb hc = ha
put_chosen Equal n a b c ha hb hc = hb
put_chosen Greater n a b c ha hb hc = hc

-- a member that is put in is one more that may be the deepest
put_level : (name : List ℕ) (d : Data) (ms : Members) (n : ℕ) → depth d ≤ n → members_depth ms ≤ n → members_depth (put name d ms) ≤ n
put_level name d no_members n here there = omega (arith, here)
put_level name d (member other e ms) n here there =
    put_chosen (slice_cmp nat_cmp name other) n (member name d (member other e ms)) (member other d ms) (member other e (put name d ms))
    (omega (arith, here, there)) (omega (arith, here, there)) (omega (arith, here, there, put_level name d ms n here (omega (arith, there))))

items_level : {A : Type 0} (data_of : A → Data) → ((x : A) → depth (data_of x) ≤ 1) → (xs : List A) → items_depth (items_of (map data_of xs)) ≤ 1
items_level data_of few [] = omega arith
items_level data_of few (x ∷ xs) = omega (arith, few x, items_level data_of few xs)

step_level : (tree : Rows) (step : Step) → depth (step_data tree step) ≤ 1
step_level tree (Lock node) = omega arith
step_level tree (Unlock node) = omega arith
step_level tree (Access access) = omega arith

pub planned_level : (tree : Rows) (plan : List Step) (flow : List FlowRow) (d : Data) → depth d ≤ 127 → depth (planned_document tree plan flow d) ≤ 127
planned_level tree plan flow null few = few
planned_level tree plan flow (boolean b) few = few
planned_level tree plan flow (number n) few = few
planned_level tree plan flow (string s) few = few
planned_level tree plan flow (array ds) few = few
planned_level tree plan flow (object ms) few =
    let p : depth (plan_data tree plan) ≤ 126 = omega (arith, items_level (step_data tree) (step_level tree) plan) in
    let f : depth (flow_data tree flow) ≤ 126 = omega (arith, items_level (flow_row_data tree) (λ row. omega arith) flow) in
    let inner = put_level (codes "flow") (flow_data tree flow) ms 126 f (omega (arith, few)) in
    omega (arith, put_level (codes "plan") (plan_data tree plan) (put (codes "flow") (flow_data tree flow) ms) 126 p inner)

-- A certificate with one amount changed doesn't balance at the row of the change.
use Rattle.std.proofs.Common.{◌≡◌, ◌≢◌, ℕ, ◌+◌, false, cond, List, [], ◌∷◌, Option, Some, None, refl, sym, ◌∙◌, ap, suc}
use Rattle.std.proofs.Common.{subst, inl, inr, arith}
use Rattle.std.specs.List.{slice_get, sum_by}
use Rattle.std.proofs.lemmas.Option.{none-some, same_Some}
use Rattle.std.proofs.lemmas.Bool.{cases_eq, cases_Bool, eqb-true}
use Rattle.std.proofs.lemmas.List.Sums.{sum_by-cons}
use Rattle.grove_tree.specs.Trees.{Rows, parent_of, weight_of, is_at, IsTree}
use Rattle.grove_tree.proofs.Above.{parent_lt}
use Rattle.grove_tree.proofs.Tests.{is_at_true}
use Rattle.grove_proof.specs.declared.flow.FlowRow.{FlowRow}
use Rattle.grove_proof.specs.Changes.{DifferInOne, IsChangedOnce}
use Rattle.grove_proof.specs.Flows.{child_sum}
use Rattle.grove_proof.specs.Laws.{OneChangeIsRefused}

-- the five constraints on a node, each of which has an amount
data Constraint : Type 0 where
  Above : Constraint
  Held : Constraint
  First : Constraint
  Last : Constraint
  Own : Constraint

abbrev amount_on : Constraint → FlowRow → ℕ
amount_on Above row = row.above
amount_on Held row = row.held
amount_on First row = row.first
amount_on Last row = row.last
amount_on Own row = row.own

-- two rows of one node differ in the amount on one constraint, and in no other
record Differ (row other : FlowRow) : Type 0 where
  node : row.node ≡ other.node
  changed : Constraint
  differ : amount_on changed row ≢ amount_on changed other
  kept : (constraint : Constraint) → constraint ≢ changed → amount_on constraint row ≡ amount_on constraint other

-- of a row whose amount on one constraint is another
one_differs : (row other : FlowRow) → DifferInOne row other → Differ row other
one_differs row other (unlike, (n, inl is)) = grind (arith)
one_differs row other (unlike, (n, inr (inl is))) = grind (arith)
one_differs row other (unlike, (n, inr (inr (inl is)))) = grind (arith)
one_differs row other (unlike, (n, inr (inr (inr (inl is))))) = grind (arith)
one_differs row other (unlike, (n, inr (inr (inr (inr is))))) = grind (arith)

-- a function of an item that may be missing
abbrev seen : (FlowRow → ℕ) → Option FlowRow → Option ℕ
seen f None = None
seen f (Some row) = Some (f row)

-- sums of terms that are the same place by place
sums_alike : (f : FlowRow → ℕ) (xs ys : List FlowRow) → ((i : ℕ) → seen f (slice_get xs i) ≡ seen f (slice_get ys i)) → sum_by f xs ≡ sum_by f ys
sums_alike f [] [] same = refl
sums_alike f [] (y ∷ ys) same = absurd (none-some (f y) (same 0))
sums_alike f (x ∷ xs) [] same = absurd (none-some (f x) (sym (same 0)))
sums_alike f (x ∷ xs) (y ∷ ys) same =
    let rest : sum_by f xs ≡ sum_by f ys = sums_alike f xs ys (λ i. same (suc i)) in
    omega (arith, sum_by-cons f x xs, sum_by-cons f y ys, same_Some (f x) (f y) (same 0))

-- no node is its own parent
not_own_parent : (rows : Rows) (v : ℕ) → IsTree rows → is_at v (parent_of rows v) ≡ false
not_own_parent rows v tree = grind (arith, cases_Bool, is_at_true, parent_lt)

module _ (rows : Rows) (flow other : List FlowRow) (tree : IsTree rows) (once : IsChangedOnce flow other) where
  one_node : once.row.node ≡ once.changed.node
  one_node = (one_differs once.row once.changed once.differ).node

  -- what the row's children add up to is the same before and after the change
  children_kept : (amount : FlowRow → ℕ) → child_sum rows amount flow once.row ≡ child_sum rows amount other once.changed
  children_kept amount =
      let v : ℕ = once.row.node in
      let term : FlowRow → ℕ = λ child. cond (is_at once.row.node (parent_of rows child.node)) (amount child) 0 in
      let none : (child : FlowRow) → once.row.node ≡ child.node → cond (is_at once.row.node (parent_of rows child.node)) (amount child) 0 ≡ 0 = λ child same.
      let P : ℕ → Type 0 = λ n. cond (is_at once.row.node (parent_of rows n)) (amount child) 0 ≡ 0 in
      subst P same (ap (λ b. cond b (amount child) 0) (not_own_parent rows once.row.node tree)) in
      sums_alike term flow other (λ i. elim (cases_eq i once.place) [
        | inl e ↦
            let P : ℕ → Type 0 = λ n. seen term (slice_get flow n) ≡ seen term (slice_get other n) in
            let same = ap (λ (n : ℕ). Some n) (none once.row refl ∙ sym (none once.changed one_node)) in
            subst P (sym e) (ap (seen term) once.before ∙ (same ∙ sym (ap (seen term) once.after)))
        | inr ne ↦ ap (seen term) (once.kept i ne)
      ]) ∙ ap (λ n. sum_by (λ child. cond (is_at n (parent_of rows child.node)) (amount child) 0) other) one_node

  -- so both can't balance
  unbalanced : (a c h f l o d a2 c2 h2 f2 l2 o2 d2 w w2 : ℕ) (changed : Constraint) → w ≡ w2 → c ≡ c2 → d ≡ d2
      → a + w ≡ c + h + f + o → a2 + w2 ≡ c2 + h2 + f2 + o2 → d + l + o ≡ w → d2 + l2 + o2 ≡ w2
      → (Above ≢ changed → a ≡ a2) → (Held ≢ changed → h ≡ h2) → (First ≢ changed → f ≡ f2) → (Last ≢ changed → l ≡ l2) → (Own ≢ changed → o ≡ o2)
      → (a ≡ a2) × (h ≡ h2) × (f ≡ f2) × (l ≡ l2) × (o ≡ o2)
  unbalanced a c h f l o d a2 c2 h2 f2 l2 o2 d2 w w2 Above e1 e2 e3 b1 b2 b3 b4 k1 k2 k3 k4 k5 = grind (arith)
  unbalanced a c h f l o d a2 c2 h2 f2 l2 o2 d2 w w2 Held e1 e2 e3 b1 b2 b3 b4 k1 k2 k3 k4 k5 = grind (arith)
  unbalanced a c h f l o d a2 c2 h2 f2 l2 o2 d2 w w2 First e1 e2 e3 b1 b2 b3 b4 k1 k2 k3 k4 k5 = grind (arith)
  unbalanced a c h f l o d a2 c2 h2 f2 l2 o2 d2 w w2 Last e1 e2 e3 b1 b2 b3 b4 k1 k2 k3 k4 k5 = grind (arith)
  unbalanced a c h f l o d a2 c2 h2 f2 l2 o2 d2 w w2 Own e1 e2 e3 b1 b2 b3 b4 k1 k2 k3 k4 k5 = grind (arith)

-- the changed amount is the same, against what is said of it
no_change : (row other : FlowRow) (constraint : Constraint) → (row.above ≡ other.above) × (row.held ≡ other.held) × (row.first ≡ other.first) × (row.last ≡ other.last) × (row.own ≡ other.own)
    → amount_on constraint row ≡ amount_on constraint other
no_change row other Above same = same.0
no_change row other Held same = same.1
no_change row other First same = same.2
no_change row other Last same = same.3
no_change row other Own same = same.4

-- a certificate with one amount changed is none
pub one_change_is_refused : OneChangeIsRefused
one_change_is_refused rows nodes lengths flow other cost claim tree certificate once changed =
    let row : FlowRow = once.row in
    let new : FlowRow = once.changed in
    let differ : Differ once.row once.changed = one_differs once.row once.changed once.differ in
    differ.differ (no_change once.row once.changed differ.changed
    (unbalanced rows flow other tree once
    once.row.above (child_sum rows (λ child. child.above) flow once.row) once.row.held once.row.first once.row.last once.row.own (child_sum rows (λ child. child.held) flow once.row)
    once.changed.above (child_sum rows (λ child. child.above) other once.changed) once.changed.held once.changed.first once.changed.last once.changed.own (child_sum rows (λ child. child.held) other once.changed)
    (weight_of rows once.row.node) (weight_of rows once.changed.node) differ.changed (ap (weight_of rows) differ.node)
    (children_kept rows flow other tree once (λ child. child.above)) (children_kept rows flow other tree once (λ child. child.held))
    (eqb-true _ _ (certificate.balances.locks once.place once.row once.before)) (eqb-true _ _ (changed.balances.locks once.place once.changed once.after))
    (eqb-true _ _ (certificate.balances.releases once.place once.row once.before)) (eqb-true _ _ (changed.balances.releases once.place once.changed once.after))
    (differ.kept Above) (differ.kept Held) (differ.kept First) (differ.kept Last) (differ.kept Own)))

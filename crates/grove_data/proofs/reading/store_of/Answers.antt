use Rattle.std.proofs.Common.{◌≡◌, ◌≤◌, ◌+◌, ◌*◌, ℕ, List, length, take, drop, get_or, refl, sym, ap, subst, arith}
use Rattle.std.proofs.Common.{rules, ◌∙◌}
use Rattle.std.specs.Prelude.{All}
use Rattle.std.proofs.lemmas.List.{length-map}
use Rattle.grove_tree.specs.Trees.{Rows}
use Rattle.grove_tree.specs.Weights.{unweighed, weights_of}
use Rattle.grove_tree.specs.Rules.{AreTreeRows}
use Rattle.grove_tree.proofs.SameNames.{length-unweighed}
use Rattle.grove_effects.specs.Snapshots.{Names, named_of, names_of}
use Rattle.grove_effects.specs.declared.snapshot.NodeName.{NodeName}
use Rattle.grove_store.specs.StoreStates.{StoreState, IsStore}
use Rattle.grove_data.specs.Numbers.{numbers_of}
use Rattle.grove_data.specs.Parts.{IsStoreOf}
use Rattle.grove_data.proofs.Counting.{passes, for_more}
use Rattle.grove_data.proofs.Stores.{weights_first, waits_third, parts_of, joined}
use Rattle.grove_data.proofs.reading.store_of.Goals as goal

-- as many names as rows
as_many : (rows : Rows) (nodes : List NodeName) (n : ℕ) → n ≡ length nodes → unweighed rows ≡ names_of nodes
    → n ≡ length rows
as_many rows nodes n at named =
    at ∙ sym (length-map nodes named_of) ∙ ap (λ (l : Names). length l) (sym named) ∙ length-unweighed rows

pub returns-in_err-tree-clause-unfit : goal.returns-in_err-tree-clause-unfit
returns-in_err-tree-clause-unfit c =
    let nodes = c.args.snapshot.now.names.items in
    let numbers = c.args.snapshot.now.numbers.items in
    let n = c.len-nodes.result in
    let at : n ≡ length nodes = search rules in
    let w = c.split_at.result.0.now in
    passes c.from_residual.result c.in_err-tree.field-0.0 _ c.from_residual.ensures.1
    (for_more
    ((rows : Rows) → AreTreeRows rows → unweighed rows ≡ names_of c.deref-2.result.now → weights_of rows ≡ w → ⊥)
    ((other : StoreState) → IsStore other → unweighed other.rows ≡ names_of nodes → numbers_of other ≡ numbers → ⊥)
    c.in_err-tree.field-0.0
    (λ p other is named numbered. p other.rows (is.tree, is.limits)
    (named ∙ sym (ap (λ (l : List NodeName). names_of l) c.deref-2.ensures.value))
    (sym (c.split_at.ensures.front ∙ ap (take n) (c.deref.ensures.value ∙ sym numbered)
    ∙ weights_first other n (as_many other.rows nodes n at named))))
    c.in_err-tree.ensures.unfit)

pub returns-in_err-waits-clause-unfit : goal.returns-in_err-waits-clause-unfit
returns-in_err-waits-clause-unfit c =
    let nodes = c.args.snapshot.now.names.items in
    let numbers = c.args.snapshot.now.numbers.items in
    let n = c.len-nodes.result in
    let at : n ≡ length nodes = search rules in
    let h = c.split_at-3.result.0.now in
    passes c.from_residual-in_err-waits.result c.in_err-waits.field-0.0 _ c.from_residual-in_err-waits.ensures.1
    (for_more (All (λ (count : ℕ). count ≤ 1000) h → ⊥)
    ((other : StoreState) → IsStore other → unweighed other.rows ≡ names_of nodes → numbers_of other ≡ numbers → ⊥)
    c.in_err-waits.field-0.0
    (λ p other is named numbered. p (subst (λ (l : List ℕ). All (λ (count : ℕ). count ≤ 1000) l)
    (sym (c.split_at-3.ensures.front ∙ ap (take n) (c.split_at-2.ensures.back ∙ ap (drop n) (c.split_at.ensures.back
    ∙ ap (drop n) (c.deref.ensures.value ∙ sym numbered)))
    ∙ waits_third other is n (as_many other.rows nodes n at named))) is.few))
    c.in_err-waits.ensures.unfit)

pub returns-clause-store : goal.returns-clause-store
returns-clause-store c =
    let nodes = c.args.snapshot.now.names.items in
    let numbers = c.args.snapshot.now.numbers.items in
    let n = c.len-nodes.result in
    let at : n ≡ length nodes = search rules in
    let long : length numbers ≡ 3 * n + 1 = omega (arith, c.requires.form.1) in
    let behind : c.split_at.result.1.now ≡ drop n numbers =
    c.split_at.ensures.back ∙ ap (drop n) c.deref.ensures.value in
    let rest : c.split_at-2.result.1.now ≡ drop n (drop n numbers) =
    c.split_at-2.ensures.back ∙ ap (drop n) behind in
    let last : c.split_at-3.result.1.now ≡ drop n (drop n (drop n numbers)) =
    c.split_at-3.ensures.back ∙ ap (drop n) rest in
    subst (IsStoreOf (names_of nodes) numbers c.args.workers) (sym c.resume-store.ensures) (record {
      is_store = subst IsStore c.resume-store.ensures c.tree-2.ensures.store;
      named = c.in_ok-tree.ensures.names ∙ ap (λ (l : List NodeName). names_of l) c.deref-2.ensures.value;
      numbered = joined _ numbers (take n numbers) (take n (drop n numbers)) (take n (drop n (drop n numbers)))
          (get_or (drop n (drop n (drop n numbers))) 0 0)
          (c.in_ok-tree.ensures.weights ∙ c.split_at.ensures.front ∙ ap (take n) c.deref.ensures.value)
          (c.in_ok-records.ensures.bits ∙ c.split_at-2.ensures.front ∙ ap (take n) behind)
          (c.in_ok-waits.ensures.same ∙ c.split_at-3.ensures.front ∙ ap (take n) rest)
          (ap (λ (l : List ℕ). get_or l 0 0) last) (parts_of numbers n 0 long);
      fit = c.in_ok-records.ensures.fit;
      worked = refl;
    })

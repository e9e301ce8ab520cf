-- The bars of the nodes that were looked at so far, and of all nodes.
use Rattle.std.proofs.Common.{◌≡◌, ℕ, ◌+◌, ◌*◌, true, false, List, [], ◌∷◌, ◌++◌, length, Some, map, sym, ◌∙◌, ap, subst, arith, add-one, zero-add, mul-zero, Option, None, is_some, IfSome}
use Rattle.std.specs.List.{sum_by}
use Rattle.std.proofs.lemmas.Option.{none-some, same_Some}
use Rattle.std.proofs.lemmas.List.Elements.{All-nil, All-cons, All-append}
use Rattle.std.proofs.lemmas.List.Sums.{sum_by_push}
use Rattle.std.proofs.lemmas.List.{map-append}
use Rattle.grove_base.specs.Numbers.{sum_below, passing_below}
use Rattle.grove_base.proofs.Counting.{passing_got, passing_rises}
use Rattle.grove_tree.specs.Trees.{Rows, weight_of}
use Rattle.grove_access.proofs.ForcedByTree.{passing_get}
use Rattle.grove_plan.specs.declared.step.Step.{Step}
use Rattle.grove_plan.specs.Plans.{holding, IsLegal}
use Rattle.grove_proof.proofs.ForcedMarks.{passing_hit, passing_miss}
use Rattle.grove_draw.specs.declared.bar.Bar.{Bar}
use Rattle.grove_draw.specs.Pictures.{IsBarOf, AreLocked}
use Rattle.grove_draw.specs.Bars.{is_locked, AreBarsBelow}
use Rattle.grove_draw.proofs.LockedNodes.{locked_by, locked_from, unlocked_free}

-- a node that isn't locked has no bar
pub bars_skip : (tree : Rows) (lengths : List ℕ) (plan : List Step) (n : ℕ) (bars : List Bar) → AreBarsBelow tree lengths plan n bars → is_locked plan n ≡ false
    → AreBarsBelow tree lengths plan (n + 1) bars
bars_skip tree lengths plan n bars so_far none = record {
  nodes = so_far.nodes ∙ sym (passing_miss n (is_locked plan) none);
  each = so_far.each;
  sum =
      let free : weight_of tree n * holding lengths plan n ≡ 0 = ap (λ (h : ℕ). weight_of tree n * h) (unlocked_free lengths plan n none) ∙ mul-zero (weight_of tree n) in
      so_far.sum ∙ one_more n (λ v. weight_of tree v * holding lengths plan v) 0 (sum_below n (λ v. weight_of tree v * holding lengths plan v)) free (sym (zero-add (sum_below n (λ v. weight_of tree v * holding lengths plan v))));
}
  where
    one_more : (n : ℕ) (f : ℕ → ℕ) (here s : ℕ) → f n ≡ here → s ≡ here + sum_below n f → s ≡ sum_below (n + 1) f
    one_more n f here s h k = rw add-one (k ∙ ap (λ (x : ℕ). x + sum_below n f) (sym h))

-- a locked one has one
pub bars_push : (tree : Rows) (lengths : List ℕ) (plan : List Step) (n : ℕ) (bars new : List Bar) (bar : Bar) → AreBarsBelow tree lengths plan n bars → is_locked plan n ≡ true
    → bar.node ≡ n → IsBarOf tree lengths plan bar → new ≡ bars ++ bar ∷ [] → AreBarsBelow tree lengths plan (n + 1) new
bars_push tree lengths plan n bars new bar so_far locked at is e = subst (λ (xs : List Bar). AreBarsBelow tree lengths plan (n + 1) xs) (sym e) (record {
  nodes = map-append (λ (bar : Bar). bar.node) bars (bar ∷ []) ∙ (ap (λ (xs : List ℕ). xs ++ bar.node ∷ []) so_far.nodes
      ∙ (ap (λ (v : ℕ). passing_below n (is_locked plan) ++ v ∷ []) at ∙ sym (passing_hit n (is_locked plan) locked)));
  each =
      let one = All-cons (IsBarOf tree lengths plan) bar [] is (All-nil (IsBarOf tree lengths plan)) in
      All-append (IsBarOf tree lengths plan) bars (bar ∷ []) so_far.each one;
  sum =
      let worth : ℕ → ℕ = λ v. weight_of tree v * holding lengths plan v in
      let here : bar.cost ≡ worth n = is.cost ∙ ap worth at in
      sum_by_push (λ (bar : Bar). bar.cost) bars bar
      ∙ summed n worth (sum_by (λ (bar : Bar). bar.cost) bars) bar.cost so_far.sum here;
})
  where
    summed : (n : ℕ) (f : ℕ → ℕ) (s here : ℕ) → s ≡ sum_below n f → here ≡ f n → s + here ≡ sum_below (n + 1) f
    summed n f s here h k = rw add-one (omega arith)

-- the same by what is found of the node
pub found_next : (tree : Rows) (lengths : List ℕ) (plan : List Step) (n v : ℕ) (bars new : List Bar) (found : Option Bar) (bar : Bar) → AreBarsBelow tree lengths plan n bars → v ≡ n
    → is_some found ≡ is_locked plan v → IfSome found (λ bar. bar.node ≡ v) → IfSome found (IsBarOf tree lengths plan) → found ≡ Some bar → new ≡ bars ++ bar ∷ []
    → AreBarsBelow tree lengths plan (n + 1) new
found_next tree lengths plan n v bars new None bar so_far number locked at is there e = absurd (none-some bar there)
found_next tree lengths plan n v bars new (Some other) bar so_far number locked at is there e =
    bars_push tree lengths plan n bars new other so_far (ap (is_locked plan) (sym number) ∙ sym locked) (at ∙ number) is
    (e ∙ ap (λ (b : Bar). bars ++ b ∷ []) (sym (same_Some other bar there)))

-- where nothing is found
pub none_next : (tree : Rows) (lengths : List ℕ) (plan : List Step) (n v : ℕ) (bars new : List Bar) (found : Option Bar) → AreBarsBelow tree lengths plan n bars → v ≡ n
    → is_some found ≡ is_locked plan v → found ≡ None → new ≡ bars → AreBarsBelow tree lengths plan (n + 1) new
none_next tree lengths plan n v bars new found so_far number locked none e =
    subst (λ (xs : List Bar). AreBarsBelow tree lengths plan (n + 1) xs) (sym e)
    (bars_skip tree lengths plan n bars so_far (ap (is_locked plan) (sym number) ∙ (sym locked ∙ ap is_some none)))

-- all of them are those of the locked nodes
pub bars_locked : (tree : Rows) (nodes lengths : List ℕ) (plan : List Step) (bars : List Bar) → IsLegal tree nodes plan → AreBarsBelow tree lengths plan (length tree) bars
    → AreLocked plan (map (λ (bar : Bar). bar.node) bars)
bars_locked tree nodes lengths plan bars legal all = subst (λ (xs : List ℕ). AreLocked plan xs) (sym all.nodes) (record {
  ascend = λ i j a b lt h k. passing_rises (length tree) (is_locked plan) i j a b lt h k;
  locked = λ node. (
    λ at. locked_by plan node (passing_got (length tree) (is_locked plan) at.0 node at.1).1,
    λ is. passing_get (length tree) (is_locked plan) node (legal.obeys.locks_nodes is.0 node is.1) (locked_from plan node is),
  );
})

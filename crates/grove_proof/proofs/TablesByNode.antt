-- Loop steps of the tables by node.
use Rattle.std.proofs.Common.{◌≡◌, ℕ, zero, suc, ◌+◌, ◌*◌, ◌^◌, ◌<◌, ◌≤◌, true, false, cond, ltb, List, length, take, get_or, Some, None, refl, sym, ◌∙◌, ap, inl, inr, arith, length-set, Bool}
use Rattle.std.proofs.lemmas.List.{length-replicate}
use Rattle.std.proofs.Math.ListN.{set, replicate}
use Rattle.std.specs.List.{slice_get}
use Rattle.std.proofs.lemmas.Option.{same_Some, slice_get_within, get_or_from_slice_get}
use Rattle.std.proofs.lemmas.Bool.{cases_eq, cases_Bool, both_ways, false_from_ne_true, lt-ltb, le-ltb, cond-true, cond-false, or_cases}
use Rattle.std.proofs.lemmas.List.Sums.{sum_by_more}
use Rattle.grove_base.specs.Numbers.{any_below, least_below, last_below}
use Rattle.grove_tree.specs.Trees.{Rows, parent_of, is_at}
use Rattle.grove_base.proofs.Lists.{get_set_same, get_set_other, get_replicate}
use Rattle.grove_base.proofs.Counting.{last_is, any_false}
use Rattle.grove_tree.proofs.Tests.{is_at_true, is_at_from}
use Rattle.grove_access.specs.Lists.{AreNodes}
use Rattle.grove_access.specs.Forced.{names_at}
use Rattle.grove_proof.specs.declared.flow.FlowRow.{FlowRow}
use Rattle.grove_proof.specs.declared.tables.Visits.{Visits}
use Rattle.grove_proof.specs.declared.tables.Amount.{Amount}
use Rattle.grove_proof.specs.Tables.{AreVisits, VisitsByNode, amount_of, sum_at, SumsByNode}

-- where none passes, the last place is 0
pub last_none : (n : ℕ) (test : ℕ → Bool) → ((k : ℕ) → k < n → test k ≡ false) → last_below n test ≡ 0
last_none zero test h = refl
last_none (suc n) test h = cond-false (test n) (suc n) (last_below n test) (h n (omega arith)) ∙ last_none n test (λ k lt. h k (omega arith))

-- the visits among the first accesses
pub record AreVisitsSoFar (rows : Rows) (nodes : List ℕ) (n : ℕ) (table : List Visits) : Type 0 where
  pub size : length table ≡ length rows
  pub at : VisitsByNode rows nodes n table

-- before any access there are none
pub visits_start : (rows : Rows) (nodes : List ℕ) → AreVisitsSoFar rows nodes 0 (replicate (length rows) (record { first = 0; end = 0 }))
visits_start rows nodes = record {
  size = length-replicate (length rows) (record { first = 0; end = 0 });
  at = λ v lt. (
    record { first = 0; end = 0 },
    get_replicate (length rows) (record { first = 0; end = 0 }) v lt,
    record { first = λ is. absurd (cc); end = refl; few = omega arith },
  );
}

-- a node without visits isn't accessed, and one with visits is
end_zero : (nodes : List ℕ) (n v : ℕ) (visits : Visits) → AreVisits nodes n v visits → visits.end ≡ 0 → any_below n (names_at nodes v) ≡ false
end_zero nodes n v visits are e = grind (arith, false_from_ne_true, last_is)

end_some : (nodes : List ℕ) (n v : ℕ) (visits : Visits) → AreVisits nodes n v visits → (visits.end ≡ 0 → ⊥) → any_below n (names_at nodes v) ≡ true
end_some nodes n v visits are ne = elim (cases_Bool (any_below n (names_at nodes v))) [
  | inl some ↦ some
  | inr none ↦ absurd (ne (are.end ∙ last_none n (names_at nodes v) (any_false n (names_at nodes v) none)))
]

-- whether a node is accessed
pub visited : (nodes : List ℕ) (n v : ℕ) (visits : Visits) → AreVisits nodes n v visits → any_below n (names_at nodes v) ≡ ltb 0 visits.end
visited nodes n v visits are = elim (cases_eq visits.end 0) [
  | inl e ↦ end_zero nodes n v visits are e ∙ sym (le-ltb 0 visits.end (omega arith))
  | inr ne ↦ end_some nodes n v visits are ne ∙ sym (lt-ltb 0 visits.end (omega arith))
]

visits_first : (nodes : List ℕ) (n v : ℕ) (old new : Visits) → AreVisits nodes n v old → (old.end ≡ 0 → new.first ≡ n) → ((old.end ≡ 0 → ⊥) → new.first ≡ old.first)
    → new.first ≡ least_below (suc n) (names_at nodes v)
visits_first nodes n v old new are fresh again = elim (cases_eq old.end 0) [
  | inl e ↦ fresh e ∙ sym (cond-false (any_below n (names_at nodes v)) (least_below n (names_at nodes v)) n (end_zero nodes n v old are e))
  | inr ne ↦ again ne ∙ (are.first (end_some nodes n v old are ne) ∙ sym (cond-true (any_below n (names_at nodes v)) (least_below n (names_at nodes v)) n (end_some nodes n v old are ne)))
]

visits_few : (nodes : List ℕ) (n v : ℕ) (old new : Visits) → AreVisits nodes n v old → (old.end ≡ 0 → new.first ≡ n) → ((old.end ≡ 0 → ⊥) → new.first ≡ old.first) → new.first ≤ suc n
visits_few nodes n v old new are fresh again = grind (arith, cases_eq)

-- the visits of a node after one more access, of it or of another
pub visits_hit : (nodes : List ℕ) (n v : ℕ) (old new : Visits) → AreVisits nodes n v old → slice_get nodes n ≡ Some v
    → (old.end ≡ 0 → new.first ≡ n) → ((old.end ≡ 0 → ⊥) → new.first ≡ old.first) → new.end ≡ n + 1 → AreVisits nodes (n + 1) v new
visits_hit nodes n v old new are names fresh again end =
    let e : n + 1 ≡ suc n = omega arith in
    let here : names_at nodes v n ≡ true = is_at_from v (slice_get nodes n) names in
    rw e (record {
      first = λ some. visits_first nodes n v old new are fresh again;
      end = end ∙ (e ∙ sym (cond-true (names_at nodes v n) (suc n) (last_below n (names_at nodes v)) here));
      few = visits_few nodes n v old new are fresh again;
    })

-- an access of another node leaves them
pub visits_miss : (nodes : List ℕ) (n v w : ℕ) (old : Visits) → AreVisits nodes n v old → slice_get nodes n ≡ Some w → (v ≡ w → ⊥) → AreVisits nodes (n + 1) v old
visits_miss nodes n v w old are names ne =
    grind (arith, both_ways, cond-false, cond-true, false_from_ne_true, is_at_true, or_cases, same_Some)

-- one access more is noted at its node
pub visits_step : (rows : Rows) (nodes : List ℕ) (n w : ℕ) (table : List Visits) (new : Visits) → AreNodes rows nodes → AreVisitsSoFar rows nodes n table → slice_get nodes n ≡ Some w
    → ((old : Visits) → slice_get table w ≡ Some old → (old.end ≡ 0 → new.first ≡ n) × ((old.end ≡ 0 → ⊥) → new.first ≡ old.first)) → new.end ≡ n + 1
    → AreVisitsSoFar rows nodes (n + 1) (set table w new)
visits_step rows nodes n w table new fits so_far names first end = record {
  size = length-set table w new ∙ so_far.size;
  at = λ v lt.
      let before : (visits : Visits) × (slice_get table v ≡ Some visits) × AreVisits nodes n v visits = so_far.at v lt in
      elim (cases_eq v w) [
        | inl e ↦
            let there : slice_get table w ≡ Some before.0 = ap (λ (i : ℕ). slice_get table i) (sym e) ∙ before.1 in
            let parts : (before.0.end ≡ 0 → new.first ≡ n) × ((before.0.end ≡ 0 → ⊥) → new.first ≡ before.0.first) = first before.0 there in (
              new,
              ap (λ (i : ℕ). slice_get (set table w new) i) e ∙ get_set_same table w new (rw so_far.size (fits n w names)),
              visits_hit nodes n v before.0 new before.2 (names ∙ ap (λ (i : ℕ). Some i) (sym e)) parts.0 parts.1 end,
            )
        | inr ne ↦ (before.0, get_set_other table w v new ne ∙ before.1, visits_miss nodes n v w before.0 before.2 names ne)
      ];
}

-- the sums over the first rows
pub record AreSumsSoFar (rows : Rows) (amount : Amount) (flow : List FlowRow) (n : ℕ) (table : List ℕ) : Type 0 where
  pub size : length table ≡ length rows
  pub sums : SumsByNode rows amount (take n flow) table
  pub bounded : (v sum : ℕ) → slice_get table v ≡ Some sum → sum ≤ n * 2 ^ 64

-- one more row: the child of a node, or not
sum_child : (rows : Rows) (amount : Amount) (flow : List FlowRow) (n v : ℕ) (row : FlowRow) → slice_get flow n ≡ Some row → is_at v (parent_of rows row.node) ≡ true
    → sum_at rows amount v (take (n + 1) flow) ≡ sum_at rows amount v (take n flow) + amount_of amount row
sum_child rows amount flow n v row there is =
    sum_by_more (λ child. cond (is_at v (parent_of rows child.node)) (amount_of amount child) 0) flow n row (slice_get_within flow n row there)
    ∙ ap (λ (k : ℕ). sum_at rows amount v (take n flow) + k)
    (ap (λ (r : FlowRow). cond (is_at v (parent_of rows r.node)) (amount_of amount r) 0) (get_or_from_slice_get flow n row row there) ∙ cond-true (is_at v (parent_of rows row.node)) (amount_of amount row) 0 is)

sum_other : (rows : Rows) (amount : Amount) (flow : List FlowRow) (n v : ℕ) (row : FlowRow) → slice_get flow n ≡ Some row → is_at v (parent_of rows row.node) ≡ false
    → sum_at rows amount v (take (n + 1) flow) ≡ sum_at rows amount v (take n flow)
sum_other rows amount flow n v row there is =
    let e : cond (is_at v (parent_of rows (get_or flow n row).node)) (amount_of amount (get_or flow n row)) 0 ≡ 0 =
    ap (λ (r : FlowRow). cond (is_at v (parent_of rows r.node)) (amount_of amount r) 0) (get_or_from_slice_get flow n row row there) ∙ cond-false (is_at v (parent_of rows row.node)) (amount_of amount row) 0 is in
    omega (arith, sum_by_more (λ child. cond (is_at v (parent_of rows child.node)) (amount_of amount child) 0) flow n row (slice_get_within flow n row there))

-- one row more is added at its parent
pub sums_step : (rows : Rows) (amount : Amount) (flow : List FlowRow) (n p old : ℕ) (table : List ℕ) (row : FlowRow) → AreSumsSoFar rows amount flow n table
    → slice_get flow n ≡ Some row → parent_of rows row.node ≡ Some p → p < length rows → slice_get table p ≡ Some old → amount_of amount row < 2 ^ 64
    → AreSumsSoFar rows amount flow (n + 1) (set table p (old + amount_of amount row))
sums_step rows amount flow n p old table row so_far there e within here small = record {
  size = length-set table p (old + amount_of amount row) ∙ so_far.size;
  sums = λ v lt. elim (cases_eq v p) [
    | inl same ↦ grind (arith, get_set_same, is_at_from, same_Some, sum_child)
    | inr ne ↦
        let is_not : is_at v (parent_of rows row.node) ≡ false = false_from_ne_true (is_at v (parent_of rows row.node)) (λ is. ne (same_Some v p (sym (is_at_true v (parent_of rows row.node) is) ∙ e))) in
        get_set_other table p v (old + amount_of amount row) ne ∙ (so_far.sums v lt ∙ ap (λ (i : ℕ). Some i) (sym (sum_other rows amount flow n v row there is_not)))
  ];
  bounded = grind (arith, cases_eq, get_set_other, get_set_same, same_Some);
}

-- and a row without a parent nowhere
pub sums_skip : (rows : Rows) (amount : Amount) (flow : List FlowRow) (n : ℕ) (table : List ℕ) (row : FlowRow) → AreSumsSoFar rows amount flow n table
    → slice_get flow n ≡ Some row → parent_of rows row.node ≡ None → AreSumsSoFar rows amount flow (n + 1) table
sums_skip rows amount flow n table row so_far there e = grind (arith, sum_other)

-- two ways to read one item
pub read_same : {X : Type 0} (xs : List X) (i j : ℕ) (x y : X) → slice_get xs j ≡ Some y → x ≡ get_or xs i x → i ≡ j → y ≡ x
read_same xs i j x y there read e = sym (get_or_from_slice_get xs j y x there) ∙ (ap (λ (k : ℕ). get_or xs k x) (sym e) ∙ sym read)

-- the first visit after one more access
pub first_kept : (n : ℕ) (old now new : Visits) → old ≡ now → (now.end ≡ 0 → ⊥) → new ≡ now → (old.end ≡ 0 → new.first ≡ n) × ((old.end ≡ 0 → ⊥) → new.first ≡ old.first)
first_kept n old now new e ne same = (λ z. absurd (ne (sym (ap (λ (v : Visits). v.end) e) ∙ z)), λ _. ap (λ (v : Visits). v.first) (same ∙ sym e))

-- a node's first visit is made with its number
pub first_made : (n m : ℕ) (old now new : Visits) → old ≡ now → now.end ≡ 0 → new ≡ record { first = n; end = m } → (old.end ≡ 0 → new.first ≡ n) × ((old.end ≡ 0 → ⊥) → new.first ≡ old.first)
first_made n m old now new e none made = (λ _. ap (λ (v : Visits). v.first) made, λ ne. absurd (ne (ap (λ (v : Visits). v.end) e ∙ none)))

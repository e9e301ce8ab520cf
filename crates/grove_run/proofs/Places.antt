-- The positions of jobs in an order, as far as they are written.
use Rattle.std.proofs.Common.{◌≡◌, ℕ, ◌+◌, ◌<◌, ◌≤◌, eqb, List, length, set, get_or, Some, sym, ◌∙◌, ap, inl, inr, arith}
use Rattle.std.specs.List.{slice_get, position_or_len}
use Rattle.std.proofs.lemmas.List.{length-set}
use Rattle.std.proofs.lemmas.List.Sums.{position_or_len_is}
use Rattle.std.proofs.lemmas.Option.{same_Some, slice_get_within, slice_get_past, slice_get-get_or}
use Rattle.std.proofs.lemmas.Bool.{cases_eq, cases_lt, ne_eqb, eq-eqb}
use Rattle.grove_base.specs.Numbers.{numbers_below}
use Rattle.grove_base.proofs.Lists.{get_set_same, get_set_other, get_map, map_length, same_lists}
use Rattle.grove_base.proofs.Counting.{numbers_length, numbers_get}
use Rattle.grove_core.specs.Laws.{IsEachOnce}
use Rattle.grove_run.specs.Runs.{places_of}

-- of the first jobs of the order each has its position written
pub record HasPlaced (order : List ℕ) (jobs n : ℕ) (places : List ℕ) : Type 0 where
  pub all : length places ≡ jobs
  pub placed : (place t : ℕ) → place < n → slice_get order place ≡ Some t → slice_get places t ≡ Some place

-- one job more
pub placed_more : (order : List ℕ) (jobs n : ℕ) (places : List ℕ) (job : ℕ) → IsEachOnce order jobs → slice_get order n ≡ Some job → HasPlaced order jobs n places
    → HasPlaced order jobs (n + 1) (set places job n)
placed_more order jobs n places job each at so_far =
    grind (arith, cases_eq, get_set_other, get_set_same, length-set, same_Some)

-- where a job stands once, its position is that
position_at : (order : List ℕ) (jobs job place : ℕ) → IsEachOnce order jobs → slice_get order place ≡ Some job → position_or_len (λ other. eqb other job) order ≡ place
position_at order jobs job place each at =
    let lt : place < length order = slice_get_within order place job at in
    position_or_len_is (λ other. eqb other job) order place 0 (omega arith)
    (λ k before. ne_eqb (get_or order k 0) job (λ e.
    let same : k ≡ place = each.once k place job (slice_get-get_or order k 0 (omega arith) ∙ ap (λ (t : ℕ). Some t) e) at in
    absurd (omega arith)))
    (λ _. eq-eqb (get_or order place 0) job (same_Some (get_or order place 0) job (sym (slice_get-get_or order place 0 lt) ∙ at)))

-- once all are written, each job's position is
pub placed_all : (order : List ℕ) (jobs n : ℕ) (places : List ℕ) → IsEachOnce order jobs → length order ≤ n → HasPlaced order jobs n places → places ≡ places_of order jobs
placed_all order jobs n places each le so_far =
    let all : length places ≡ jobs = so_far.all in
    let size : length (numbers_below jobs) ≡ jobs = numbers_length jobs in
    let mapped : length (places_of order jobs) ≡ length (numbers_below jobs) = map_length (λ job. position_or_len (λ other. eqb other job) order) (numbers_below jobs) in
    same_lists places (places_of order jobs) (λ job. elim (cases_lt job jobs) [
      | inl lt ↦
          let at = each.all job lt in
          let within : at.0 < length order = slice_get_within order at.0 job at.1 in
          so_far.placed at.0 job (omega arith) at.1
          ∙ ap (λ (k : ℕ). Some k) (sym (position_at order jobs job at.0 each at.1))
          ∙ sym (get_map (λ t. position_or_len (λ other. eqb other t) order) (numbers_below jobs) job job (numbers_get jobs job lt))
      | inr ge ↦ slice_get_past places job (omega arith) ∙ sym (slice_get_past (places_of order jobs) job (omega arith))
    ])

-- The state that the search begins with, and the solution that it ends with.
use Rattle.std.proofs.Common.{◌≡◌, ℕ, zero, suc, ◌+◌, ◌-◌, ◌*◌, ◌<◌, ◌≤◌, Bool, List, [], ◌∷◌, length}
use Rattle.std.proofs.Common.{slice_index, slice_set, ℤ, pos, negsuc, ◌+ℤ◌, ◌-ℤ◌, ◌≤ℤ◌, refl, sym, ◌∙◌, ap, arith}
use Rattle.std.proofs.lemmas.Bool.{cases_lt}
use Rattle.std.proofs.lemmas.List.{get_or_past, length-replicate}
use Rattle.std.proofs.lemmas.Grind.{common_steps}
use borrow.Author.Differences.{ints, up, down}
use Rattle.grove_base.specs.Numbers.{sum_below}
use Rattle.grove_base.proofs.Counting.{sum_same}
use Rattle.grove_flow.specs.declared.network.Arc.{Arc}
use Rattle.grove_flow.specs.Networks.{arc_at, place, HasOwnArcs, IsNetwork, IsStart}
use Rattle.grove_flow.specs.Flows.{sent, takes, IsSolution}
use Rattle.grove_flow.specs.States.{double, gives, ArePaired, IsFrame, AreNamed, AreRebased, IsState}
use Rattle.grove_flow.proofs.Closed.{cond_none, double-is, none_unmet}
use Rattle.grove_flow.proofs.Reaching.{zeros, no_ranks}

-- a row's lock gives its weight, and its release takes it
row_is : {needs : List ℤ} {arcs : List Arc} (network : IsNetwork needs arcs) (k : ℕ) → k < network.rows
    → (w : ℕ) × (w < 1000) × (place needs (double k) ≡ negsuc w) × (place needs (suc (double k)) ≡ pos (w + 1))
row_is network k lt = let e : 2 * k ≡ double k = sym (double-is k) in let f : 2 * k + 1 ≡ suc (double k) = omega arith in rw (f, e) at (network.weights k lt)

network_paired : {needs : List ℤ} {arcs : List Arc} (network : IsNetwork needs arcs) → ArePaired network.rows needs
network_paired network = record {
  locks = λ k lt. ap up (row_is network k lt).2;
  releases = λ k lt. ap down (row_is network k lt).3;
  pairs = λ k lt. let row = row_is network k lt in omega (arith, ap down row.2, ap up row.3);
  base_gives = rw (double-is network.rows) (ap down network.base);
  base_takes = rw (double-is network.rows) (ap up network.base);
}

-- the rows take at most 1000 each
rows_take : {needs : List ℤ} {arcs : List Arc} (network : IsNetwork needs arcs) (n : ℕ) → n ≤ network.rows → sum_below (double n) (takes needs) ≤ 1000 * n
rows_take network zero le = omega arith
rows_take network (suc n) le = let row = row_is network n (omega arith) in omega (arith, rows_take network n (omega arith), row.1, ap up row.2, ap up row.3)

-- an arc names its ends in 32 bits, so there are not many rows
few_rows : (arcs : List Arc) (rows : ℕ) → HasOwnArcs rows arcs → AreNamed arcs → rows ≤ 2147483648
few_rows arcs zero own named = omega arith
few_rows arcs (suc k) own named =
    let arc : (i : ℕ) × (i < length arcs) × ((arc_at arcs i).from ≡ 2 * k) × ((arc_at arcs i).to ≡ 2 * k + 1) = own k (omega arith) in
    omega (arith, named arc.0 arc.1)

network_frame : {needs : List ℤ} {arcs : List Arc} → IsNetwork needs arcs → AreNamed arcs → IsFrame needs arcs
network_frame {needs} {arcs} network named =
    let few : network.rows ≤ 2147483648 = few_rows arcs network.rows network.own named in
    let size : length needs ≡ suc (double network.rows) = omega (arith, double-is network.rows, network.size) in
    record {
      rows = network.rows;
      size = size;
      few = omega (arith, double-is network.rows);
      arcs_of = rw size at network.arcs_of;
      paired = network_paired network;
      own = network.own;
      small = rw size (omega (arith, rows_take network network.rows (omega arith), (network_paired network).base_takes));
    }

-- nothing is sent at first
pub sent_none : (test : Arc → Bool) (arcs : List Arc) (n : ℕ) → sent test arcs (zeros n) ≡ 0
sent_none test [] n = refl
sent_none test (arc ∷ arcs) zero = refl
sent_none test (arc ∷ arcs) (suc n) = omega (arith, cond_none (test arc), sent_none test arcs n)

-- a place of the start is modest, and so is what stands past them
start_modest : {needs : List ℤ} {arcs : List Arc} {places : List ℤ} → IsStart needs arcs places → (v : ℕ) → (negsuc 1048575 ≤ℤ place places v) × (place places v ≤ℤ pos 1048576)
start_modest {needs} {places} start v = grind (arith, cases_lt, get_or_past, ints)

pub start_state : {needs : List ℤ} {arcs : List Arc} {places : List ℤ} (excess unmet : List ℕ) → IsNetwork needs arcs → AreNamed arcs → IsStart needs arcs places
    → length excess ≡ length needs → length unmet ≡ length needs
    → ((v : ℕ) → slice_index excess v ≡ gives needs v) → ((v : ℕ) → slice_index unmet v ≡ takes needs v)
    → IsState needs arcs (zeros (length arcs)) places excess unmet
start_state {needs} {arcs} {places} excess unmet network named start excess_size unmet_size excess_is unmet_is = record {
  frame = network_frame network named;
  lawful = λ i lt. record { met = start.met i lt; tight = λ some. absurd (omega (arith, no_ranks (length arcs) i)) };
  balanced = grind (arith, sent_none);
  unmoved = λ v some. (start_modest start v).1;
  near = λ v. omega (arith, ints, start_modest start v);
  amounts_size = length-replicate (length arcs) 0;
  places_size = start.size;
  excess_size = excess_size;
  unmet_size = unmet_size;
  sound = λ i. omega (arith, no_ranks (length arcs) i, sum_same (length needs) (slice_index unmet) (takes needs) (λ v lt. unmet_is v));
}

-- where nothing is left to give, the places moved by that of the base are a solution's
pub solution_is : {needs : List ℤ} {arcs : List Arc} {amounts : List ℕ} {old new : List ℤ} {excess unmet : List ℕ} → IsState needs arcs amounts old excess unmet
    → ((v : ℕ) → v < length needs → slice_index excess v ≡ 0) → AreRebased (length old) old new → IsSolution needs arcs amounts new
solution_is {needs} {arcs} {amounts} {old} {new} {excess} {unmet} state given rebased = record {
  amounts_size = state.amounts_size;
  places_size = rebased.size ∙ state.places_size;
  balanced = λ v lt. omega (arith, ints, none_unmet amounts excess unmet state.frame state.balanced given v lt, given v lt, state.balanced v lt);
  lawful = grind (arith, ints);
  base = rw (← state.places_size) (omega (arith, ints, rebased.moved (length old - 1) (omega arith)));
  bounded = λ i. omega (arith, state.sound i);
}

-- the needs before the i-th were shared out
pub record AreShared (i : ℕ) (needs : List ℤ) (excess unmet : List ℕ) : Type 0 where
  pub excess_size : length excess ≡ length needs
  pub unmet_size : length unmet ≡ length needs
  pub gives_done : (v : ℕ) → v < i → slice_index excess v ≡ gives needs v
  pub takes_done : (v : ℕ) → v < i → slice_index unmet v ≡ takes needs v
  pub excess_rest : (v : ℕ) → i ≤ v → slice_index excess v ≡ 0
  pub unmet_rest : (v : ℕ) → i ≤ v → slice_index unmet v ≡ 0

-- the places before the i-th were moved
pub record AreMovedBelow (i : ℕ) (base : ℤ) (old new : List ℤ) : Type 0 where
  pub size : length new ≡ length old
  pub done : (v : ℕ) → v < i → place new v +ℤ base ≡ place old v
  pub rest : (v : ℕ) → i ≤ v → place new v ≡ place old v

pub moved_more : {i : ℕ} {base : ℤ} {old new : List ℤ} → i < length new → AreMovedBelow i base old new → AreMovedBelow (i + 1) base old (slice_set new i (place new i -ℤ base))
moved_more lt h = grind (arith, common_steps, ints)

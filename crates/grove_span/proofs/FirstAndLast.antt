-- Noting the first and the last access of each node.
use Rattle.std.proofs.Common.{◌≡◌, ℕ, suc, ◌-◌, Bool, true, false, cond, List, slice_get, Option, Some, None, refl, sym}
use Rattle.std.proofs.Common.{ap, subst, unwrap_or, arith}
use Rattle.std.proofs.lemmas.Bool.{cases_Bool, eqb-true, eq-eqb}
use Rattle.grove_base.specs.Numbers.{any_below, least_below}
use Rattle.grove_tree.specs.Trees.{is_at}
use Rattle.grove_access.specs.Forced.{names_at}
use Rattle.grove_span.specs.declared.visit.Visits.{Visits}
use Rattle.grove_span.specs.Ways.{first_below, last_below_of, TellsOf, IsUnnamed}
use Rattle.grove_base.proofs.Counting.{any_none}
use Rattle.grove_tree.proofs.Tests.{is_at_true}

-- one more number that passes: it is the first unless there is one already, and it is the last
choose : (b : Bool) (least : ℕ) (n : ℕ) → Some (unwrap_or (cond b (Some least) None) n) ≡ Some (cond b least n)
choose true least n = refl
choose false least n = refl

first_hit : (nodes : List ℕ) (n node : ℕ) → names_at nodes node n ≡ true → first_below nodes (suc n) node ≡ Some (unwrap_or (first_below nodes n node) n)
first_hit nodes n node h = rw h (sym (choose (any_below n (names_at nodes node)) (least_below n (names_at nodes node)) n))

last_hit : (nodes : List ℕ) (n node : ℕ) → names_at nodes node n ≡ true → last_below_of nodes (suc n) node ≡ Some n
last_hit nodes n node h = let e : suc n - 1 ≡ n = omega arith in rw h (ap (λ (k : ℕ). Some k) e)

-- a choice made twice is made once
miss_first : (b : Bool) (least n : ℕ) → cond b (Some (cond b least n)) None ≡ cond b (Some least) None
miss_first true least n = refl
miss_first false least n = refl

-- one more number that fails changes nothing
first_miss : (nodes : List ℕ) (n node : ℕ) → names_at nodes node n ≡ false → first_below nodes (suc n) node ≡ first_below nodes n node
first_miss nodes n node h = rw h (miss_first (any_below n (names_at nodes node)) (least_below n (names_at nodes node)) n)

last_miss : (nodes : List ℕ) (n node : ℕ) → names_at nodes node n ≡ false → last_below_of nodes (suc n) node ≡ last_below_of nodes n node
last_miss nodes n node h = rw h refl

-- an access of one node is none of another
names_not : (nodes : List ℕ) (n target node : ℕ) → slice_get nodes n ≡ Some target → (node ≡ target → ⊥) → names_at nodes node n ≡ false
names_not nodes n target node at other = grind (arith, cases_Bool, eqb-true)

names_is : (nodes : List ℕ) (n node : ℕ) → slice_get nodes n ≡ Some node → names_at nodes node n ≡ true
names_is nodes n node at = subst (λ (o : Option ℕ). is_at node o ≡ true) (sym at) (eq-eqb node node refl)

-- one more access of the node
pub tells_hit : (nodes : List ℕ) (n node : ℕ) (old new : Visits) → slice_get nodes n ≡ Some node → new.first ≡ Some (unwrap_or old.first n) → new.last ≡ Some n
    → TellsOf nodes n node old → TellsOf nodes (suc n) node new
tells_hit nodes n node old new at first last told = grind (arith, first_hit, last_hit, names_is)

-- one more access of another
pub tells_miss : (nodes : List ℕ) (n target node : ℕ) (visits : Visits) → slice_get nodes n ≡ Some target → (node ≡ target → ⊥) → TellsOf nodes n node visits → TellsOf nodes (suc n) node visits
tells_miss nodes n target node visits at other told = grind (arith, first_miss, last_miss, names_not)

-- a node that no access names has none
pub tells_none : (nodes : List ℕ) (n node : ℕ) (visits : Visits) → visits.first ≡ None → visits.last ≡ None → IsUnnamed nodes node → TellsOf nodes n node visits
tells_none nodes n node visits first last unnamed = grind (arith, any_none, cases_Bool, is_at_true)

-- For the proofs alone (of `solve`): what holds of amounts and places while they are searched for.
use Rattle.std.specs.Prelude.{◌≡◌, ℕ, zero, suc, ◌+◌, ◌-◌, ◌<◌, ◌≤◌, ◌==◌, cond, List, length, slice_index, ℤ, pos}
use Rattle.std.specs.Prelude.{negsuc, ◌+ℤ◌, ◌≤ℤ◌}
use borrow.Author.Differences.{down}
use Rattle.grove_base.specs.Numbers.{sum_below}
use Rattle.grove_flow.specs.declared.network.Arc.{Arc}
use Rattle.grove_flow.specs.Networks.{arc_at, place, AreLawful, AreArcsOf, HasOwnArcs}
use Rattle.grove_flow.specs.Flows.{amount_in, amount_out, takes}

abbrev pub double : ℕ → ℕ
double zero = zero
double (suc n) = suc (suc (double n))

-- an amount at one variable, as seen by another
abbrev pub at : ℕ → ℕ → ℕ → ℕ
at v by u = cond (v == u) by 0

-- what a variable is to give away: its need, where that is negative
abbrev pub gives : List ℤ → ℕ → ℕ
gives needs v = down (place needs v)

-- A row's lock gives what its release takes. The base, after all rows, does neither.
pub record ArePaired (rows : ℕ) (needs : List ℤ) : Type 0 where
  pub locks : (k : ℕ) → k < rows → takes needs (double k) ≡ 0
  pub releases : (k : ℕ) → k < rows → gives needs (suc (double k)) ≡ 0
  pub pairs : (k : ℕ) → k < rows → gives needs (double k) ≡ takes needs (suc (double k))
  pub base_gives : gives needs (double rows) ≡ 0
  pub base_takes : takes needs (double rows) ≡ 0

-- what doesn't change in a search
pub record IsFrame (needs : List ℤ) (arcs : List Arc) : Type 0 where
  pub rows : ℕ
  pub size : length needs ≡ suc (double rows)
  pub few : length needs ≤ 4294967297
  pub arcs_of : AreArcsOf arcs (suc (double rows))
  pub paired : ArePaired rows needs
  pub own : HasOwnArcs rows arcs
  pub small : sum_below (length needs) (takes needs) ≤ 4398046511104

-- what enters and leaves a variable, where it still has to give `excess` and to take `unmet`
abbrev pub IsBalancedAt : List Arc → List ℤ → List ℕ → List ℕ → List ℕ → ℕ → Type 0
IsBalancedAt arcs needs amounts excess unmet v =
    amount_in arcs amounts v + gives needs v + slice_index unmet v ≡ amount_out arcs amounts v + takes needs v
    + slice_index excess v

abbrev pub AreBalanced : List Arc → List ℤ → List ℕ → List ℕ → List ℕ → Type 0
AreBalanced arcs needs amounts excess unmet = (v : ℕ) → v < length needs
    → IsBalancedAt arcs needs amounts excess unmet v

-- a variable that still has to take was not moved far
abbrev pub AreUnmoved : List ℤ → List ℕ → Type 0
AreUnmoved places unmet = (v : ℕ) → 0 < slice_index unmet v → place places v ≤ℤ pos 1048576

-- places that cannot overflow
abbrev pub AreNear : List ℤ → Type 0
AreNear places = (v : ℕ) → (negsuc 1048575 ≤ℤ place places v) × (place places v ≤ℤ pos 18014398509481984)

-- amounts, places, and what is still to be sent
pub record IsState (needs : List ℤ) (arcs : List Arc) (amounts : List ℕ) (places : List ℤ)
    (excess unmet : List ℕ) : Type 0 where
  pub frame : IsFrame needs arcs
  pub lawful : AreLawful arcs amounts places
  pub balanced : AreBalanced arcs needs amounts excess unmet
  pub unmoved : AreUnmoved places unmet
  pub near : AreNear places
  pub amounts_size : length amounts ≡ length arcs
  pub places_size : length places ≡ length needs
  pub excess_size : length excess ≡ length needs
  pub unmet_size : length unmet ≡ length needs
  pub sound : (i : ℕ) → slice_index amounts i + sum_below (length needs) (slice_index unmet)
      ≤ sum_below (length needs) (takes needs)

-- new amounts send `by` more from one variable to another
abbrev pub IsMoved : List Arc → List ℕ → List ℕ → ℕ → ℕ → ℕ → Type 0
IsMoved arcs old new from to by =
    (v : ℕ) → amount_in arcs new v + amount_out arcs old v + at from by v ≡ amount_in arcs old v + amount_out arcs new v
    + at to by v

-- each arc's end is a number of 32 bits
abbrev pub AreNamed : List Arc → Type 0
AreNamed arcs = (i : ℕ) → i < length arcs → (arc_at arcs i).to < 4294967296

-- the first n places are moved by that of the base
pub record AreRebased (n : ℕ) (old new : List ℤ) : Type 0 where
  pub size : length new ≡ length old
  pub moved : (v : ℕ) → v < n → place new v +ℤ place old (length old - 1) ≡ place old v

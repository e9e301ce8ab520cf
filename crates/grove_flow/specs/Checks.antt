-- For the proofs alone (of `is_solution`): what a test of a solution adds up.
use Rattle.std.specs.Prelude.{◌≡◌, ℕ, ◌<◌, ◌≤◌, List, length, slice_index, ℤ, pos, ◌+ℤ◌}
use Rattle.grove_flow.specs.declared.network.Arc.{Arc}
use Rattle.grove_flow.specs.Flows.{amount_in, amount_out}
use Rattle.grove_flow.specs.Networks.{place}

abbrev pub AreAmountsUpTo : List ℕ → ℕ → Type 0
AreAmountsUpTo amounts most = (i : ℕ) → slice_index amounts i ≤ most

-- what enters and leaves each variable
pub record AreTotals (arcs : List Arc) (amounts into out : List ℕ) : Type 0 where
  pub into_is : (v : ℕ) → v < length into → slice_index into v ≡ amount_in arcs amounts v
  pub out_is : (v : ℕ) → v < length out → slice_index out v ≡ amount_out arcs amounts v

abbrev pub IsBalanced : ℤ → ℕ → ℕ → Type 0
IsBalanced need into out = pos into ≡ pos out +ℤ need

-- the first n variables are met
abbrev pub AreMet : List ℤ → List ℕ → List ℕ → ℕ → Type 0
AreMet needs into out n = (v : ℕ) → v < n → IsBalanced (place needs v) (slice_index into v) (slice_index out v)

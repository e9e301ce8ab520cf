-- Flows that differ in one amount.
use Rattle.std.specs.Prelude.{◌≡◌, ◌≢◌, ◌⊎◌, ℕ, List, slice_get, Some}
use Rattle.grove_proof.specs.declared.flow.FlowRow.{FlowRow}

-- two rows of one node differ in one of their five amounts
abbrev pub DifferInOne : FlowRow → FlowRow → Type 0
DifferInOne row other = (row ≢ other) × ((amount : ℕ) × ((other ≡ record row { above = amount })
    ⊎ ((other ≡ record row { held = amount }) ⊎ ((other ≡ record row { first = amount })
    ⊎ ((other ≡ record row { last = amount }) ⊎ (other ≡ record row { own = amount }))))))

-- two flows differ in one amount of one row
pub record IsChangedOnce (flow other : List FlowRow) : Type 0 where
  pub place : ℕ
  pub row : FlowRow
  pub changed : FlowRow
  pub before : slice_get flow place ≡ Some row
  pub after : slice_get other place ≡ Some changed
  pub differ : DifferInOne row changed
  pub kept : (i : ℕ) → i ≢ place → slice_get flow i ≡ slice_get other i

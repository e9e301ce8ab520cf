-- For the proofs alone: amounts along arcs, and what enters and leaves a variable.
use Rattle.std.specs.Prelude.{◌≡◌, ℕ, ◌+◌, ◌-◌, ◌≤◌, ◌<◌, ◌==◌, Bool, cond, List, [], ◌∷◌, length, slice_index, ℤ, pos}
use Rattle.std.specs.Prelude.{◌+ℤ◌}
use borrow.Author.Differences.{up}
use Rattle.grove_base.specs.Numbers.{sum_below}
use Rattle.grove_flow.specs.declared.network.Arc.{Arc}
use Rattle.grove_flow.specs.Networks.{AreLawful, place}

-- the sum of the amounts of the arcs that pass a test
abbrev pub sent : (Arc → Bool) → List Arc → List ℕ → ℕ
sent test [] amounts = 0
sent test (arc ∷ arcs) [] = 0
sent test (arc ∷ arcs) (amount ∷ amounts) = cond (test arc) amount 0 + sent test arcs amounts

-- what enters a variable
abbrev pub amount_in : List Arc → List ℕ → ℕ → ℕ
amount_in arcs amounts v = sent (λ arc. arc.to == v) arcs amounts

-- what leaves a variable
abbrev pub amount_out : List Arc → List ℕ → ℕ → ℕ
amount_out arcs amounts v = sent (λ arc. arc.from == v) arcs amounts

-- what a variable is to take in: its need, where that is positive
abbrev pub takes : List ℤ → ℕ → ℕ
takes needs v = up (place needs v)

-- amounts that meet the needs, and places with the base at 0 that meet every arc, tightly where an amount is sent
pub record IsSolution (needs : List ℤ) (arcs : List Arc) (amounts : List ℕ) (places : List ℤ) : Type 0 where
  pub amounts_size : length amounts ≡ length arcs
  pub places_size : length places ≡ length needs
  pub balanced : (v : ℕ) → v < length needs → pos (amount_in arcs amounts v)
      ≡ pos (amount_out arcs amounts v) +ℤ place needs v
  pub lawful : AreLawful arcs amounts places
  pub base : place places (length needs - 1) ≡ pos 0
  pub bounded : (i : ℕ) → slice_index amounts i ≤ sum_below (length needs) (takes needs)

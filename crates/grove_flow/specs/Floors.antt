-- For the proofs alone (of `latest`): places that are lowered from the top until each arc is lawful.
use Rattle.std.specs.Prelude.{◌≡◌, ℕ, suc, ◌+◌, ◌-◌, ◌<◌, List, length, slice_set, ℤ, pos, negsuc, ◌≤ℤ◌, ◌<ℤ◌}
use Rattle.std.specs.List.{sum_by}
use borrow.Author.Differences.{up, down}
use Rattle.grove_flow.specs.declared.network.Arc.{Arc}
use Rattle.grove_flow.specs.Networks.{place, IsLawful, AreLawful, AreAtMost}

-- no place is below the least i64
abbrev pub AreHeld : List ℤ → Type 0
AreHeld places = (v : ℕ) → negsuc 9223372036854775807 ≤ℤ place places v

-- no place is above 2^20
abbrev pub AreCapped : List ℤ → Type 0
AreCapped places = (v : ℕ) → place places v ≤ℤ pos 1048576

-- each place is at the top, and the base at 0
pub record AreHighest (n : ℕ) (top : ℤ) (places : List ℤ) : Type 0 where
  pub size : length places ≡ n
  pub base : place places (n - 1) ≡ pos 0
  pub others : (v : ℕ) → suc v < n → place places v ≡ top

-- low places, lawful on an arc
pub record IsFloor (arc : Arc) (amount : ℕ) (places low : List ℤ) : Type 0 where
  pub lawful : IsLawful arc amount low
  pub below : AreAtMost low places
  pub held : AreHeld low

abbrev pub HasFloor : Arc → ℕ → List ℤ → Type 0
HasFloor arc amount places = (low : List ℤ) × IsFloor arc amount places low

-- low places, lawful on each arc
pub record AreFloor (arcs : List Arc) (amounts : List ℕ) (places low : List ℤ) : Type 0 where
  pub lawful : AreLawful arcs amounts low
  pub below : AreAtMost low places
  pub held : AreHeld low

abbrev pub HaveFloor : List Arc → List ℕ → List ℤ → Type 0
HaveFloor arcs amounts places = (low : List ℤ) × AreFloor arcs amounts places low

-- the places that are lawful on an arc and below the old ones are below the new ones, which are below the old ones
pub record IsKept (arc : Arc) (amount : ℕ) (old new : List ℤ) : Type 0 where
  pub above : (low : List ℤ) → IsLawful arc amount low → AreAtMost low old → AreAtMost low new
  pub down : AreAtMost new old

pub record AreKept (arcs : List Arc) (amounts : List ℕ) (old new : List ℤ) : Type 0 where
  pub above : (low : List ℤ) → AreLawful arcs amounts low → AreAtMost low old → AreAtMost low new
  pub down : AreAtMost new old

-- one place is lowered
pub record IsLoweredAt (v : ℕ) (most : ℤ) (old new : List ℤ) : Type 0 where
  pub below : most <ℤ place old v
  pub set : new ≡ slice_set old v most

-- how high a place lies above the least i64
abbrev pub height : ℤ → ℕ
height z = 9223372036854775808 + up z - down z

abbrev pub heights : List ℤ → ℕ
heights places = sum_by height places

-- For the proofs alone: difference constraints as arcs, and places that meet them.
use Rattle.std.specs.Prelude.{◌≡◌, ℕ, ◌+◌, ◌-◌, ◌*◌, ◌<◌, List, length, slice_index, slice_index_or, ℤ, pos, negsuc}
use Rattle.std.specs.Prelude.{◌+ℤ◌, ◌≤ℤ◌}
use Rattle.grove_flow.specs.declared.network.Arc.{Arc}

-- what stands at an index that is past the arcs
abbrev pub no_arc : Arc
no_arc = record { from = 0; to = 0; least = pos 0 }

abbrev pub arc_at : List Arc → ℕ → Arc
arc_at arcs i = slice_index_or arcs i no_arc

-- the place of a variable
abbrev pub place : List ℤ → ℕ → ℤ
place places v = slice_index_or places v (pos 0)

-- the places meet an arc
abbrev pub IsMet : Arc → List ℤ → Type 0
IsMet arc places = (place places arc.from +ℤ arc.least) ≤ℤ place places arc.to

-- the places meet an arc, and the arc is tight where an amount is sent along it
pub record IsLawful (arc : Arc) (amount : ℕ) (places : List ℤ) : Type 0 where
  pub met : (place places arc.from +ℤ arc.least) ≤ℤ place places arc.to
  pub tight : 0 < amount → place places arc.from +ℤ arc.least ≡ place places arc.to

-- each arc is lawful
abbrev pub AreLawful : List Arc → List ℕ → List ℤ → Type 0
AreLawful arcs amounts places = (i : ℕ) → i < length arcs → IsLawful (arc_at arcs i) (slice_index amounts i) places

-- a number from -2^20 to 2^20
abbrev pub IsModest : ℤ → Type 0
IsModest z = (negsuc 1048575 ≤ℤ z) × (z ≤ℤ pos 1048576)

-- an arc between variables below n that asks for little
pub record IsArcOf (n : ℕ) (arc : Arc) : Type 0 where
  pub from : arc.from < n
  pub to : arc.to < n
  pub modest : IsModest arc.least

abbrev pub AreArcsOf : List Arc → ℕ → Type 0
AreArcsOf arcs n = (i : ℕ) → i < length arcs → IsArcOf n (arc_at arcs i)

-- each row has an arc from its lock to its release
abbrev pub HasOwnArcs : ℕ → List Arc → Type 0
HasOwnArcs rows arcs =
    (k : ℕ) → k < rows → (i : ℕ) × (i < length arcs) × ((arc_at arcs i).from ≡ 2 * k) × ((arc_at arcs i).to ≡ 2 * k + 1)

-- Rows with weights from 1 to 1000, and arcs between their variables. What a row's lock gives away, its release takes
-- in.
pub record IsNetwork (needs : List ℤ) (arcs : List Arc) : Type 0 where
  pub rows : ℕ
  pub size : length needs ≡ 2 * rows + 1
  pub weights : (k : ℕ) → k < rows → (w : ℕ) × (w < 1000) × (place needs (2 * k) ≡ negsuc w)
      × (place needs (2 * k + 1) ≡ pos (w + 1))
  pub base : place needs (2 * rows) ≡ pos 0
  pub arcs_of : AreArcsOf arcs (length needs)
  pub own : HasOwnArcs rows arcs

-- places that meet each arc and are not far off
pub record IsStart (needs : List ℤ) (arcs : List Arc) (places : List ℤ) : Type 0 where
  pub size : length places ≡ length needs
  pub met : (i : ℕ) → i < length arcs → IsMet (arc_at arcs i) places
  pub modest : (v : ℕ) → v < length needs → IsModest (place places v)

-- lawful places for n variables with the base, the last one, at 0 and none above the top
pub record IsCandidate (n : ℕ) (arcs : List Arc) (amounts : List ℕ) (top : ℤ) (places : List ℤ) : Type 0 where
  pub size : length places ≡ n
  pub lawful : AreLawful arcs amounts places
  pub base : place places (n - 1) ≡ pos 0
  pub capped : (v : ℕ) → v < n → place places v ≤ℤ top

-- each place of the one is at most that of the other
abbrev pub AreAtMost : List ℤ → List ℤ → Type 0
AreAtMost low high = (v : ℕ) → place low v ≤ℤ place high v

-- the greatest candidate
pub record IsLatest (n : ℕ) (arcs : List Arc) (amounts : List ℕ) (top : ℤ) (places : List ℤ) : Type 0 where
  pub candidate : IsCandidate n arcs amounts top places
  pub greatest : (other : List ℤ) → IsCandidate n arcs amounts top other → AreAtMost other places

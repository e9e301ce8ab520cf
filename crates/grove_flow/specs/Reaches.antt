-- For the proofs alone (of `solve`): what is reached in a search, and how.
use Rattle.std.specs.Prelude.{◌≡◌, ◌≢◌, ℕ, zero, suc, ◌+◌, ◌-◌, ◌*◌, ◌<◌, ◌≤◌, min, ◌⊎◌, List, length, slice_index}
use Rattle.std.specs.Prelude.{slice_set, ℤ, pos, ◌+ℤ◌, ◌≤ℤ◌}
use Rattle.std.specs.List.{sum_by}
use Rattle.grove_flow.specs.declared.network.Arc.{Arc}
use Rattle.grove_flow.specs.declared.tree.Tree.{Tree}
use Rattle.grove_flow.specs.Networks.{arc_at, place}
use Rattle.grove_flow.specs.States.{IsMoved, IsState}

-- An arc leads on from the reached variables, those with a rank: along it, or back where an amount is sent along it.
pub record IsForward (arc : Arc) (places : List ℤ) (ranks : List ℕ) (slack : ℤ) : Type 0 where
  pub leaves : 0 < slice_index ranks arc.from
  pub arrives : slice_index ranks arc.to ≡ 0
  pub slack_is : place places arc.from +ℤ arc.least +ℤ slack ≡ place places arc.to

pub record IsBackward (arc : Arc) (amount : ℕ) (ranks : List ℕ) (slack : ℤ) : Type 0 where
  pub leaves : 0 < slice_index ranks arc.to
  pub arrives : slice_index ranks arc.from ≡ 0
  pub some : 0 < amount
  pub none : slack ≡ pos 0

abbrev pub IsStep : Arc → ℕ → List ℤ → List ℕ → ℤ → Type 0
IsStep arc amount places ranks slack = IsForward arc places ranks slack ⊎ IsBackward arc amount ranks slack

-- an arc doesn't lead on
pub record IsNoStep (arc : Arc) (amount : ℕ) (ranks : List ℕ) : Type 0 where
  pub leaves : 0 < slice_index ranks arc.from → 0 < slice_index ranks arc.to
  pub enters : 0 < amount → 0 < slice_index ranks arc.to → 0 < slice_index ranks arc.from

abbrev pub AreNoSteps : ℕ → List Arc → List ℕ → List ℕ → Type 0
AreNoSteps n arcs amounts ranks = (i : ℕ) → i < n → IsNoStep (arc_at arcs i) (slice_index amounts i) ranks

-- the step that is chosen among the first n arcs, of which none has less slack
pub record IsLeastStep (n : ℕ) (arcs : List Arc) (amounts : List ℕ) (places : List ℤ) (ranks : List ℕ) (chosen : ℕ)
    (by : ℤ) : Type 0 where
  pub within : chosen < n
  pub step : IsStep (arc_at arcs chosen) (slice_index amounts chosen) places ranks by
  pub least : (i : ℕ) (slack : ℤ) → i < n → IsStep (arc_at arcs i) (slice_index amounts i) places ranks slack
      → by ≤ℤ slack

-- one end of the arc is reached and the other isn't, and is to be
abbrev pub IsNew : Arc → ℕ → List ℕ → Type 0
IsNew arc amount ranks =
    ((0 < slice_index ranks arc.from) × (slice_index ranks arc.to ≡ 0))
    ⊎ ((0 < slice_index ranks arc.to) × (slice_index ranks arc.from ≡ 0) × (0 < amount))

-- A newly reached variable: the arc leads to it from a reached one, or back to it. The room is what can be sent so far.
pub record IsAhead (arc : Arc) (ranks rooms : List ℕ) (v room : ℕ) : Type 0 where
  pub here : arc.to ≡ v
  pub leaves : 0 < slice_index ranks arc.from
  pub arrives : slice_index ranks arc.to ≡ 0
  pub room_is : room ≡ slice_index rooms arc.from

pub record IsBehind (arc : Arc) (amount : ℕ) (ranks rooms : List ℕ) (v room : ℕ) : Type 0 where
  pub here : arc.from ≡ v
  pub leaves : 0 < slice_index ranks arc.to
  pub arrives : slice_index ranks arc.from ≡ 0
  pub some : 0 < amount
  pub room_is : room ≡ min (slice_index rooms arc.to) amount

-- How a reached variable was reached: along the arc from one of lower rank, or back.
pub record IsLinkedOn (arc : Arc) (ranks rooms : List ℕ) (v : ℕ) : Type 0 where
  pub here : arc.to ≡ v
  pub reached : 0 < slice_index ranks arc.from
  pub before : slice_index ranks arc.from < slice_index ranks v
  pub room : slice_index rooms v ≤ slice_index rooms arc.from

pub record IsLinkedBack (arc : Arc) (amount : ℕ) (ranks rooms : List ℕ) (v : ℕ) : Type 0 where
  pub here : arc.from ≡ v
  pub reached : 0 < slice_index ranks arc.to
  pub before : slice_index ranks arc.to < slice_index ranks v
  pub room : slice_index rooms v ≤ slice_index rooms arc.to
  pub sent : slice_index rooms v ≤ amount

-- 1 for a variable without a rank
abbrev pub unranked : ℕ → ℕ
unranked zero = 1
unranked (suc rank) = 0

-- the ways back from what is reached to the source
pub record AreWays (arcs : List Arc) (amounts ranks vias rooms : List ℕ) (source : ℕ) : Type 0 where
  pub open_rooms : (v : ℕ) → 0 < slice_index ranks v → 0 < slice_index rooms v
  pub vias_within : (v : ℕ) → 0 < slice_index ranks v → v ≢ source → slice_index vias v < length arcs
  pub ends : (v : ℕ) → 0 < slice_index ranks v → v ≢ source
      → IsLinkedOn (arc_at arcs (slice_index vias v)) ranks rooms v
      ⊎ IsLinkedBack (arc_at arcs (slice_index vias v)) (slice_index amounts (slice_index vias v)) ranks rooms v

-- what was reached of n variables from a source, `count` of them, and by which arcs
pub record IsReachedFrom (n : ℕ) (arcs : List Arc) (amounts excess ranks vias rooms : List ℕ)
    (source count : ℕ) : Type 0 where
  pub ranks_size : length ranks ≡ n
  pub vias_size : length vias ≡ n
  pub rooms_size : length rooms ≡ n
  pub source_within : source < n
  pub source_rank : 0 < slice_index ranks source
  pub source_room : slice_index rooms source ≤ slice_index excess source
  pub counted : sum_by unranked ranks + count ≡ n
  pub ranks_le : (v : ℕ) → slice_index ranks v ≤ count
  pub ways : AreWays arcs amounts ranks vias rooms source

-- the reached places are raised, and no other
pub record IsRaised (ranks : List ℕ) (by : ℤ) (old new : List ℤ) : Type 0 where
  pub size : length new ≡ length old
  pub moved : (v : ℕ) → 0 < slice_index ranks v → place new v ≡ place old v +ℤ by
  pub still : (v : ℕ) → slice_index ranks v ≡ 0 → place new v ≡ place old v

abbrev pub IsTight : Arc → List ℤ → Type 0
IsTight arc places = place places arc.from +ℤ arc.least ≡ place places arc.to

-- What the search keeps: the places of what is reached are near that of the source, and the arcs by which it was
-- reached are tight. All but the last variable lacks nothing.
pub record IsGrown (needs : List ℤ) (arcs : List Arc) (amounts : List ℕ) (places : List ℤ)
    (excess unmet ranks vias rooms : List ℕ) (source count last : ℕ) : Type 0 where
  pub state : IsState needs arcs amounts places excess unmet
  pub reached : IsReachedFrom (length needs) arcs amounts excess ranks vias rooms source count
  pub low : (v : ℕ) → 0 < slice_index ranks v
      → place places v ≤ℤ (place places source +ℤ pos (1048576 * slice_index ranks v))
  pub tight : (v : ℕ) → 0 < slice_index ranks v → v ≢ source → IsTight (arc_at arcs (slice_index vias v)) places
  pub within : last < length needs
  pub rank : 0 < slice_index ranks last
  pub met : (v : ℕ) → 0 < slice_index ranks v → v ≢ last → slice_index unmet v ≡ 0

-- an amount changes only where a variable was reached
abbrev pub AreAlong : List ℕ → List ℕ → List ℕ → List ℕ → ℕ → Type 0
AreAlong ranks vias old new source =
    (i : ℕ) → (slice_index new i ≡ slice_index old i)
    ⊎ ((v : ℕ) × (0 < slice_index ranks v) × (v ≢ source) × (slice_index vias v ≡ i))

-- `by` more is sent by a tree from its source to the target: as much as the way there has room for, `limit` at most
pub record IsPushed (arcs : List Arc) (tree : Tree) (source target limit : ℕ) (old new : List ℕ) (by : ℕ) : Type 0 where
  pub some : 0 < by
  pub most : by ≤ limit
  pub room : by ≤ slice_index tree.rooms.items source
  pub moved : IsMoved arcs old new source target by
  pub bounded : (i : ℕ) → slice_index new i ≤ slice_index old i + by
  pub along : AreAlong tree.ranks.items tree.vias.items old new source

-- more is sent along the arc that leads to v
pub record IsSentOn (arc : Arc) (via v by before : ℕ) (old new : List ℕ) : Type 0 where
  pub here : arc.to ≡ v
  pub back : before ≡ arc.from
  pub sent : new ≡ slice_set old via (slice_index old via + by)

-- less is sent along the arc that leads from v
pub record IsSentBack (arc : Arc) (via v by before : ℕ) (old new : List ℕ) : Type 0 where
  pub here : arc.to ≢ v
  pub back : before ≡ arc.to
  pub sent : new ≡ slice_set old via (slice_index old via - by)

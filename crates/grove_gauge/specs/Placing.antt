-- Who has a place at a port, and how places are given and left.
use Rattle.std.specs.Prelude.{ℕ, ◌+◌, ◌-◌, ◌^◌, ◌==◌, ◌&&◌, min, nat_lt, Bool, Option, None, Some, if◌then◌else◌}
use Rattle.grove_gauge.specs.declared.places.Place.{Place}
use Rattle.grove_gauge.specs.declared.places.Place.TheVariants.{Slot, Room}

-- how many slots there are, and how many are taken; for how many connections without one there is room, and how many
-- are there; how many of these have asked for a slot so far, and how many have got one
pub record PlaceCounts : Type 0 where
  pub slots : ℕ
  pub taken : ℕ
  pub room : ℕ
  pub inside : ℕ
  pub asked : ℕ
  pub entered : ℕ

abbrev pub all_free : ℕ → ℕ → PlaceCounts
all_free slots room = record { slots = slots; taken = 0; room = room; inside = 0; asked = 0; entered = 0 }

-- more slots are free than are waited for in the room
abbrev pub has_slot : PlaceCounts → Bool
has_slot c = nat_lt (c.asked - c.entered) (c.slots - c.taken)

-- the place of a connection that comes now: a slot, or one in the room, or none
abbrev pub next_place : PlaceCounts → Option Place
next_place c = if has_slot c then Some Slot else if nat_lt c.inside c.room then Some Room else None

abbrev pub with_place : Option Place → PlaceCounts → PlaceCounts
with_place None c = c
with_place (Some Slot) c = record c { taken = c.taken + 1 }
with_place (Some Room) c = record c { inside = c.inside + 1 }

abbrev pub without_place : Place → PlaceCounts → PlaceCounts
without_place Slot c = record c { taken = c.taken - 1 }
without_place Room c = record c { inside = c.inside - 1 }

-- one more, as far as 64 bits go
abbrev pub one_more : ℕ → ℕ
one_more n = min (n + 1) (2 ^ 64 - 1)

abbrev pub asking : PlaceCounts → PlaceCounts
asking c = record c { asked = one_more c.asked }

-- a slot is free, and all who asked before this one have got theirs
abbrev pub is_turn : PlaceCounts → ℕ → Bool
is_turn c number = nat_lt c.taken c.slots && (c.entered == number)

-- who asked first of those that wait leaves the room for a slot
abbrev pub entering : PlaceCounts → PlaceCounts
entering c = record c { taken = c.taken + 1; inside = c.inside - 1; entered = one_more c.entered }

-- For the proofs alone: the laws of the moments of such a file.
use Rattle.std.specs.Prelude.{ℕ, List, [], ◌∷◌, length}
use mathlib.Core.Logic.{inl, inr}
use Rattle.std.proofs.Common.{arith}
use Rattle.grove_disk.specs.Told.{Event, left_of, left_since_of}

pub counts_now : (events : List Event) (t : ℕ) (c : List ℕ) → left_of events c → left_since_of events t c
counts_now [] t c now = now
counts_now (event ∷ past) t c now = inl now

pub only_now : (events : List Event) (c : List ℕ) → left_since_of events (length events) c → left_of events c
only_now [] c left = left
only_now (event ∷ past) c (inl now) = now
only_now (event ∷ past) c (inr was) = absurd (let le = was.0 in omega arith)

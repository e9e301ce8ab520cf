-- Numbers as bytes, and effects: what changed from some numbers to others, as bytes.
use Rattle.std.specs.Prelude.{◌≡◌, ℕ, suc, ◌<◌, ◌^◌, List, [], ◌∷◌, ◌++◌, length, All, ◌==◌, if◌then◌else◌}
use Rattle.std.specs.List.{flat_map}
use Rattle.std.specs.Int.{w32, w64, to_le_bytes}

-- 8 bytes of a number, lowest first
abbrev pub word : ℕ → List ℕ
word n = to_le_bytes w64 n

-- 4 bytes of a number, lowest first
abbrev pub half : ℕ → List ℕ
half n = to_le_bytes w32 n

-- numbers that 8 bytes hold
abbrev pub AreWords : List ℕ → Type 0
AreWords numbers = All (λ n. n < 2 ^ 64) numbers

-- a place with the number that stands there now, if that is another one than before
abbrev pub change_at : ℕ → ℕ → ℕ → List (ℕ × ℕ)
change_at place before now = if before == now then [] else (place, now) ∷ []

-- the same of all places from this one on
abbrev pub changes_from : ℕ → List ℕ → List ℕ → List (ℕ × ℕ)
changes_from place [] new = []
changes_from place (before ∷ old) [] = []
changes_from place (before ∷ old) (now ∷ new) = change_at place before now ++ changes_from (suc place) old new

-- the places where the second of two lists differs from the first, each with what stands there
abbrev pub changes : List ℕ → List ℕ → List (ℕ × ℕ)
changes old new = changes_from 0 old new

abbrev pub change_bytes : ℕ × ℕ → List ℕ
change_bytes change = half change.0 ++ word change.1

-- what leads from numbers to others
unfoldable pub effect : List ℕ → List ℕ → List ℕ
effect old new = flat_map change_bytes (changes old new)

-- numbers that were led on by effects, one after the other, to the last ones
abbrev pub LeadsTo : List ℕ → List (List ℕ) → List ℕ → Type 0
LeadsTo numbers [] last = numbers ≡ last
LeadsTo numbers (bytes ∷ effects) last =
    (next : List ℕ) × AreWords next × (length next ≡ length numbers) × (bytes ≡ effect numbers next)
    × LeadsTo next effects last

-- A payload as it stands in a log's file, and what passes for one there.
use Rattle.std.specs.Prelude.{ℕ, ◌-◌, List, ◌++◌, length, take, drop, Option, Some, None, Bool, is_some, ◌==◌}
use Rattle.std.specs.Prelude.{nat_eq, nat_lt, if◌then◌else◌}
use Rattle.std.specs.Int.{w32, to_le_bytes, from_le_bytes}
use Rattle.std.specs.List.{starts_with}
use Rattle.std.specs.Option.{option_map_or}
use Rattle.sha2.specs.Sha256.{sha256}

-- the digest that chains a payload to the digest before; what is proved holds of any function to 32 bytes
unfoldable pub digest : List ℕ → List ℕ → List ℕ
digest before payload = sha256 (before ++ payload)

-- a length, and the number that makes 2 ^ 32 - 1 with it
unfoldable pub size : ℕ → List ℕ
size n = to_le_bytes w32 n ++ to_le_bytes w32 (4294967295 - n)

-- a frame: its payload's length, the payload, and the digest that chains it
unfoldable pub frame : List ℕ → List ℕ → List ℕ
frame before payload = size (length payload) ++ payload ++ digest before payload

-- the length at the front of bytes, where it is one
unfoldable pub checked_size : ℕ → ℕ → Option ℕ
checked_size n check = if check == 4294967295 - n then Some n else None

unfoldable pub size_at : List ℕ → Option ℕ
size_at bytes =
    if nat_lt (length bytes) 8 then None else
    checked_size (from_le_bytes w32 (take 4 bytes)) (from_le_bytes w32 (take 4 (drop 4 bytes)))

-- the payload of the frame at the front of bytes, and what stands behind it, where a frame chained to `before` is there
unfoldable pub sealed_at : List ℕ → List ℕ → List ℕ → Option (List ℕ × List ℕ)
sealed_at seal payload tail = if starts_with nat_eq tail seal then Some (payload, drop (length seal) tail) else None

unfoldable pub body_at : List ℕ → List ℕ → ℕ → Option (List ℕ × List ℕ)
body_at before body n =
    if nat_lt (length body) n then None else sealed_at (digest before (take n body)) (take n body) (drop n body)

unfoldable pub frame_at : List ℕ → List ℕ → Option (List ℕ × List ℕ)
frame_at before bytes = option_map_or (body_at before (drop 8 bytes)) (size_at bytes) None

abbrev pub has_frame : List ℕ → List ℕ → Bool
has_frame before bytes = is_some (frame_at before bytes)

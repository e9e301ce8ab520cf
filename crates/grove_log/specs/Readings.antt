-- Reading frames from left to right, and what stands where that ends.
use Rattle.std.specs.Prelude.{ℕ, zero, suc, List, [], ◌∷◌, length, take, drop, Bool, false, ◌||◌}
use Rattle.std.specs.Option.{option_map_or}
use Rattle.grove_log.specs.Frames.{digest, size_at, frame_at, has_frame}

-- the payloads that were read, the digest that the next frame has to be chained to, and the bytes that are left
pub record Reading : Type 0 where
  pub payloads : List (List ℕ)
  pub seal : List ℕ
  pub rest : List ℕ

abbrev pub with_payload : List ℕ → Reading → Reading
with_payload payload r = record { payloads = payload ∷ r.payloads; seal = r.seal; rest = r.rest }

-- as many frames as pass, and at most so many
unfoldable pub read_at : ℕ → List ℕ → List ℕ → Reading
read_at zero before bytes = record { payloads = []; seal = before; rest = bytes }
read_at (suc most) before bytes =
    option_map_or (λ x. with_payload x.0 (read_at most (digest before x.0) x.1)) (frame_at before bytes)
    (record { payloads = []; seal = before; rest = bytes })

-- all the frames that pass
abbrev pub reading : List ℕ → List ℕ → Reading
reading before bytes = read_at (length bytes) before bytes

-- a frame stands somewhere in the bytes, chained to the 32 bytes in front of it
unfoldable pub holds_frame : List ℕ → Bool
holds_frame [] = false
holds_frame (byte ∷ bytes) = has_frame (take 32 (byte ∷ bytes)) (drop 32 (byte ∷ bytes)) || holds_frame bytes

-- The same of bytes that begin with a length: behind so many bytes, or chained to the digest that ought to be there.
unfoldable pub holds_behind : List ℕ → List ℕ → ℕ → Bool
holds_behind before body n =
    holds_frame (drop n body) || has_frame (digest before (take n body)) (drop 32 (drop n body))

-- What stands where reading ended is a damaged frame, and not a torn one: a whole frame stands behind it.
unfoldable pub is_damaged : List ℕ → List ℕ → Bool
is_damaged before bytes = option_map_or (holds_behind before (drop 8 bytes)) (size_at bytes) (holds_frame bytes)

-- Where a whole frame stands behind what doesn't pass.
use Rattle.std.proofs.Common.{◌≡◌, ℕ, ◌+◌, ◌-◌, ◌<◌, ◌≤◌, Bool, true, false, ◌||◌, List, [], ◌∷◌, length, take, drop}
use Rattle.std.proofs.Common.{None, refl, ap, ◌∙◌, arith}
use Rattle.std.proofs.lemmas.Bool.{lt-ltb}
use Rattle.std.proofs.lemmas.List.{drop_all, take_all, length-drop}
use Rattle.grove_log.specs.Frames.{size_at, frame_at, has_frame}
use Rattle.grove_log.specs.Readings.{holds_frame, holds_behind}

-- no frame is in so few bytes
pub none_in : (before bytes : List ℕ) → length bytes < 8 → frame_at before bytes ≡ None
unfolding frame_at size_at
none_in before bytes less = grind (arith, lt-ltb)

-- nor behind 32 that aren't there
pub short_of_frame : (before bytes : List ℕ) → length bytes ≤ 32 → has_frame before (drop 32 bytes) ≡ false
short_of_frame before bytes le = rw (drop_all 32 bytes le, none_in before [] (omega arith)) refl

pub holds_nothing : (bytes : List ℕ) → length bytes < 1 → holds_frame bytes ≡ false
unfolding holds_frame
holds_nothing [] less = refl
holds_nothing (byte ∷ bytes) less = absurd (omega arith)

pub holds_here : (bytes : List ℕ) → 1 ≤ length bytes → has_frame (take 32 bytes) (drop 32 bytes) ≡ true
    → holds_frame bytes ≡ true
unfolding holds_frame
holds_here [] le here = absurd (omega arith)
holds_here (byte ∷ bytes) le here = ap (λ (t : Bool). t || holds_frame bytes) here

pub holds_next : (bytes : List ℕ) → 1 ≤ length bytes → has_frame (take 32 bytes) (drop 32 bytes) ≡ false
    → holds_frame (take (length bytes - 1) (drop 1 bytes)) ≡ holds_frame bytes
unfolding holds_frame
holds_next [] le none = absurd (omega arith)
holds_next (byte ∷ bytes) le none = grind (arith, take_all)

pub holds_short : (bytes : List ℕ) → length bytes ≤ 32 → holds_frame bytes ≡ false
unfolding holds_frame
holds_short [] le = refl
holds_short (b ∷ bytes) le =
    ap (λ (t : Bool). t || holds_frame bytes) (short_of_frame (take 32 (b ∷ bytes)) (b ∷ bytes) le)
    ∙ holds_short bytes (omega arith)

-- too few bytes for a frame of this length have none behind it
pub nothing_behind : (before body : List ℕ) (n : ℕ) → length body < n + 32 → holds_behind before body n ≡ false
unfolding holds_behind
nothing_behind before body n less = grind (arith, holds_short, length-drop, short_of_frame)

-- Reading goes on behind a frame that passes, and ends where none does: there all bytes are left.
use Rattle.std.proofs.Common.{◌≡◌, ℕ, zero, suc, ◌≤◌, List, [], length, Option, Some, None, refl, sym, ap, ◌∙◌, arith}
use Rattle.std.proofs.Common.{inl, inr}
use Rattle.std.specs.Option.{option_map_or}
use Rattle.grove_log.specs.Frames.{digest, frame_at}
use Rattle.grove_log.specs.Readings.{Reading, with_payload, read_at, reading}
use Rattle.grove_log.proofs.Passing.{frame_less}
use Rattle.grove_base.proofs.Lists.{there_or_none}

abbrev pub ended : List ℕ → List ℕ → Reading
ended before bytes = record { payloads = []; seal = before; rest = bytes }

abbrev going_on : ℕ → List ℕ → List ℕ → Option (List ℕ × List ℕ) → Reading
going_on most before bytes o = option_map_or (λ x. with_payload x.0 (read_at most (digest before x.0) x.1)) o
    (ended before bytes)

none_read : (most : ℕ) (before bytes : List ℕ) → frame_at before bytes ≡ None
    → read_at most before bytes ≡ ended before bytes
unfolding read_at
none_read zero before bytes none = refl
none_read (suc most) before bytes none = ap (going_on most before bytes) none

-- no frame is in no bytes
pub empty_none : (before bytes : List ℕ) → length bytes ≤ 0 → frame_at before bytes ≡ None
empty_none before bytes le = grind (arith, frame_less, there_or_none)

-- so many frames are enough
enough : (most more : ℕ) (before bytes : List ℕ) → length bytes ≤ most → length bytes ≤ more
    → read_at most before bytes ≡ read_at more before bytes
unfolding read_at
enough zero more before bytes le le' =
    let none = empty_none before bytes le in none_read zero before bytes none ∙ sym (none_read more before bytes none)
enough (suc most) zero before bytes le le' = grind (arith, empty_none, none_read)
enough (suc most) (suc more) before bytes le le' =
    elim (there_or_none (frame_at before bytes)) [
      | inl none ↦ none_read (suc most) before bytes none ∙ sym (none_read (suc more) before bytes none)
      | inr found ↦
          let less = frame_less before bytes found.0.0 found.0.1 found.1 in
          ap (going_on most before bytes) found.1 ∙ ap (with_payload found.0.0)
          (enough most more (digest before found.0.0) found.0.1 (omega (arith, less)) (omega (arith, less)))
          ∙ sym (ap (going_on more before bytes) found.1)
    ]

pub reading_none : (before bytes : List ℕ) → frame_at before bytes ≡ None → reading before bytes ≡ ended before bytes
reading_none before bytes none = none_read (length bytes) before bytes none

pub reading_more : (before bytes payload after : List ℕ) → frame_at before bytes ≡ Some (payload, after)
    → reading before bytes ≡ with_payload payload (reading (digest before payload) after)
unfolding read_at
reading_more before bytes payload after found = at (length bytes) refl
  where
    at : (n : ℕ) → length bytes ≡ n → read_at n before bytes ≡ with_payload payload (reading
        (digest before payload) after)
    at zero e = absurd (omega (arith, frame_less before bytes payload after found))
    at (suc n) e =
        ap (going_on n before bytes) found
        ∙ ap (with_payload payload) (enough n (length after) (digest before payload) after
        (omega (arith, frame_less before bytes payload after found)) (omega arith))

-- ---- what is left

no_more : (most : ℕ) (before bytes : List ℕ) → length (read_at most before bytes).rest ≤ length bytes
unfolding read_at
no_more zero before bytes = omega arith
no_more (suc most) before bytes =
    elim (there_or_none (frame_at before bytes)) [
      | inl none ↦ omega (arith, ap (λ (r : Reading). length r.rest) (none_read (suc most) before bytes none))
      | inr found ↦ omega (
        arith,
        ap (λ (r : Reading). length r.rest) (ap (going_on most before bytes) found.1),
        no_more most (digest before found.0.0) found.0.1,
        frame_less before bytes found.0.0 found.0.1 found.1,
      )
    ]

-- where all bytes are left there was no frame
pub all_left : (before bytes : List ℕ) → length (reading before bytes).rest ≡ length bytes
    → (reading before bytes).payloads ≡ []
all_left before bytes all =
    elim (there_or_none (frame_at before bytes)) [
      | inl none ↦ ap (λ (r : Reading). r.payloads) (reading_none before bytes none)
      | inr found ↦
          let here = reading_more before bytes found.0.0 found.0.1 found.1 in
          absurd (omega (
            arith,
            all,
            ap (λ (r : Reading). length r.rest) here,
            no_more (length found.0.1) (digest before found.0.0) found.0.1,
            frame_less before bytes found.0.0 found.0.1 found.1,
          ))
    ]

-- and where others are, one passes
pub less_left : (before bytes : List ℕ) → (length (reading before bytes).rest ≡ length bytes → ⊥)
    → (payload after : List ℕ) × (frame_at before bytes ≡ Some (payload, after))
less_left before bytes less =
    elim (there_or_none (frame_at before bytes)) [
      | inl none ↦ absurd (less (ap (λ (r : Reading). length r.rest) (reading_none before bytes none)))
      | inr found ↦ (found.0.0, found.0.1, found.1)
    ]

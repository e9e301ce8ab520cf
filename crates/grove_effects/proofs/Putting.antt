-- Keeping numbers in place, one by one, and putting what changed.
use Rattle.std.proofs.Common.{◌≡◌, ℕ, ◌+◌, ◌<◌, List, [], ◌∷◌, ◌++◌, length, take, drop, set, get_or}
use Rattle.std.proofs.Common.{sym, ap, ◌∙◌, append_assoc, append-nil, arith}
use Rattle.std.specs.List.{flat_map}
use Rattle.std.proofs.lemmas.List.{take_more, take_more_set, length-take-le, drop-set-lt, drop_more}
use Rattle.std.proofs.lemmas.List.Concat.{flat_map-append}
use Rattle.grove_effects.specs.Effects.{change_at, changes_from, change_bytes}
use Rattle.grove_effects.proofs.Fronts.{same_cons}
use Rattle.grove_effects.proofs.Changes.{changes-append}

-- what changed in the first numbers was put, which are kept by now, and the others are as they were
pub record AreKept (base : List ℕ) (first : ℕ) (old : List ℕ) (i : ℕ) (out kept : List ℕ) : Type 0 where
  pub bytes : out ≡ base ++ flat_map change_bytes (changes_from first (take i old) (take i kept))
  pub rest : drop i kept ≡ drop i old

-- what changed in numbers behind others
pub kept_behind : (base out more : List ℕ) (first place : ℕ) (old new os ns : List ℕ) → length old ≡ length new
    → place ≡ first + length old → out ≡ base ++ flat_map change_bytes (changes_from first old new)
    → more ≡ out ++ flat_map change_bytes (changes_from place os ns)
    → more ≡ base ++ flat_map change_bytes (changes_from first (old ++ os) (new ++ ns))
kept_behind base out more first place old new os ns long is are put =
    let front = changes_from first old new in
    let back = changes_from place os ns in
    put ∙ ap (λ (l : List ℕ). l ++ flat_map change_bytes back) are
    ∙ append_assoc base (flat_map change_bytes front) (flat_map change_bytes back)
    ∙ ap (λ (l : List ℕ). base ++ l) (sym (flat_map-append change_bytes front back))
    ∙ ap (λ (l : List (ℕ × ℕ)). base ++ flat_map change_bytes l)
    (ap (λ (q : ℕ). front ++ changes_from q os ns) is ∙ sym (changes-append first old new os ns long))

-- one number more
pub kept_more : (base : List ℕ) (first : ℕ) (old : List ℕ) (i : ℕ) (out kept more : List ℕ) (now : ℕ)
    → length kept ≡ length old → i < length old → AreKept base first old i out kept
    → more ≡ out ++ flat_map change_bytes (change_at (first + i) (get_or kept i 0) now)
    → AreKept base first old (i + 1) more (set kept i now)
kept_more base first old i out kept more now long lt are put =
    let within : i < length kept = omega arith in
    let next = same_cons (get_or kept i 0) (get_or old i 0) (drop (i + 1) kept) (drop (i + 1) old)
    (sym (drop_more kept i 0 within) ∙ are.rest ∙ drop_more old i 0 lt) in
    let olds : take (i + 1) old ≡ take i old ++ get_or kept i 0 ∷ [] =
    take_more old i 0 lt ∙ ap (λ (o : ℕ). take i old ++ o ∷ []) (sym next.0) in
    let front = length-take-le i old (omega arith) in
    let front' = length-take-le i kept (omega arith) in
    record {
      bytes = rw (olds, take_more_set kept i now within)
          (kept_behind base out more first (first + i) (take i old) (take i kept) (get_or kept i 0 ∷ []) (now ∷ [])
          (front ∙ sym front') (ap (λ (n : ℕ). first + n) (sym front)) are.bytes
          (put ∙ ap (λ (l : List (ℕ × ℕ)). out ++ flat_map change_bytes l)
          (sym (append-nil (change_at (first + i) (get_or kept i 0) now)))));
      rest = drop-set-lt (i + 1) kept i now (omega arith) ∙ next.1;
    }

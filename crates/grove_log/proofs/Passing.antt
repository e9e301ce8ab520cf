-- What passes for a frame still does with more behind it, and a frame passes.
use Rattle.std.proofs.Common.{◌≡◌, ℕ, ◌-◌, ◌^◌, ◌<◌, ◌≤◌, Bool, true, false, cond, ltb, eqb, List, ◌++◌, length}
use Rattle.std.proofs.Common.{take, drop, Option, Some, None, refl, sym, ap, ◌∙◌, append_assoc, arith, inl, inr}
use Rattle.std.specs.Int.{w32, from_le_bytes}
use Rattle.std.specs.List.{starts_with}
use Rattle.std.specs.Option.{option_map_or}
use Rattle.std.proofs.lemmas.Bool.{ltb-false, le-ltb, eq-eqb}
use Rattle.std.proofs.lemmas.Bool.Decides.{Decides-eqb}
use Rattle.std.proofs.lemmas.List.{take_at, drop_at, take-append-drop, length-append, length-take, length-drop}
use Rattle.std.proofs.lemmas.Nat.{from_le_bytes-to_le_bytes_4}
use Rattle.std.proofs.lemmas.Option.{cond_some}
use Rattle.std.proofs.lemmas.Slice.Eq.{starts_is}
use Rattle.grove_log.specs.Frames.{digest, size, frame, checked_size, size_at, sealed_at, body_at, frame_at}
use Rattle.grove_base.proofs.Lists.{there_or_none}

-- a test that did not fail
guard_some : {A : Type 0} (b : Bool) (o : Option A) (x : A) → cond b None o ≡ Some x → (b ≡ false) × (o ≡ Some x)
guard_some true o x e = absurd cc
guard_some false o x e = (refl, e)

-- ---- with more behind

pub front_more : (n : ℕ) (bytes more : List ℕ) → n ≤ length bytes → take n (bytes ++ more) ≡ take n bytes
front_more n bytes more le =
    ap (λ (l : List ℕ). take n l) (ap (λ (l : List ℕ). l ++ more) (sym (take-append-drop n bytes))
    ∙ append_assoc (take n bytes) (drop n bytes) more)
    ∙ take_at (take n bytes) (drop n bytes ++ more) n (omega (arith, length-take n bytes))

pub back_more : (n : ℕ) (bytes more : List ℕ) → n ≤ length bytes → drop n (bytes ++ more) ≡ drop n bytes ++ more
back_more n bytes more le =
    ap (λ (l : List ℕ). drop n l) (ap (λ (l : List ℕ). l ++ more) (sym (take-append-drop n bytes))
    ∙ append_assoc (take n bytes) (drop n bytes) more)
    ∙ drop_at (take n bytes) (drop n bytes ++ more) n (omega (arith, length-take n bytes))

pub size_long : (bytes : List ℕ) (n : ℕ) → size_at bytes ≡ Some n → 8 ≤ length bytes
unfolding size_at
size_long bytes n e = ltb-false _ _ (guard_some (ltb (length bytes) 8) _ n e).0

pub size_more : (bytes more : List ℕ) → 8 ≤ length bytes → size_at (bytes ++ more) ≡ size_at bytes
unfolding size_at
size_more bytes more le = grind (arith, back_more, front_more, le-ltb, length-append, length-drop)

body_more : (before body more : List ℕ) (n : ℕ) (x : List ℕ × List ℕ) → body_at before body n ≡ Some x
    → body_at before (body ++ more) n ≡ Some (x.0, x.1 ++ more)
unfolding body_at sealed_at
body_more before body more n x e =
    let g = guard_some (ltb (length body) n) _ x e in
    let le : n ≤ length body = ltb-false _ _ g.0 in
    let long : ltb (length (body ++ more)) n ≡ false = le-ltb _ _ (omega (arith, length-append body more)) in
    let seal = digest before (take n body) in
    let tail = drop n body in
    let s = cond_some (starts_with eqb tail seal) (take n body, drop (length seal) tail) x g.1 in
    let sealed : tail ≡ seal ++ drop (length seal) tail = (starts_is Decides-eqb tail seal _ refl).0 s.0 in
    let whole : tail ++ more ≡ seal ++ (drop (length seal) tail ++ more) =
    ap (λ (l : List ℕ). l ++ more) sealed ∙ append_assoc seal (drop (length seal) tail) more in
    let starts : starts_with eqb (tail ++ more) seal ≡ true =
    (starts_is Decides-eqb (tail ++ more) seal _ refl).1 (drop (length seal) tail ++ more) whole in
    let rest : drop (length seal) (tail ++ more) ≡ drop (length seal) tail ++ more =
    ap (λ (l : List ℕ). drop (length seal) l) whole ∙ drop_at seal (drop (length seal) tail ++ more)
    (length seal) refl in
    rw (long, front_more n body more le, back_more n body more le, starts, rest)
    (ap (λ (y : List ℕ × List ℕ). Some (y.0, y.1 ++ more)) s.1)

-- what passes still does with more behind it
pub frame_more : (before bytes more : List ℕ) (x : List ℕ × List ℕ) → frame_at before bytes ≡ Some x
    → frame_at before (bytes ++ more) ≡ Some (x.0, x.1 ++ more)
unfolding frame_at
frame_more before bytes more x e =
    elim (there_or_none (size_at bytes)) [
      | inl none ↦ absurd (none_some x (sym (ap (λ (o : Option ℕ). option_map_or (body_at before
          (drop 8 bytes)) o None) none) ∙ e))
      | inr some ↦
          let n = some.0 in
          let long = size_long bytes n some.1 in
          let here : body_at before (drop 8 bytes) n ≡ Some x =
          sym (ap (λ (o : Option ℕ). option_map_or (body_at before (drop 8 bytes)) o None) some.1) ∙ e in
          ap (λ (o : Option ℕ). option_map_or (body_at before (drop 8 (bytes ++ more))) o None)
          (size_more bytes more long ∙ some.1) ∙ ap (λ (l : List ℕ). body_at before l n) (back_more 8 bytes more long)
          ∙ body_more before (drop 8 bytes) more n x here
    ]
  where
    none_some : (x : List ℕ × List ℕ) → ◌≡◌ {A = Option (List ℕ × List ℕ)} None (Some x) → ⊥
    none_some x e = cc

-- what is behind a frame is shorter
pub frame_less : (before bytes payload after : List ℕ) → frame_at before bytes ≡ Some (payload, after)
    → length after < length bytes
unfolding frame_at body_at sealed_at
frame_less before bytes payload after e =
    elim (there_or_none (size_at bytes)) [
      | inl none ↦ absurd (none_some (payload, after) (sym (ap (λ (o : Option ℕ). option_map_or (body_at before
          (drop 8 bytes)) o None) none) ∙ e))
      | inr some ↦
          let n = some.0 in
          let long = size_long bytes n some.1 in
          let body = drop 8 bytes in
          let here : body_at before body n ≡ Some (payload, after) =
          sym (ap (λ (o : Option ℕ). option_map_or (body_at before body) o None) some.1) ∙ e in
          let g = guard_some (ltb (length body) n) _ (payload, after) here in
          let seal = digest before (take n body) in
          let s = cond_some (starts_with eqb (drop n body) seal) (take n body, drop (length seal) (drop n body))
          (payload, after) g.1 in
          let is : drop (length seal) (drop n body) ≡ after = ap (λ (y : List ℕ × List ℕ). y.1) s.1 in
          omega (arith, ap length is, length-drop (length seal) (drop n body), length-drop n body, length-drop 8 bytes)
    ]
  where
    none_some : (x : List ℕ × List ℕ) → ◌≡◌ {A = Option (List ℕ × List ℕ)} None (Some x) → ⊥
    none_some x e = cc

-- where a digest stands as it ought to, with what is behind it
pub sealed_is : (before payload tail found behind : List ℕ)
    → sealed_at (digest before payload) payload tail ≡ Some (found, behind)
    → (payload ≡ found) × (tail ≡ digest before payload ++ behind)
unfolding sealed_at
sealed_is before payload tail found behind e = grind (arith, Decides-eqb, cond_some, starts_is)

-- ---- a frame passes

sealed_again : (seal payload rest : List ℕ) → sealed_at seal payload (seal ++ rest) ≡ Some (payload, rest)
unfolding sealed_at
sealed_again seal payload rest = grind (arith, Decides-eqb, drop_at, starts_is)

body_again : (before payload tail : List ℕ)
    → body_at before (payload ++ tail) (length payload) ≡ sealed_at (digest before payload) payload tail
unfolding body_at
body_again before payload tail = grind (arith, drop_at, le-ltb, length-append, take_at)

size_is : (bytes : List ℕ) (n : ℕ) → 8 ≤ length bytes → from_le_bytes w32 (take 4 bytes) ≡ n
    → from_le_bytes w32 (take 4 (drop 4 bytes)) ≡ 4294967295 - n → size_at bytes ≡ Some n
unfolding size_at checked_size
size_is bytes n le low high = grind (arith, eq-eqb, le-ltb)

pub size_again : (n : ℕ) (rest : List ℕ) → n < 2 ^ 32 → size_at (size n ++ rest) ≡ Some n
unfolding size
size_again n rest short = grind (arith, drop_at, from_le_bytes-to_le_bytes_4, length-append, size_is, take_at)

pub length_size : (n : ℕ) → length (size n) ≡ 8
unfolding size
length_size n = refl

pub frame_again : (before payload rest : List ℕ) → length payload < 2 ^ 32
    → frame_at before (frame before payload ++ rest) ≡ Some (payload, rest)
unfolding frame_at frame
frame_again before payload rest short =
    let head = size (length payload) in
    let seal = digest before payload in
    let grouped : (head ++ payload ++ seal) ++ rest ≡ head ++ (payload ++ (seal ++ rest)) = simp append_assoc in
    let long : length head ≡ 8 = length_size (length payload) in
    ap (λ (l : List ℕ). option_map_or (body_at before (drop 8 l)) (size_at l) None) grouped
    ∙ ap (λ (o : Option ℕ). option_map_or (body_at before (drop 8 (head ++ (payload ++ (seal ++ rest))))) o None)
    (size_again (length payload) (payload ++ (seal ++ rest)) short)
    ∙ ap (λ (l : List ℕ). body_at before l (length payload)) (drop_at head (payload ++ (seal ++ rest)) 8 long)
    ∙ body_again before payload (seal ++ rest) ∙ sealed_again seal payload rest

-- A front of a frame is torn, and a frame with a damaged part and a whole frame behind it is damaged.
use Rattle.std.proofs.Common.{◌≡◌, ℕ, ◌+◌, ◌^◌, ◌<◌, ◌≤◌, Bool, true, false, ◌||◌, List, [], ◌∷◌, ◌++◌, length, take}
use Rattle.std.proofs.Common.{drop, Option, Some, None, refl, sym, ap, ◌∙◌, append_assoc, append-nil, arith, inl, inr}
use Rattle.std.specs.Prelude.{is_some}
use Rattle.std.specs.Option.{option_map_or}
use Rattle.std.proofs.lemmas.Bool.{cases_lt, lt-ltb}
use Rattle.std.proofs.lemmas.Option.{some_pair_parts}
use Rattle.std.proofs.lemmas.List.{length-append, length-take, length-drop, take-append-drop, take_at, drop_at}
use Rattle.std.proofs.lemmas.List.{take_all}
use Rattle.sha2.proofs.Facts256.{length-sha256}
use Rattle.grove_log.specs.Frames.{digest, size, frame, size_at, frame_at, has_frame}
use Rattle.grove_log.specs.Readings.{holds_frame, holds_behind, is_damaged}
use Rattle.grove_log.specs.Devices.{holds_any, Torn}
use Rattle.grove_log.specs.Files.{reading_of}
use Rattle.grove_log.proofs.Passing.{size_more, size_again, length_size, frame_more, frame_again}
use Rattle.grove_log.proofs.Behind.{holds_short, nothing_behind}
use Rattle.grove_base.proofs.Lists.{there_or_none}
use Rattle.std.proofs.Math.Bool.{or-true}

pub length_digest : (before payload : List ℕ) → length (digest before payload) ≡ 32
unfolding digest
length_digest before payload = length-sha256 (before ++ payload)

pub length_frame : (before payload : List ℕ) → length (frame before payload) ≡ 8 + length payload + 32
unfolding frame
length_frame before payload = grind (arith, length-append, length_digest, length_size)

size_of_frame : (before payload : List ℕ) → length payload < 2 ^ 32
    → size_at (frame before payload) ≡ Some (length payload)
unfolding frame
size_of_frame before payload short =
    let n = length payload in
    ap size_at (append_assoc (size n) payload (digest before payload))
    ∙ size_again n (payload ++ digest before payload) short

-- ---- a front

front_none : (before payload : List ℕ) (n : ℕ) → length payload < 2 ^ 32 → n < length (frame before payload)
    → frame_at before (take n (frame before payload)) ≡ None
front_none before payload n short less =
    let bytes = frame before payload in
    elim (there_or_none (frame_at before (take n bytes))) [
      | inl is ↦ is
      | inr found ↦
          let more : frame_at before bytes ≡ Some (found.0.0, found.0.1 ++ drop n bytes) =
          ap (λ (l : List ℕ). frame_at before l) (sym (take-append-drop n bytes))
          ∙ frame_more before (take n bytes) (drop n bytes) found.0 found.1 in
          let all : frame_at before bytes ≡ Some (payload, []) =
          ap (λ (l : List ℕ). frame_at before l) (sym (append-nil bytes)) ∙ frame_again before payload [] short in
          let nothing : found.0.1 ++ drop n bytes ≡ [] =
          same_rest found.0.0 payload (found.0.1 ++ drop n bytes) [] (sym more ∙ all) in
          absurd (omega (arith, ap length nothing, length-append found.0.1 (drop n bytes), length-drop n bytes))
    ]
  where
    same_rest : (a b x y : List ℕ) → ◌≡◌ {A = Option (List ℕ × List ℕ)} (Some (a, x)) (Some (b, y)) → x ≡ y
    same_rest a b x y e = (some_pair_parts a b x y e).1

no_size : (bytes : List ℕ) → length bytes < 8 → size_at bytes ≡ None
unfolding size_at
no_size bytes less = rw (lt-ltb (length bytes) 8 less) refl

front_undamaged : (before payload : List ℕ) (n : ℕ) → length payload < 2 ^ 32 → n < length (frame before payload)
    → is_damaged before (take n (frame before payload)) ≡ false
unfolding is_damaged
front_undamaged before payload n short less =
    let bytes = frame before payload in
    let front = take n bytes in
    let long = length-take n bytes in
    let behind : Option ℕ → Bool = λ o. option_map_or (holds_behind before (drop 8 front)) o (holds_frame front) in
    elim (cases_lt n 8) [
      | inl few ↦ ap behind (no_size front (omega (arith, long, length_frame before payload)))
          ∙ holds_short front (omega (arith, long, length_frame before payload))
      | inr enough ↦
          let eight : 8 ≤ length front = omega (arith, long, length_frame before payload) in
          let sized : size_at front ≡ Some (length payload) =
          sym (size_more front (drop n bytes) eight) ∙ ap size_at (take-append-drop n bytes)
          ∙ size_of_frame before payload short in
          ap behind sized ∙ nothing_behind before (drop 8 front) (length payload)
          (omega (arith, length-drop 8 front, long, length_frame before payload))
    ]

pub torn_front : (file payload : List ℕ) (n : ℕ) → length payload < 2 ^ 32
    → Torn (frame (reading_of file).seal payload) file (file ++ take n (frame (reading_of file).seal payload))
torn_front file payload n short =
    let seal = (reading_of file).seal in
    let bytes = frame seal payload in
    let front : drop (length file) (file ++ take n bytes) ≡ take n bytes = drop_at file (take n bytes)
    (length file) refl in
    record {
      before = take_at file (take n bytes) (length file) refl;
      unforged = λ holds. front ∙ elim (cases_lt n (length bytes)) [
        | inl less ↦ absurd (clash (sym (ap (holds_any seal) front ∙ neither (frame_at seal (take n bytes)) _
            (front_none seal payload n short less) (front_undamaged seal payload n short less)) ∙ holds))
        | inr all ↦ take_all n bytes all
      ];
    }
  where
    clash : false ≡ true → ⊥
    clash e = cc

    neither : (o : Option (List ℕ × List ℕ)) (b : Bool) → o ≡ None → b ≡ false → (is_some o || b) ≡ false
    neither o b e e' = rw (e, e') refl

-- ---- a damaged part

holds_after : (front bytes : List ℕ) → holds_frame bytes ≡ true → holds_frame (front ++ bytes) ≡ true
unfolding holds_frame
holds_after [] bytes holds = holds
holds_after (byte ∷ front) bytes holds = grind (arith, or-true, holds_after front bytes holds)

first : (byte : ℕ) (bytes : List ℕ) → has_frame (take 32 (byte ∷ bytes)) (drop 32 (byte ∷ bytes)) ≡ true
    → holds_frame (byte ∷ bytes) ≡ true
unfolding holds_frame
first byte bytes has = ap (λ (t : Bool). t || holds_frame bytes) has

-- 32 bytes, and a frame chained to them
chained_holds : (seal payload rest : List ℕ) → length seal ≡ 32 → length payload < 2 ^ 32
    → holds_frame (seal ++ (frame seal payload ++ rest)) ≡ true
chained_holds seal payload rest long short = at seal (frame seal payload ++ rest) long
    (ap is_some (frame_again seal payload rest short))
  where
    at : (seal behind : List ℕ) → length seal ≡ 32 → has_frame seal behind ≡ true → holds_frame (seal ++ behind) ≡ true
    at [] behind long has = absurd (omega arith)
    at (byte ∷ seal) behind long has = first byte (seal ++ behind)
        (ap (λ (l : List ℕ). has_frame l (drop 32 ((byte ∷ seal) ++ behind))) (take_at (byte ∷ seal) behind 32
        long) ∙ ap (λ (l : List ℕ). has_frame (byte ∷ seal) l) (drop_at (byte ∷ seal) behind 32 long) ∙ has)

pub damaged_payload : (before payload other next rest : List ℕ) → length other ≡ length payload
    → length payload < 2 ^ 32 → length next < 2 ^ 32 → is_damaged before
    (size (length payload) ++ (other ++ (digest before payload ++ (frame (digest before payload) next ++ rest)))) ≡ true
unfolding is_damaged holds_behind
damaged_payload before payload other next rest same short short' =
    let seal = digest before payload in
    let tail = seal ++ (frame seal next ++ rest) in
    let n = length payload in
    let bytes = size n ++ (other ++ tail) in
    let behind : Option ℕ → Bool = λ o. option_map_or (holds_behind before (drop 8 bytes)) o (holds_frame bytes) in
    ap behind (size_again n (other ++ tail) short)
    ∙ ap (λ (l : List ℕ). holds_behind before l n) (drop_at (size n) (other ++ tail) 8 (length_size n))
    ∙ ap (λ (l : List ℕ). holds_frame l || has_frame (digest before (take n (other ++ tail))) (drop 32 l))
    (drop_at other tail n same)
    ∙ ap (λ (t : Bool). t || has_frame (digest before (take n (other ++ tail))) (drop 32 tail))
    (chained_holds seal next rest (length_digest before payload) short')

pub damaged_digest : (before payload other next rest : List ℕ) → length other ≡ 32 → length payload < 2 ^ 32
    → length next < 2 ^ 32 → is_damaged before
    (size (length payload) ++ (payload ++ (other ++ (frame (digest before payload) next ++ rest)))) ≡ true
unfolding is_damaged holds_behind
damaged_digest before payload other next rest long short short' =
    let seal = digest before payload in
    let behind = frame seal next ++ rest in
    let tail = other ++ behind in
    let n = length payload in
    let bytes = size n ++ (payload ++ tail) in
    let told : Option ℕ → Bool = λ o. option_map_or (holds_behind before (drop 8 bytes)) o (holds_frame bytes) in
    ap told (size_again n (payload ++ tail) short)
    ∙ ap (λ (l : List ℕ). holds_behind before l n) (drop_at (size n) (payload ++ tail) 8 (length_size n))
    ∙ ap (λ (l : List ℕ). holds_frame (drop n (payload ++ tail)) || has_frame (digest before l) (drop 32 (drop n
    (payload ++ tail)))) (take_at payload tail n refl)
    ∙ ap (λ (l : List ℕ). holds_frame (drop n (payload ++ tail)) || has_frame seal (drop 32 l))
    (drop_at payload tail n refl)
    ∙ ap (λ (l : List ℕ). holds_frame (drop n (payload ++ tail)) || has_frame seal l) (drop_at other behind 32
    long) ∙ ap (λ (o : Option (List ℕ × List ℕ)). holds_frame (drop n (payload ++ tail)) || is_some o)
    (frame_again seal next rest short') ∙ or-true (holds_frame (drop n (payload ++ tail)))

pub damaged_size : (before payload other next rest : List ℕ) → length next < 2 ^ 32
    → size_at (other ++ (payload ++ (digest before payload ++ (frame (digest before payload) next ++ rest)))) ≡ None
    → is_damaged before (other ++ (payload ++ (digest before payload ++ (frame
    (digest before payload) next ++ rest)))) ≡ true
unfolding is_damaged
damaged_size before payload other next rest short none = grind (arith, chained_holds, holds_after, length_digest)

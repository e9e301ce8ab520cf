-- What a crash leaves while a frame is put behind a file, and what a file of one frame stands for.
use Rattle.std.proofs.Common.{◌≡◌, append-nil, ℕ, ◌^◌, ◌<◌, ◌≤◌, Bool, true, false, ◌||◌, List, [], ◌∷◌, ◌++◌, length}
use Rattle.std.proofs.Common.{drop, Option, None, Some, refl, sym, ap, subst, ◌∙◌, append_assoc, arith, inl, inr}
use Rattle.std.specs.Prelude.{codes, is_some}
use Rattle.std.specs.Int.{w32, to_le_bytes}
use Rattle.std.proofs.lemmas.Bool.{cases_Bool}
use Rattle.std.proofs.lemmas.List.{take-append-drop, take_all, drop_all}
use Rattle.grove_log.specs.Frames.{digest, size, frame, size_at, frame_at, has_frame}
use Rattle.grove_log.specs.Readings.{Reading, with_payload, reading, holds_frame, is_damaged}
use Rattle.grove_log.specs.Files.{head, number_of, reading_of, recovered, damage_of, fault_of, StandsFor, IsWhole}
use Rattle.grove_log.specs.Devices.{Torn, Follows, Only, IsCaused, holds_any}
use Rattle.grove_log.specs.declared.device.DeviceError.{DeviceError}
use Rattle.grove_log.specs.declared.device.DeviceError.TheVariants.{Memory, Failed}
use Rattle.grove_log.specs.Logs.{IsBeforeOrAfter}
use Rattle.grove_log.proofs.Passing.{frame_again}
use Rattle.grove_log.proofs.Steps.{ended, reading_none, reading_more}
use Rattle.grove_log.proofs.Extended.{onto, extended, IsHeaded, headed_fault, undamaged}

pub frame_is : (before payload bytes seal own : List ℕ) → bytes ≡ size (length payload) ++ payload ++ seal
    → seal ≡ digest own payload → own ≡ before → bytes ≡ frame before payload
unfolding frame
frame_is before payload bytes seal own is sealed chained = grind (arith)

pub file_is : (number payload bytes seal : List ℕ) → bytes ≡ head number ++ size (length payload) ++ payload ++ seal
    → seal ≡ digest number payload → bytes ≡ head number ++ frame number payload
unfolding frame
file_is number payload bytes seal is sealed =
    is ∙ ap (λ (d : List ℕ). head number ++ size (length payload) ++ payload ++ d) sealed
    ∙ regrouped (head number) (size (length payload)) payload (digest number payload)
  where
    regrouped : (a b c d : List ℕ) → a ++ b ++ c ++ d ≡ a ++ (b ++ c ++ d)
    regrouped a b c d = simp append_assoc

pub head_is : (out first second third word version number : List ℕ) → first ≡ out ++ word → second ≡ first ++ version
    → third ≡ second ++ number → word ≡ codes "grovelog" → version ≡ to_le_bytes w32 1 → third ≡ out ++ head number
unfolding head
head_is out first second third word version number e e' e'' is is' =
    e'' ∙ ap (λ (l : List ℕ). l ++ number) (e' ∙ ap (λ (l : List ℕ). l ++ version) e)
    ∙ ap (λ (l : List ℕ). out ++ l ++ version ++ number) is
    ∙ ap (λ (l : List ℕ). out ++ codes "grovelog" ++ l ++ number) is'
    ∙ regrouped out (codes "grovelog") (to_le_bytes w32 1) number
  where
    regrouped : (a b c d : List ℕ) → a ++ b ++ c ++ d ≡ a ++ (b ++ c ++ d)
    regrouped a b c d = simp append_assoc

-- nothing is no frame, torn or whole
pub nothing_at : (before : List ℕ) → frame_at before [] ≡ None
unfolding frame_at size_at
nothing_at before = refl

pub nothing_damaged : (before : List ℕ) → is_damaged before [] ≡ false
unfolding is_damaged size_at holds_frame
nothing_damaged before = refl

pub one_frame : (before payload : List ℕ) → length payload < 2 ^ 32
    → reading before (frame before payload) ≡ with_payload payload (ended (digest before payload) [])
one_frame before payload short =
    let bytes = frame before payload in
    let found : frame_at before bytes ≡ Some (payload, []) =
    ap (λ (l : List ℕ). frame_at before l) (sym (append-nil bytes)) ∙ frame_again before payload [] short in
    reading_more before bytes payload [] found
    ∙ ap (with_payload payload) (reading_none (digest before payload) [] (nothing_at (digest before payload)))

-- a file with its next frame behind it
pub record IsDone (old payload new : List ℕ) : Type 0 where
  pub stands : StandsFor (recovered old ++ payload ∷ []) new
  pub whole : IsWhole new
  pub seal : (reading_of new).seal ≡ digest (reading_of old).seal payload

pub done : (old payload new : List ℕ) → IsWhole old → length payload < 2 ^ 32
    → new ≡ old ++ frame (reading_of old).seal payload → IsDone old payload new
done old payload new whole short is =
    subst (λ (l : List ℕ). IsDone old payload l) (sym is) (record {
      stands = record { readable = readable; payloads = ap (λ (r : Reading). r.payloads) reads };
      whole = record { readable = readable; nothing_left = ap (λ (r : Reading). r.rest) reads };
      seal = ap (λ (r : Reading). r.seal) reads;
    })
  where
    last : List ℕ
    last = (reading_of old).seal

    after : List ℕ
    after = old ++ frame last payload

    ends : Reading
    ends = onto (recovered old) (with_payload payload (ended (digest last payload) []))

    reads : reading_of after ≡ ends
    reads = (extended old (frame last payload) whole).reads ∙ ap (onto (recovered old)) (one_frame last payload short)

    readable : fault_of after ≡ None
    readable = (extended old (frame last payload) whole).faults ∙ ap (damage_of (length after)) reads
        ∙ undamaged (length after) ends (nothing_damaged (digest last payload))

-- a file with what is no frame behind it, nor has a whole one behind
pub not_done : (old tail : List ℕ) → IsWhole old → holds_any (reading_of old).seal tail ≡ false
    → StandsFor (recovered old) (old ++ tail)
not_done old tail whole none = record {
  readable = readable;
  payloads = ap (λ (r : Reading). r.payloads) reads ∙ append-nil (recovered old);
}
  where
    last : List ℕ
    last = (reading_of old).seal

    ends : Reading
    ends = onto (recovered old) (ended last tail)

    neither : (a b : Bool) → (a || b) ≡ false → (a ≡ false) × (b ≡ false)
    neither true b e = absurd cc
    neither false b e = (refl, e)

    nothing_found : (o : Option (List ℕ × List ℕ)) → is_some o ≡ false → o ≡ None
    nothing_found None e = refl
    nothing_found (Some x) e = absurd cc

    tests : (has_frame last tail ≡ false) × (is_damaged last tail ≡ false)
    tests = neither (has_frame last tail) (is_damaged last tail) none

    reads : reading_of (old ++ tail) ≡ ends
    reads = (extended old tail whole).reads
        ∙ ap (onto (recovered old)) (reading_none last tail (nothing_found (frame_at last tail) tests.0))

    readable : fault_of (old ++ tail) ≡ None
    readable = (extended old tail whole).faults ∙ ap (damage_of (length (old ++ tail))) reads
        ∙ undamaged (length (old ++ tail)) ends tests.1

pub torn_frame : (old payload new : List ℕ) → IsWhole old → length payload < 2 ^ 32
    → Torn (frame (reading_of old).seal payload) old new → IsBeforeOrAfter (recovered old) payload new
torn_frame old payload new whole short torn =
    let tail = drop (length old) new in
    let split : new ≡ old ++ tail =
    sym (take-append-drop (length old) new) ∙ ap (λ (l : List ℕ). l ++ tail) torn.before in
    elim (cases_Bool (holds_any (reading_of old).seal tail)) [
      | inl holds ↦
          inr (done old payload new whole short (split ∙ ap (λ (l : List ℕ). old ++ l) (torn.unforged holds))).stands
      | inr none ↦ inl (subst (λ (l : List ℕ). StandsFor (recovered old) l) (sym split) (not_done old tail whole none))
    ]

pub append_crash : (old payload : List ℕ) (before after : List ℕ → Type 0) → IsWhole old → length payload < 2 ^ 32
    → Only old before → Follows (Torn (frame (reading_of old).seal payload)) before after
    → (c : List ℕ) → after c → IsBeforeOrAfter (recovered old) payload c
append_crash old payload before after whole short only follows c left = grind (arith, torn_frame)

-- ---- a file of one frame

pub number_again : (number : List ℕ) → length number ≡ 32 → number_of (head number) ≡ number
unfolding head
number_again number long = take_all 32 number (omega (arith, long))

nothing_behind_head : (number : List ℕ) → length number ≡ 32 → drop 44 (head number) ≡ []
unfolding head
nothing_behind_head number long = drop_all 32 number (omega (arith, long))

headed : (number : List ℕ) → length number ≡ 32 → IsHeaded (head number)
unfolding head
headed number long = record { long = omega (arith, long); magic = refl; version = refl }

-- a head alone
pub headless : (number : List ℕ) → length number ≡ 32 → reading_of (head number) ≡ ended number []
headless number long = grind (arith, nothing_at, nothing_behind_head, number_again, reading_none)

pub whole_head : (number : List ℕ) → length number ≡ 32 → IsWhole (head number)
whole_head number long =
    let reads = headless number long in
    record {
      readable = headed_fault (head number) (headed number long) ∙ ap (damage_of (length (head number))) reads
          ∙ undamaged (length (head number)) (ended number []) (nothing_damaged number);
      nothing_left = ap (λ (r : Reading). r.rest) reads;
    }

pub record IsAlone (number payload file : List ℕ) : Type 0 where
  pub stands : StandsFor (payload ∷ []) file
  pub whole : IsWhole file
  pub seal : (reading_of file).seal ≡ digest number payload

pub alone : (number payload file : List ℕ) → length number ≡ 32 → length payload < 2 ^ 32
    → file ≡ head number ++ frame number payload → IsAlone number payload file
alone number payload file long short is =
    let reads = headless number long in
    let seal : (reading_of (head number)).seal ≡ number = ap (λ (r : Reading). r.seal) reads in
    let d = done (head number) payload file (whole_head number long) short
    (is ∙ ap (λ (n : List ℕ). head number ++ frame n payload) (sym seal)) in
    let nothing : recovered (head number) ≡ [] = ap (λ (r : Reading). r.payloads) reads in
    record {
      stands = subst (λ (ps : List (List ℕ)). StandsFor (ps ++ payload ∷ []) file) nothing d.stands;
      whole = d.whole;
      seal = d.seal ∙ ap (λ (n : List ℕ). digest n payload) seal;
    }

-- ---- what a front of a frame is

-- nothing was put, and all of it
pub torn_not : (bytes file : List ℕ) → Torn bytes file file
torn_not bytes file = record {
  before = take_all (length file) file (omega arith);
  unforged = λ holds. absurd (no_any file (ap (λ (l : List ℕ). holds_any (reading_of file).seal l)
      (sym (drop_all (length file) file (omega arith))) ∙ holds));
}
  where
    false_true : false ≡ true → ⊥
    false_true e = cc

    no_any : (file : List ℕ) → holds_any (reading_of file).seal [] ≡ true → ⊥
    no_any file e = grind (arith, nothing_at, nothing_damaged)

pub caused_later : (before between now : ℕ) (error : DeviceError) → before ≤ between → IsCaused between now error
    → IsCaused before now error
caused_later before between now Memory le caused = tt
caused_later before between now (Failed error) le caused = omega (arith, caused)

-- What a file that ends with its last frame stands for, with more behind it.
use Rattle.std.proofs.Common.{◌≡◌, ℕ, zero, suc, ◌≤◌, Bool, true, false, cond, eqb, ◌||◌, not, List, [], ◌++◌}
use Rattle.std.proofs.Common.{length, take, drop, Option, Some, None, refl, sym, ap, ◌∙◌, arith, inl, inr}
use Rattle.std.specs.Prelude.{codes, ◌-◌, if◌then◌else◌}
use Rattle.std.specs.List.{starts_with}
use Rattle.std.specs.Option.{option_map_or}
use Rattle.std.proofs.lemmas.Bool.{ltb-false, le-ltb}
use Rattle.std.proofs.lemmas.Bool.Decides.{Decides-eqb}
use Rattle.std.proofs.lemmas.List.{length-append, length-drop}
use Rattle.std.proofs.lemmas.Slice.Eq.{starts_is}
use Rattle.grove_log.specs.Frames.{digest, frame_at}
use Rattle.grove_log.specs.Readings.{Reading, with_payload, reading, is_damaged}
use Rattle.grove_log.specs.Files.{number_of, reading_of, recovered, version_of, head_fault, damage_of, fault_of}
use Rattle.grove_log.specs.Files.{IsWhole}
use Rattle.grove_log.specs.declared.reading.Unreadable.{Unreadable}
use Rattle.grove_log.specs.declared.reading.Unreadable.TheVariants.{Damaged}
use Rattle.grove_log.proofs.Passing.{frame_more, frame_less, front_more, back_more}
use Rattle.grove_log.proofs.Steps.{empty_none, reading_none, reading_more}
use Rattle.grove_base.proofs.Lists.{there_or_none}

-- payloads that were read before
abbrev pub onto : List (List ℕ) → Reading → Reading
onto payloads r = record { payloads = payloads ++ r.payloads; seal = r.seal; rest = r.rest }

ends : (before bytes more : List ℕ) → frame_at before bytes ≡ None → (reading before bytes).rest ≡ []
    → reading before (bytes ++ more) ≡ onto (reading before bytes).payloads (reading (reading before bytes).seal more)
ends before bytes more none empty = grind (arith, reading_none)

-- reading goes on behind frames with nothing left
pub reading_on : (n : ℕ) (before bytes more : List ℕ) → length bytes ≤ n → (reading before bytes).rest ≡ []
    → reading before (bytes ++ more) ≡ onto (reading before bytes).payloads (reading (reading before bytes).seal more)
reading_on zero before bytes more le empty = ends before bytes more (empty_none before bytes le) empty
reading_on (suc n) before bytes more le empty =
    elim (there_or_none (frame_at before bytes)) [
      | inl none ↦ ends before bytes more none empty
      | inr found ↦
          let payload = found.0.0 in
          let after = found.0.1 in
          let here = reading_more before bytes payload after found.1 in
          let still : (reading (digest before payload) after).rest ≡ [] = sym (ap (λ (r : Reading). r.rest) here)
          ∙ empty in
          reading_more before (bytes ++ more) payload (after ++ more) (frame_more before bytes more
          (payload, after) found.1) ∙ ap (with_payload payload) (reading_on n (digest before payload) after more
          (omega (arith, frame_less before bytes payload after found.1)) still)
          ∙ sym (ap (λ (r : Reading). onto r.payloads (reading r.seal more)) here)
    ]

-- ---- what can be read

-- what is tested of a file before its frames are read
pub record IsHeaded (file : List ℕ) : Type 0 where
  pub long : 44 ≤ length file
  pub magic : starts_with eqb file (codes "grovelog") ≡ true
  pub version : eqb (version_of file) 1 ≡ true

headed_none : (file : List ℕ) → IsHeaded file → head_fault file ≡ None
unfolding head_fault
headed_none file headed = grind (arith, le-ltb)

pub headed_fault : (file : List ℕ) → IsHeaded file → fault_of file ≡ damage_of (length file) (reading_of file)
unfolding fault_of
headed_fault file headed = grind (arith, headed_none)

pub undamaged : (n : ℕ) (r : Reading) → is_damaged r.seal r.rest ≡ false → damage_of n r ≡ None
undamaged n r e = rw e refl

refused_none : (b : Bool) (x : Unreadable) (o : Option Unreadable) → cond b (Some x) o ≡ None → (b ≡ false) × (o ≡ None)
refused_none true x o e = absurd cc
refused_none false x o e = (refl, e)

passed_none : (b : Bool) (x : Unreadable) (o : Option Unreadable) → cond b o (Some x) ≡ None → b ≡ true
passed_none true x o e = refl
passed_none false x o e = absurd cc

neither : (a b : Bool) → (a || not b) ≡ false → (a ≡ false) × (b ≡ true)
neither true b e = absurd cc
neither false true e = (refl, refl)
neither false false e = absurd cc

mapped_none : (o d : Option Unreadable) → option_map_or (λ f. Some f) o d ≡ None → o ≡ None
mapped_none None d e = refl
mapped_none (Some x) d e = absurd cc

headed_of_head : (file : List ℕ) → head_fault file ≡ None → IsHeaded file
unfolding head_fault
headed_of_head file e = grind (arith, ltb-false, neither, passed_none, refused_none)

pub headed_of : (file : List ℕ) → fault_of file ≡ None → IsHeaded file
unfolding fault_of
headed_of file e = headed_of_head file (mapped_none (head_fault file) _ e)

headed_more : (file more : List ℕ) → IsHeaded file → IsHeaded (file ++ more)
headed_more file more headed = grind (arith, Decides-eqb, back_more, front_more, length-append, length-drop, starts_is)

number_more : (file more : List ℕ) → 44 ≤ length file → number_of (file ++ more) ≡ number_of file
number_more file more long =
    ap (λ (l : List ℕ). take 32 l) (back_more 12 file more (omega arith))
    ∙ front_more 32 (drop 12 file) more (omega (arith, length-drop 12 file))

-- a whole file with more behind it
pub record Extends (old more : List ℕ) : Type 0 where
  pub reads : reading_of (old ++ more) ≡ onto (recovered old) (reading (reading_of old).seal more)
  pub faults : fault_of (old ++ more) ≡ damage_of (length (old ++ more)) (reading_of (old ++ more))

pub extended : (old more : List ℕ) → IsWhole old → Extends old more
extended old more whole =
    let headed = headed_of old whole.readable in
    let number = number_of old in
    let body = drop 44 old in
    record {
      reads = ap (λ (n : List ℕ). reading n (drop 44 (old ++ more))) (number_more old more headed.long)
          ∙ ap (λ (l : List ℕ). reading number l) (back_more 44 old more headed.long)
          ∙ reading_on (length body) number body more (omega arith) whole.nothing_left;
      faults = headed_fault (old ++ more) (headed_more old more headed);
    }

-- ---- what reading a file finds

pub file_reads : (file number frames : List ℕ) → number ≡ number_of file → frames ≡ drop 44 file
    → reading number frames ≡ reading_of file
file_reads file number frames e e' = ap (λ (l : List ℕ). reading l frames) e
    ∙ ap (λ (l : List ℕ). reading (number_of file) l) e'

pub file_damage : (file seal rest : List ℕ) (r : Reading) → head_fault file ≡ None → r ≡ reading_of file → seal ≡ r.seal
    → rest ≡ r.rest → fault_of file
    ≡ (if is_damaged seal rest then Some (Damaged (length file - length rest)) else None)
unfolding fault_of
file_damage file seal rest r none is e e' = grind (arith)

pub file_refused : (file : List ℕ) (why : Unreadable) → head_fault file ≡ Some why → fault_of file ≡ Some why
unfolding fault_of
file_refused file why e =
    ap (λ (o : Option Unreadable). option_map_or (λ f. Some f) o (damage_of (length file) (reading_of file))) e

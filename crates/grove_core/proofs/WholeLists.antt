-- Deeds dealt out by an order, where each job has done its list, are the serial run of the lists.
use Rattle.std.proofs.Common.{◌≡◌, ◌≢◌, ℕ, ℤ, Bool, true, false, cond, eqb, List, [], ◌∷◌, ◌++◌, refl, sym, ◌∙◌, ap}
use Rattle.std.proofs.Common.{subst, inl, inr, arith}
use Rattle.std.specs.Bool.{⊤}
use Rattle.std.proofs.lemmas.List.{append-nil}
use Rattle.std.proofs.lemmas.Bool.{eqb-true, ne_eqb, eq-eqb, cases_eq, cond-true, cond-false}
use Rattle.grove_access.specs.declared.access.Access.{Access}
use Rattle.grove_access.specs.declared.reply.Reply.{Reply}
use Rattle.grove_access.specs.Effects.{changed_by, records_after, replies_to}
use Rattle.grove_core.specs.Serial.{Deed, deeds_records, deeds_replies, serial_records, serial_replies}
use Rattle.grove_core.proofs.ConflictEquivalence.{Among, kept_if, left_if, own, others, dealt}

-- a list as the deeds of a job
abbrev pub stamped : ℕ → List Access → List Deed
stamped t [] = []
stamped t (access ∷ accesses) = record { job = t; access = access } ∷ stamped t accesses

-- whole lists one after the other
abbrev pub whole : (ℕ → List Access) → List ℕ → List Deed
whole lists [] = []
whole lists (t ∷ order) = stamped t (lists t) ++ whole lists order

-- no job twice
abbrev pub Once : List ℕ → Type 0
Once [] = ⊤
Once (t ∷ order) = (Among t order → ⊥) × Once order

-- the records of joined deeds are left one part after the other
pub deeds_records-append : (a b : List Deed) (start : List ℤ) → deeds_records (a ++ b) start ≡ deeds_records b (deeds_records a start)
deeds_records-append [] b start = refl
deeds_records-append (d ∷ a) b start = deeds_records-append a b (changed_by d.access start)

cond_append : (p : Bool) (r : Reply) (rs more : List Reply) → ◌≡◌ {A = List Reply} (cond p (r ∷ (rs ++ more)) (rs ++ more)) (cond p (r ∷ rs) rs ++ more)
cond_append true r rs more = refl
cond_append false r rs more = refl

-- and so are the replies
pub deeds_replies-append : (a b : List Deed) (start : List ℤ) (t : ℕ)
    → deeds_replies (a ++ b) start t ≡ deeds_replies a start t ++ deeds_replies b (deeds_records a start) t
deeds_replies-append [] b start t = refl
deeds_replies-append (d ∷ a) b start t =
    grind (arith, cond_append, deeds_replies-append a b (changed_by d.access start) t)

stamped_records : (t : ℕ) (list : List Access) (start : List ℤ) → deeds_records (stamped t list) start ≡ records_after list start
stamped_records t [] start = refl
stamped_records t (access ∷ list) start = stamped_records t list (changed_by access start)

stamped_own : (b : Bool) → b ≡ true → (t u : ℕ) → eqb t u ≡ b → (list : List Access) (start : List ℤ) → deeds_replies (stamped t list) start u ≡ replies_to list start
stamped_own b yes' t u e [] start = refl
stamped_own b yes' t u e (access ∷ list) start =
    grind (arith, cond-true, stamped_own b yes' t u e list (changed_by access start))

stamped_other : (t u : ℕ) → eqb t u ≡ false → (list : List Access) (start : List ℤ) → deeds_replies (stamped t list) start u ≡ []
stamped_other t u e [] start = refl
stamped_other t u e (access ∷ list) start =
    grind (arith, cond-false, stamped_other t u e list (changed_by access start))

-- the records of whole lists
pub whole_records : (lists : ℕ → List Access) (order : List ℕ) (start : List ℤ) → deeds_records (whole lists order) start ≡ serial_records lists order start
whole_records lists [] start = refl
whole_records lists (t ∷ order) start =
    grind (arith, deeds_records-append, stamped_records, whole_records lists order (records_after (lists t) start))

-- a job that isn't there has no replies
whole_none : (lists : ℕ → List Access) (order : List ℕ) (u : ℕ) → (Among u order → ⊥) → (start : List ℤ) → deeds_replies (whole lists order) start u ≡ []
whole_none lists [] u out start = refl
whole_none lists (t ∷ order) u out start =
    deeds_replies-append (stamped t (lists t)) (whole lists order) start u
    ∙ ap (λ (rs : List Reply). rs ++ deeds_replies (whole lists order) (deeds_records (stamped t (lists t)) start) u) (stamped_other t u (ne_eqb t u (λ e. out (inl e))) (lists t) start)
    ∙ whole_none lists order u (λ later. out (inr later)) (deeds_records (stamped t (lists t)) start)

-- the replies of whole lists
pub whole_replies : (lists : ℕ → List Access) (order : List ℕ) → Once order → (start : List ℤ) (u : ℕ)
    → deeds_replies (whole lists order) start u ≡ serial_replies lists order start u
whole_replies lists [] once start u = refl
whole_replies lists (t ∷ order) once start u =
    deeds_replies-append (stamped t (lists t)) (whole lists order) start u ∙ elim (cases_eq t u) [
      | inl e ↦ grind (arith, append-nil, cond-true, eq-eqb, stamped_own, whole_none)
      | inr ne ↦
          ap (λ (rs : List Reply). rs ++ deeds_replies (whole lists order) (deeds_records (stamped t (lists t)) start) u) (stamped_other t u (ne_eqb t u ne) (lists t) start)
          ∙ ap (λ (r : List ℤ). deeds_replies (whole lists order) r u) (stamped_records t (lists t) start)
          ∙ whole_replies lists order once.1 (records_after (lists t) start) u
          ∙ sym (cond-false (eqb t u) (replies_to (lists t) start) (serial_replies lists order (records_after (lists t) start) u) (ne_eqb t u ne))
    ]

-- leaving out another job's deeds leaves a job's own

kept_none : (c : Bool) (d : Deed) (mine : List Deed) → (c ≡ true → ⊥) → mine ≡ kept_if c d mine
kept_none true d mine out = absurd (out refl)
kept_none false d mine out = refl

own_others_by : (t u : ℕ) (b : Bool) (d : Deed) (ds : List Deed) → (b ≡ true → eqb d.job u ≡ true → ⊥) → own u (others t ds) ≡ own u ds
    → own u (left_if b d (others t ds)) ≡ own u (d ∷ ds)
own_others_by t u true d ds apart e = e ∙ kept_none (eqb d.job u) d (own u ds) (apart refl)
own_others_by t u false d ds apart e = ap (λ (mine : List Deed). kept_if (eqb d.job u) d mine) e

pub own_others : (t u : ℕ) → t ≢ u → (ds : List Deed) → own u (others t ds) ≡ own u ds
own_others t u ne [] = refl
own_others t u ne (d ∷ ds) = own_others_by t u (eqb d.job t) d ds (λ e f. ne (sym (eqb-true d.job t e) ∙ eqb-true d.job u f)) (own_others t u ne ds)

-- dealt out, where each job of the order has done its list
pub dealt_whole : (lists : ℕ → List Access) (order : List ℕ) → Once order → (ds : List Deed)
    → ((t : ℕ) → Among t order → own t ds ≡ stamped t (lists t)) → dealt order ds ≡ whole lists order
dealt_whole lists [] once ds h = refl
dealt_whole lists (t ∷ order) once ds h =
    ap (λ (mine : List Deed). mine ++ dealt order (others t ds)) (h t (inl refl))
    ∙ ap (λ (rest : List Deed). stamped t (lists t) ++ rest) (dealt_whole lists order once.1 (others t ds)
    (λ u later. own_others t u (λ e. once.0 (subst (λ (k : ℕ). Among k order) (sym e) later)) ds ∙ h u (inr later)))

-- Deeds may change places with free ones: a list of deeds is as good as the deeds dealt out by an order that agrees with its conflicts.
use Rattle.std.proofs.Common.{◌≡◌, ◌≢◌, ℕ, ℤ, pos, Bool, true, false, cond, eqb, ◌⊎◌, List, [], ◌∷◌, ◌++◌, refl, sym}
use Rattle.std.proofs.Common.{◌∙◌, ap, subst, inl, inr, arith}
use Rattle.std.specs.Bool.{⊤}
use Rattle.std.proofs.lemmas.List.{set_comm, get_or-set_other}
use Rattle.std.proofs.lemmas.Bool.{eqb-true, eqb-false}
use Rattle.grove_access.specs.declared.access.Access.{Access}
use Rattle.grove_access.specs.declared.reply.Reply.{Reply}
use Rattle.grove_access.specs.Effects.{stored, answer, record_at, changed_by, reply_to}
use Rattle.grove_core.specs.Serial.{Deed, deeds_records, deeds_replies}

-- deeds that leave the same records and replies
pub record Same (a b : List Deed) : Type 0 where
  pub records : (start : List ℤ) → deeds_records a start ≡ deeds_records b start
  pub replies : (start : List ℤ) (t : ℕ) → deeds_replies a start t ≡ deeds_replies b start t

-- deeds leave what they leave
pub same_refl : (a : List Deed) → Same a a
same_refl a = record { records = λ start. refl; replies = λ start t. refl }

-- deeds that leave the same as others leave what these leave
pub same_trans : (a b c : List Deed) → Same a b → Same b c → Same a c
same_trans a b c s r = record { records = λ start. s.records start ∙ r.records start; replies = λ start t. s.replies start t ∙ r.replies start t }

-- a deed before them
pub same_cons : (d : Deed) (a b : List Deed) → Same a b → Same (d ∷ a) (d ∷ b)
same_cons d a b s = grind (arith)

-- deeds before them
pub same_append : (ds a b : List Deed) → Same a b → Same (ds ++ a) (ds ++ b)
same_append [] a b s = s
same_append (d ∷ ds) a b s = same_cons d (ds ++ a) (ds ++ b) (same_append ds a b s)

-- an access of another node leaves a record
record_kept : (a : Access) (node : ℕ) (records : List ℤ) → node ≢ a.node → record_at (changed_by a records) node ≡ record_at records node
record_kept a node records ne = get_or-set_other records a.node node (stored a.op (record_at records a.node)) (pos 0) ne

-- accesses of two nodes leave the same records in either order
changes_commute : (a b : Access) (records : List ℤ) → a.node ≢ b.node → changed_by b (changed_by a records) ≡ changed_by a (changed_by b records)
changes_commute a b records ne = grind (arith, record_kept, set_comm)

-- the reply is the same after an access of another node
reply_kept : (a b : Access) (records : List ℤ) → b.node ≢ a.node → reply_to b (changed_by a records) ≡ reply_to b records
reply_kept a b records ne = ap (λ (x : ℤ). answer b.op x) (record_kept a b.node records ne)

-- two replies of different jobs, as one job sees them
replies_swap : (p q : Bool) (r s r' s' : Reply) (rest rest' : List Reply) → (p ≡ true → q ≡ true → ⊥) → r ≡ r' → s ≡ s' → rest ≡ rest'
    → ◌≡◌ {A = List Reply} (cond p (r ∷ cond q (s ∷ rest) rest) (cond q (s ∷ rest) rest)) (cond q (s' ∷ cond p (r' ∷ rest') rest') (cond p (r' ∷ rest') rest'))
replies_swap true true r s r' s' rest rest' apart x y z = absurd (apart refl refl)
replies_swap true false r s r' s' rest rest' apart x y z = cc
replies_swap false true r s r' s' rest rest' apart x y z = cc
replies_swap false false r s r' s' rest rest' apart x y z = z

-- neighbours of two jobs at two nodes change places
pub same_swap : (d e : Deed) (ds : List Deed) → d.access.node ≢ e.access.node → d.job ≢ e.job → Same (d ∷ e ∷ ds) (e ∷ d ∷ ds)
same_swap d e ds nodes jobs = grind (arith, changes_commute, eqb-true, replies_swap, reply_kept)

-- what holds of each deed
abbrev pub AllDeeds : (Deed → Type 0) → List Deed → Type 0
AllDeeds P [] = ⊤
AllDeeds P (d ∷ ds) = P d × AllDeeds P ds

-- what follows from it holds of each deed too
pub all_map : (P Q : Deed → Type 0) → ((d : Deed) → P d → Q d) → (ds : List Deed) → AllDeeds P ds → AllDeeds Q ds
all_map P Q f [] h = tt
all_map P Q f (d ∷ ds) h = (f d h.0, all_map P Q f ds h.1)

-- what holds of each deed of two lists holds of those joined
pub all_append : (P : Deed → Type 0) (a b : List Deed) → AllDeeds P a → AllDeeds P b → AllDeeds P (a ++ b)
all_append P [] b h k = k
all_append P (d ∷ a) b h k = (h.0, all_append P a b h.1 k)

-- one deed moves past free ones
pub move : (d : Deed) (a b : List Deed) → AllDeeds (λ k. (d.access.node ≢ k.access.node) × (d.job ≢ k.job)) a → Same (d ∷ a ++ b) (a ++ d ∷ b)
move d [] b h = same_refl (d ∷ b)
move d (k ∷ a) b h = same_trans (d ∷ k ∷ a ++ b) (k ∷ d ∷ a ++ b) (k ∷ a ++ d ∷ b)
    (same_swap d k (a ++ b) h.0.0 h.0.1) (same_cons k (d ∷ a ++ b) (a ++ d ∷ b) (move d a b h.1))

-- the deeds of a job, and those of the others
abbrev pub kept_if : Bool → Deed → List Deed → List Deed
kept_if true d ds = d ∷ ds
kept_if false d ds = ds

abbrev pub left_if : Bool → Deed → List Deed → List Deed
left_if true d ds = ds
left_if false d ds = d ∷ ds

abbrev pub own : ℕ → List Deed → List Deed
own t [] = []
own t (d ∷ ds) = kept_if (eqb d.job t) d (own t ds)

abbrev pub others : ℕ → List Deed → List Deed
others t [] = []
others t (d ∷ ds) = left_if (eqb d.job t) d (others t ds)

-- the first of two conflicting deeds is of a job that is to come first
abbrev pub Conflicts : (ℕ → ℕ → Type 0) → List Deed → Type 0
Conflicts R [] = ⊤
Conflicts R (d ∷ ds) = AllDeeds (λ k. d.access.node ≡ k.access.node → d.job ≢ k.job → R d.job k.job) ds × Conflicts R ds

abbrev pub Among : ℕ → List ℕ → Type 0
Among u [] = ⊥
Among u (t ∷ order) = (t ≡ u) ⊎ Among u order

-- no later job of an order is to come before an earlier one
abbrev pub Agrees : (ℕ → ℕ → Type 0) → List ℕ → Type 0
Agrees R [] = ⊤
Agrees R (t ∷ order) = ((u : ℕ) → Among u order → R u t → ⊥) × Agrees R order

-- the deeds dealt out by an order
abbrev pub dealt : List ℕ → List Deed → List Deed
dealt [] ds = []
dealt (t ∷ order) ds = own t ds ++ dealt order (others t ds)

-- what holds of all holds of the own and of the others
kept_all : (P : Deed → Type 0) (b : Bool) (d : Deed) (ds : List Deed) → (b ≡ true → P d) → AllDeeds P ds → AllDeeds P (kept_if b d ds)
kept_all P true d ds h k = (h refl, k)
kept_all P false d ds h k = k

left_all : (P : Deed → Type 0) (b : Bool) (d : Deed) (ds : List Deed) → (b ≡ false → P d) → AllDeeds P ds → AllDeeds P (left_if b d ds)
left_all P true d ds h k = k
left_all P false d ds h k = (h refl, k)

-- what holds of all deeds holds of a job's own
pub own_all : (P : Deed → Type 0) (t : ℕ) (ds : List Deed) → AllDeeds P ds → AllDeeds (λ d. P d × (d.job ≡ t)) (own t ds)
own_all P t [] h = tt
own_all P t (d ∷ ds) h = kept_all (λ k. P k × (k.job ≡ t)) (eqb d.job t) d (own t ds) (λ e. (h.0, eqb-true d.job t e)) (own_all P t ds h.1)

-- and of those of the others
pub others_all : (P : Deed → Type 0) (t : ℕ) (ds : List Deed) → AllDeeds P ds → AllDeeds (λ d. P d × (d.job ≢ t)) (others t ds)
others_all P t [] h = tt
others_all P t (d ∷ ds) h = left_all (λ k. P k × (k.job ≢ t)) (eqb d.job t) d (others t ds) (λ e. (h.0, eqb-false d.job t e)) (others_all P t ds h.1)

left_conflicts : (R : ℕ → ℕ → Type 0) (b : Bool) (d : Deed) (ds : List Deed)
    → AllDeeds (λ k. d.access.node ≡ k.access.node → d.job ≢ k.job → R d.job k.job) ds → Conflicts R ds → Conflicts R (left_if b d ds)
left_conflicts R true d ds h c = c
left_conflicts R false d ds h c = (h, c)

-- the conflicts of the others agree where all do
pub others_conflicts : (R : ℕ → ℕ → Type 0) (t : ℕ) (ds : List Deed) → Conflicts R ds → Conflicts R (others t ds)
others_conflicts R t [] h = tt
others_conflicts R t (d ∷ ds) h = grind (arith, all_map, left_conflicts, others_all, others_conflicts R t ds h.1)

-- the deeds of a job before which no other job is to come move to the front
front_by : (R : ℕ → ℕ → Type 0) (t : ℕ) (b : Bool) (d : Deed) (ds mine rest : List Deed) → (b ≡ false → d.job ≢ t)
    → (d.job ≢ t → R d.job t → ⊥)
    → AllDeeds (λ k. (d.access.node ≡ k.access.node → d.job ≢ k.job → R d.job k.job) × (k.job ≡ t)) mine
    → Same ds (mine ++ rest) → Same (d ∷ ds) (kept_if b d mine ++ left_if b d rest)
front_by R t true d ds mine rest other free h s = same_cons d ds (mine ++ rest) s
front_by R t false d ds mine rest other free h s =
    let ne : d.job ≢ t = other refl in
    same_trans (d ∷ ds) (d ∷ mine ++ rest) (mine ++ d ∷ rest) (same_cons d ds (mine ++ rest) s)
    (move d mine rest (all_map (λ k. (d.access.node ≡ k.access.node → d.job ≢ k.job → R d.job k.job) × (k.job ≡ t))
    (λ k. (d.access.node ≢ k.access.node) × (d.job ≢ k.job))
    (λ k w. let jobs : d.job ≢ k.job = λ e. ne (e ∙ w.1) in
    (λ e. free ne (subst (λ (u : ℕ). R d.job u) w.1 (w.0 e jobs)), jobs))
    mine h))

-- a job's own deeds may all stand first where no other is to come before it
pub front : (R : ℕ → ℕ → Type 0) (t : ℕ) (ds : List Deed) → Conflicts R ds → AllDeeds (λ d. d.job ≢ t → R d.job t → ⊥) ds
    → Same ds (own t ds ++ others t ds)
front R t [] c free = same_refl []
front R t (d ∷ ds) c free = front_by R t (eqb d.job t) d ds (own t ds) (others t ds) (eqb-false d.job t) free.0
    (own_all (λ k. d.access.node ≡ k.access.node → d.job ≢ k.job → R d.job k.job) t ds c.0) (front R t ds c.1 free.1)

-- the deeds are as good as those dealt out by an order that agrees with their conflicts
pub serialized : (R : ℕ → ℕ → Type 0) (order : List ℕ) → Agrees R order → (ds : List Deed) → Conflicts R ds → AllDeeds (λ d. Among d.job order) ds
    → Same ds (dealt order ds)
serialized R [] agrees [] c among = same_refl []
serialized R [] agrees (d ∷ ds) c among = absurd among.0
serialized R (t ∷ order) agrees ds c among =
    let here : Same ds (own t ds ++ others t ds) = front R t ds c
    (all_map (λ d. Among d.job (t ∷ order)) (λ d. d.job ≢ t → R d.job t → ⊥)
    (λ d w ne r. elim w [ inl e ↦ ne (sym e) | inr later ↦ agrees.0 d.job later r ]) ds among) in
    let there : Same (others t ds) (dealt order (others t ds)) = serialized R order agrees.1 (others t ds) (others_conflicts R t ds c)
    (all_map (λ d. Among d.job (t ∷ order) × (d.job ≢ t)) (λ d. Among d.job order)
    (λ d w. elim w.0 [ inl e ↦ absurd (w.1 (sym e)) | inr later ↦ later ]) (others t ds)
    (others_all (λ d. Among d.job (t ∷ order)) t ds among)) in
    same_trans ds (own t ds ++ others t ds) (own t ds ++ dealt order (others t ds)) here
    (same_append (own t ds) (others t ds) (dealt order (others t ds)) there)

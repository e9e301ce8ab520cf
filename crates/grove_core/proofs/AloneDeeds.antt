-- What jobs do that are done whole, each alone: their lists, one after the other.
use Rattle.std.proofs.Common.{◌≡◌, ℕ, zero, suc, ◌≤◌, List, [], ◌∷◌, ◌++◌, length, take, Option, Some, ℤ, refl}
use Rattle.std.proofs.Common.{sym, ◌∙◌, ap, inl, inr, arith}
use Rattle.std.specs.List.{slice_get}
use Rattle.std.proofs.lemmas.List.{append_assoc, append-nil}
use Rattle.std.proofs.Math.Seq.{take-length}
use Rattle.grove_base.specs.Numbers.{numbers_below}
use Rattle.grove_base.proofs.Lists.{item_there, take_next}
use Rattle.grove_tree.specs.Trees.{Rows}
use Rattle.grove_access.specs.declared.access.Access.{Access}
use Rattle.grove_plan.specs.declared.step.Step.{Step}
use Rattle.grove_core.specs.declared.job.Job.{Job}
use Rattle.grove_core.specs.declared.event.Event.{Event}
use Rattle.grove_core.specs.Serial.{Deed, deeds_records, deeds_replies, serial_records, serial_replies}
use Rattle.grove_core.specs.Runs.{list_of, plan_of, AllLegal, steps_done, next_step, deed_of, deeds, run_records}
use Rattle.grove_core.specs.Runs.{run_replies}
use Rattle.grove_core.specs.Alone.{steps_more, alone_below, alone}
use Rattle.grove_core.proofs.ConflictEquivalence.{Among}
use Rattle.grove_core.proofs.WholeLists.{Once, stamped, whole, whole_records, whole_replies}
use Rattle.grove_core.proofs.OwnAccesses.{did, did_last, whole_plan}
use Rattle.grove_core.proofs.AloneSteps.{more_own, not_yet}

-- steps of a job that has done none yet add the deeds of as many steps of its plan
more_deeds : (jobs : List Job) (past : List Event) (t : ℕ) → steps_done past t ≡ 0 → (n : ℕ)
    → n ≤ length (plan_of jobs t)
    → deeds jobs (steps_more t n past) ≡ deeds jobs past ++ did t (list_of jobs t) (take n (plan_of jobs t))
more_deeds jobs past t begun zero le = sym (append-nil (deeds jobs past))
more_deeds jobs past t begun (suc n) le =
    let own = more_own t n past in
    let at : steps_done (steps_more t n past) t ≡ n = omega arith in
    let there : (s : Step) × (slice_get (plan_of jobs t) n ≡ Some s) = item_there (plan_of jobs t) n (omega arith) in
    ap (λ (ds : List Deed). ds ++ deed_of t (list_of jobs t) (next_step jobs (steps_more t n past) t))
    (more_deeds jobs past t begun n (omega arith))
    ∙ append_assoc (deeds jobs past) (did t (list_of jobs t) (take n (plan_of jobs t)))
    (deed_of t (list_of jobs t) (next_step jobs (steps_more t n past) t)) ∙ ap (λ (o : Option Step). deeds jobs
    past ++ (did t (list_of jobs t) (take n (plan_of jobs t)) ++ deed_of t (list_of jobs t) o))
    (ap (λ (i : ℕ). slice_get (plan_of jobs t) i) at ∙ there.1) ∙ ap (λ (ds : List Deed). deeds jobs past ++ ds)
    (sym (did_last t (list_of jobs t) (take n (plan_of jobs t)) there.0)
    ∙ ap (did t (list_of jobs t)) (sym (take_next (plan_of jobs t) n there.0 there.1)))

-- whole lists by an order that has one job more
whole_last : (lists : ℕ → List Access) (order : List ℕ) (t : ℕ)
    → whole lists (order ++ t ∷ []) ≡ whole lists order ++ stamped t (lists t)
whole_last lists [] t = append-nil (stamped t (lists t))
whole_last lists (u ∷ order) t = grind (arith, append_assoc, stamped, whole, whole_last lists order t)

-- jobs done whole do their lists
whole_deeds : (rows : Rows) (jobs : List Job) → AllLegal rows jobs → (k : ℕ) → k ≤ length jobs
    → deeds jobs (alone_below jobs k) ≡ whole (list_of jobs) (numbers_below k)
whole_deeds rows jobs legal zero le = refl
whole_deeds rows jobs legal (suc k) le =
    more_deeds jobs (alone_below jobs k) k (not_yet jobs k k (omega arith)) (length (plan_of jobs k)) (omega arith)
    ∙ ap (λ (steps : List Step). deeds jobs (alone_below jobs k) ++ did k (list_of jobs k) steps)
    (take-length (plan_of jobs k)) ∙ ap (λ (ds : List Deed). deeds jobs (alone_below jobs k) ++ ds)
    (whole_plan rows (list_of jobs k) (plan_of jobs k) (legal k (omega arith)) k)
    ∙ ap (λ (ds : List Deed). ds ++ stamped k (list_of jobs k)) (whole_deeds rows jobs legal k (omega arith))
    ∙ sym (whole_last (list_of jobs) (numbers_below k) k)

-- The numbers below a bound have none twice.

-- what stands in a list with one item more, and not in the list, is that item
among_last : (t x : ℕ) (xs : List ℕ) → Among t (xs ++ x ∷ []) → (Among t xs → ⊥) → x ≡ t
among_last t x [] h out = elim h [ inl e ↦ e | inr none ↦ absurd none ]
among_last t x (y ∷ xs) h out = elim h [
  | inl e ↦ absurd (out (inl e))
  | inr later ↦ among_last t x xs later (λ there. out (inr there))
]

-- a number that isn't there may be put at the end
once_last : (xs : List ℕ) (x : ℕ) → Once xs → (Among x xs → ⊥) → Once (xs ++ x ∷ [])
once_last [] x once out = (λ none. none, tt)
once_last (y ∷ xs) x once out =
    (λ there. out (inl (sym (among_last y x xs there once.0))), once_last xs x once.1 (λ later. out (inr later)))

-- no number below a bound is the bound or above it
pub not_among : (t n : ℕ) → n ≤ t → Among t (numbers_below n) → ⊥
not_among t zero le h = h
not_among t (suc n) le h = omega (arith, among_last t n (numbers_below n) h (not_among t n (omega arith)))

-- none stands twice
numbers_once : (n : ℕ) → Once (numbers_below n)
numbers_once zero = tt
numbers_once (suc n) = once_last (numbers_below n) n (numbers_once n) (not_among n n (omega arith))

-- Records and replies

-- the records are those of the lists by the jobs' numbers
pub alone_records : (rows : Rows) (jobs : List Job) → AllLegal rows jobs → (opening : List ℤ)
    → run_records jobs opening (alone jobs) ≡ serial_records (list_of jobs) (numbers_below (length jobs)) opening
alone_records rows jobs legal opening =
    ap (λ (ds : List Deed). deeds_records ds opening) (whole_deeds rows jobs legal (length jobs) (omega arith))
    ∙ whole_records (list_of jobs) (numbers_below (length jobs)) opening

-- and so are the replies
pub alone_replies : (rows : Rows) (jobs : List Job) → AllLegal rows jobs → (opening : List ℤ) (t : ℕ)
    → run_replies jobs opening (alone jobs) t ≡ serial_replies (list_of jobs) (numbers_below (length jobs)) opening t
alone_replies rows jobs legal opening t =
    ap (λ (ds : List Deed). deeds_replies ds opening t) (whole_deeds rows jobs legal (length jobs) (omega arith))
    ∙ whole_replies (list_of jobs) (numbers_below (length jobs)) (numbers_once (length jobs)) opening t

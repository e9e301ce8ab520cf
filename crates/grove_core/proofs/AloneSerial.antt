-- Jobs done alone, as a caller does them: one list after the other, and each job's replies where its turn comes.
use Rattle.std.proofs.Common.{◌≡◌, ◌≢◌, ℕ, zero, suc, ◌<◌, ◌≤◌, ℤ, Bool, true, false, ◌&&◌, ltb, eqb, List, []}
use Rattle.std.proofs.Common.{◌∷◌, ◌++◌, length, Option, Some, None, refl, sym, ◌∙◌, ap, subst, inl, inr, arith}
use Rattle.std.proofs.lemmas.Option.{none-some}
use Rattle.std.proofs.lemmas.Bool.{cases_eq, eq-eqb, ne_eqb, cond-true, cond-false, and_left, and_right, and_from}
use Rattle.std.proofs.lemmas.Bool.{lt-ltb, le-ltb}
use Rattle.grove_base.specs.Numbers.{numbers_below}
use Rattle.grove_tree.specs.Trees.{Rows, IsTree}
use Rattle.grove_access.specs.declared.access.Access.{Access}
use Rattle.grove_access.specs.Effects.{records_after, replies_to}
use Rattle.grove_core.specs.declared.job.Job.{Job}
use Rattle.grove_core.specs.Serial.{serial_records, serial_replies}
use Rattle.grove_core.specs.Runs.{list_of, plan_of, AllLegal, run_replies}
use Rattle.grove_core.specs.Orders.{first_lock, order_by}
use Rattle.grove_core.specs.Laws.{IsEachOnce}
use Rattle.grove_core.specs.Alone.{alone, locks_some, comes_after}
use Rattle.grove_core.proofs.SerialRuns.{order_each_once}
use Rattle.grove_core.proofs.ConflictEquivalence.{Among}
use Rattle.grove_core.proofs.AloneDeeds.{not_among, alone_replies}

-- the records of one list more
pub serial_last : (lists : ℕ → List Access) (order : List ℕ) (t : ℕ) (records : List ℤ)
    → serial_records lists (order ++ t ∷ []) records ≡ records_after (lists t) (serial_records lists order records)
serial_last lists [] t records = refl
serial_last lists (u ∷ order) t records = serial_last lists order t (records_after (lists u) records)

-- one list more leaves the replies of the other jobs
replies_kept : (lists : ℕ → List Access) (order : List ℕ) (u t : ℕ) → u ≢ t → (records : List ℤ)
    → serial_replies lists (order ++ u ∷ []) records t ≡ serial_replies lists order records t
replies_kept lists [] u t ne records = cond-false (eqb u t) (replies_to (lists u) records) [] (ne_eqb u t ne)
replies_kept lists (x ∷ order) u t ne records =
    grind (arith, replies_kept lists order u t ne (records_after (lists x) records))

-- a job that comes last has its replies on the records that the others leave
replies_last : (lists : ℕ → List Access) (order : List ℕ) (t : ℕ) → (Among t order → ⊥) → (records : List ℤ)
    → serial_replies lists (order ++ t ∷ []) records t ≡ replies_to (lists t) (serial_records lists order records)
replies_last lists [] t out records = cond-true (eqb t t) (replies_to (lists t) records) [] (eq-eqb t t refl)
replies_last lists (u ∷ order) t out records =
    cond-false (eqb u t) (replies_to (lists u) records)
    (serial_replies lists (order ++ t ∷ []) (records_after (lists u) records) t) (ne_eqb u t (λ e. out (inl e)))
    ∙ replies_last lists order t (λ later. out (inr later)) (records_after (lists u) records)

-- a job's replies are those of its list on the records that the jobs before it leave
serial_reply : (lists : ℕ → List Access) (n t : ℕ) → t < n → (records : List ℤ)
    → serial_replies lists (numbers_below n) records t
    ≡ replies_to (lists t) (serial_records lists (numbers_below t) records)
serial_reply lists zero t lt records = absurd (omega arith)
serial_reply lists (suc n) t lt records = elim (cases_eq n t) [
  | inl e ↦
      subst (λ (k : ℕ). serial_replies lists (numbers_below n ++ n ∷ []) records k
      ≡ replies_to (lists k) (serial_records lists (numbers_below k) records)) e
      (replies_last lists (numbers_below n) n (not_among n n (omega arith)) records)
  | inr ne ↦ replies_kept lists (numbers_below n) n t ne records ∙ serial_reply lists n t (omega arith) records
]

pub alone_reply : (rows : Rows) (jobs : List Job) → AllLegal rows jobs → (opening : List ℤ) (t : ℕ) → t < length jobs
    → run_replies jobs opening (alone jobs) t
    ≡ replies_to (list_of jobs t) (serial_records (list_of jobs) (numbers_below t) opening)
alone_reply rows jobs legal opening t lt =
    alone_replies rows jobs legal opening t ∙ serial_reply (list_of jobs) (length jobs) t lt opening

-- an order of one job
one_once : (order : List ℕ) → IsEachOnce order 1 → order ≡ 0 ∷ []
one_once [] each = let at = each.all 0 (omega arith) in absurd (none-some 0 at.1)
one_once (x ∷ []) each = let lt : x < 1 = each.within 0 x refl in let e : x ≡ 0 =
    omega arith in ap (λ (n : ℕ). n ∷ []) e
one_once (x ∷ y ∷ order) each =
    let lt : x < 1 = each.within 0 x refl in
    let less : y < 1 = each.within 1 y refl in
    let e : y ≡ x = omega arith in
    absurd (omega (arith, each.once 0 1 x refl (ap (λ (n : ℕ). Some n) e)))

pub order_of_one : (rows : Rows) → IsTree rows → (jobs : List Job) → AllLegal rows jobs → (after : ℕ → ℕ → Bool)
    → length jobs ≡ 1 → order_by rows jobs after ≡ 0 ∷ []
order_of_one rows tree jobs legal after one =
    one_once (order_by rows jobs after)
    (subst (λ (n : ℕ). IsEachOnce (order_by rows jobs after) n) one (order_each_once rows tree jobs legal after))

-- Which job comes after which, by the node that is read as the first one's first

first_read : (jobs : List Job) (t u : ℕ) (found o : Option ℕ) → found ≡ first_lock (plan_of jobs t) → found ≡ o
    → comes_after jobs t u ≡ (ltb t u && locks_some (plan_of jobs u) o)
first_read jobs t u found o first is = ap (λ (p : Option ℕ). ltb t u && locks_some (plan_of jobs u) p) (sym first ∙ is)

pub comes_none : (jobs : List Job) (t u : ℕ) (found : Option ℕ) → found ≡ first_lock (plan_of jobs t)
    → ((node : ℕ) → found ≡ Some node → ⊥) → comes_after jobs t u ≡ false
comes_none jobs t u None first none = first_read jobs t u None None first refl ∙ and_right (ltb t u) false refl
comes_none jobs t u (Some node) first none = absurd (none node refl)

pub comes_true : (jobs : List Job) (t u node : ℕ) (found : Option ℕ) → found ≡ first_lock (plan_of jobs t)
    → found ≡ Some node → t < u → locks_some (plan_of jobs u) (Some node) ≡ true → comes_after jobs t u ≡ true
comes_true jobs t u node found first is lt locks = grind (arith, and_from, first_read, lt-ltb)

pub comes_early : (jobs : List Job) (t u : ℕ) → u ≤ t → comes_after jobs t u ≡ false
comes_early jobs t u le = and_left (ltb t u) (locks_some (plan_of jobs u) (first_lock (plan_of jobs t))) (le-ltb t u le)

pub comes_free : (jobs : List Job) (t u node : ℕ) (found : Option ℕ) → found ≡ first_lock (plan_of jobs t)
    → found ≡ Some node → locks_some (plan_of jobs u) (Some node) ≡ false → comes_after jobs t u ≡ false
comes_free jobs t u node found first is free = grind (arith, and_right, first_read)

-- beyond the last job there is no plan
pub plan_of_past : (jobs : List Job) (t : ℕ) → length jobs ≤ t → plan_of jobs t ≡ []
plan_of_past [] t le = refl
plan_of_past (job ∷ jobs) zero le = absurd (omega arith)
plan_of_past (job ∷ jobs) (suc t) le = plan_of_past jobs t (omega arith)

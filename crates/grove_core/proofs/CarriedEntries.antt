-- A job's accesses that are done ahead of the core, and the core that has taken them.
use Rattle.std.proofs.Common.{◌≡◌, ℕ, zero, suc, ◌+◌, ◌<◌, ◌≤◌, ℤ, true, eqb, List, [], ◌∷◌, ◌++◌, length, reverse}
use Rattle.std.proofs.Common.{take, replicate, get_or, Option, Some, None, is_some, refl, sym, ◌∙◌, ap, subst, inl, inr}
use Rattle.std.proofs.Common.{arith, append_assoc}
use Rattle.std.specs.List.{slice_get}
use Rattle.std.proofs.lemmas.List.{append-nil}
use Rattle.std.proofs.Math.Seq.{take-length}
use Rattle.std.proofs.lemmas.Option.{none-some, same_Some, slice_get_within, get_or_from_slice_get}
use Rattle.std.proofs.lemmas.Bool.{cases_eq, both_ways, eq-eqb, ne_eqb, cond-true, cond-false, false_from_ne_true}
use Rattle.grove_access.specs.declared.access.Access.{Access}
use Rattle.grove_access.specs.declared.reply.Reply.{Reply}
use Rattle.grove_access.specs.declared.known.Known.{Known}
use Rattle.grove_access.specs.declared.entry.Entry.{Entry}
use Rattle.grove_access.specs.Effects.{stored, record_at, changed_by, reply_to}
use Rattle.grove_access.specs.Carries.{Carried, known_at, value_after, present_from, present_at, carry_settled, AreApart, IsSound}
use Rattle.grove_base.proofs.Lists.{take_next, get_set_same, get_set_other, read_at, item_there}
use Rattle.grove_access.proofs.CarriedNodes.{known_first, known_later, settled_at, value_after-append, out_value}
use Rattle.grove_plan.specs.declared.step.Step.{Step}
use Rattle.grove_plan.specs.declared.step.Step.TheVariants as plan_step
use Rattle.grove_plan.specs.Plans.{locks, unlocks}
use Rattle.grove_core.specs.declared.job.Job.{Job}
use Rattle.grove_core.specs.declared.event.Event.{Event}
use Rattle.grove_core.specs.declared.event.Event.TheVariants.{Take}
use Rattle.grove_core.specs.Runs.{list_of, plan_of, steps_done, next_step, holds, run_records, run_replies}
use Rattle.grove_core.specs.Kept.{CoreState, past_of}
use Rattle.grove_core.specs.Cores.{Owns}
use Rattle.grove_core.specs.CarriedTests.{is_owner, KnowsAll, HasAll, Follows}
use Rattle.grove_core.specs.Carried.{records_of, IsOf, after_steps, replies_in}
use Rattle.grove_core.proofs.StepTimes.{steps_new}
use Rattle.grove_core.proofs.RunSteps.{plan_of_at, list_of_at, accessed_records, accessed_replies}
use Rattle.grove_core.proofs.CoreReads.{reverse_last}
use Rattle.grove_core.proofs.OwnerSteps.{holds_same}

-- The tests together say that the carry is of the core

-- a node that is out stands somewhere
pub known_item : (known : List Known) (node : ℕ) (value : ℤ) → known_at known node ≡ Some value → (i : ℕ) × (k : Known) × (slice_get known i ≡ Some k) × (k.node ≡ node) × (k.value ≡ value)
known_item [] node value at = absurd (none-some value at)
known_item (k ∷ known) node value at = elim (cases_eq k.node node) [
  | inl same ↦ (0, k, refl, same, same_Some k.value value (sym (known_first (k ∷ known) k known node refl same) ∙ at))
  | inr other ↦ let rest = known_item known node value (sym (known_later (k ∷ known) k known node refl other) ∙ at) in (suc rest.0, rest.1, rest.2, rest.3, rest.4)
]

-- and what stands somewhere is read there
item_known : (known : List Known) (i : ℕ) (k : Known) → AreApart known → slice_get known i ≡ Some k → known_at known k.node ≡ Some k.value
item_known [] i k apart at = absurd (none-some k at)
item_known (x ∷ known) zero k apart at = grind (arith, known_first, same_Some)
item_known (x ∷ known) (suc i) k apart at = grind (arith, known_later, none-some, item_known known i k apart.1 at)

-- a value that is there
pub some_true : (o : Option ℤ) → is_some o ≡ true → (v : ℤ) × (o ≡ Some v)
some_true None h = absurd (cc)
some_true (Some v) h = (v, refl)

is_some_of : (o : Option ℤ) (v : ℤ) → o ≡ Some v → is_some o ≡ true
is_some_of o v e = rw e refl

out_at : (core : CoreState) (carry : Carried) → KnowsAll core carry.txn carry.known → HasAll core carry → (node : ℕ) (o : Option ℤ) → known_at carry.known node ≡ o
    → is_some o ≡ holds core.jobs (past_of core) carry.txn node
out_at core carry knows has node None at = grind (arith, both_ways, false_from_ne_true)
out_at core carry knows has node (Some value) at = grind (arith, known_item)

pub is_of_all : (core : CoreState) (carry : Carried) → carry.txn < length core.jobs → KnowsAll core carry.txn carry.known → HasAll core carry
    → Follows (list_of core.jobs carry.txn) (plan_of core.jobs carry.txn) (steps_done (past_of core) carry.txn) carry.entries → IsOf core carry
is_of_all core carry job knows has follows = record {
  job = job;
  out = λ node. out_at core carry knows has node (known_at carry.known node) refl;
  known = grind (arith, known_item);
  next = λ i e at. (follows i e at).0;
  own = λ i e at. (follows i e at).1;
}

knows_of : (core : CoreState) (carry : Carried) → AreApart carry.known → IsOf core carry → KnowsAll core carry.txn carry.known
knows_of core carry apart of = λ i k at.
    let there : known_at carry.known k.node ≡ Some k.value = item_known carry.known i k apart at in
    (sym (of.out k.node) ∙ is_some_of (known_at carry.known k.node) k.value there, of.known k.node k.value there)

-- a carry that is of the core has each node out that its job holds
pub has_of : (core : CoreState) (carry : Carried) → IsOf core carry → HasAll core carry
has_of core carry of = λ node held. of.out node ∙ held

follows_of : (core : CoreState) (carry : Carried) → IsOf core carry → Follows (list_of core.jobs carry.txn) (plan_of core.jobs carry.txn) (steps_done (past_of core) carry.txn) carry.entries
follows_of core carry of = λ i e at. (of.next i e at, of.own i e at)

-- So many steps more of a job

abbrev taken : ℕ → ℕ → List Event → List Event
taken zero t past = past
taken (suc n) t past = Take t ∷ taken n t past

taken_shift : (n t : ℕ) (past : List Event) → taken n t (Take t ∷ past) ≡ Take t ∷ taken n t past
taken_shift zero t past = refl
taken_shift (suc n) t past = ap (λ (es : List Event). Take t ∷ es) (taken_shift n t past)

past_taken : (history : List Event) (n t : ℕ) → reverse (history ++ replicate n (Take t)) ≡ taken n t (reverse history)
past_taken history zero t = ap (λ (es : List Event). reverse es) (append-nil history)
past_taken history (suc n) t =
    ap (λ (es : List Event). reverse es) (sym (append_assoc history (Take t ∷ []) (replicate n (Take t))))
    ∙ past_taken (history ++ Take t ∷ []) n t ∙ ap (taken n t) (reverse_last history (Take t))
    ∙ taken_shift n t (reverse history)

steps_taken : (n u t : ℕ) (past : List Event) → u ≡ t → steps_done (taken n u past) t ≡ steps_done past t + n
steps_taken zero u t past same = omega arith
steps_taken (suc n) u t past same = grind (arith, steps_new, steps_taken n u t past same)

-- The entries up to one of them are done: the job is as many steps further, and its records are as the entries left them.
record HasDone (core : CoreState) (carry : Carried) (n : ℕ) (past : List Event) : Type 0 where
  at : steps_done past carry.txn ≡ steps_done (past_of core) carry.txn + n
  records : (node : ℕ) (value : ℤ) → known_at carry.known node ≡ Some value
      → slice_get (run_records core.jobs core.opening past) node ≡ Some (value_after (take n carry.entries) node value)
  replies : run_replies core.jobs core.opening past carry.txn ≡ run_replies core.jobs core.opening (past_of core) carry.txn ++ replies_in (take n carry.entries)
  held : (node : ℕ) → holds core.jobs past carry.txn node ≡ holds core.jobs (past_of core) carry.txn node

replies_in-append : (entries : List Entry) (e : Entry) → replies_in (entries ++ e ∷ []) ≡ replies_in entries ++ e.reply ∷ []
replies_in-append [] e = refl
replies_in-append (x ∷ entries) e = ap (λ rs. x.reply ∷ rs) (replies_in-append entries e)

-- what the access of an entry finds, once the entries before it are done
pub record IsReady (core : CoreState) (carry : Carried) (n : ℕ) (e : Entry) (past : List Event) : Type 0 where
  pub next : next_step core.jobs past carry.txn ≡ Some (plan_step.Access e.number)
  pub listed : slice_get (list_of core.jobs carry.txn) e.number ≡ Some e.access
  pub value : ℤ
  pub known : known_at carry.known e.access.node ≡ Some value
  pub found : slice_get (run_records core.jobs core.opening past) e.access.node ≡ Some (value_after (take n carry.entries) e.access.node value)
  pub replied : e.reply ≡ reply_to e.access (run_records core.jobs core.opening past)

ready : (core : CoreState) (carry : Carried) → IsOf core carry → IsSound carry.known carry.entries → (n : ℕ) (e : Entry) → slice_get carry.entries n ≡ Some e → (past : List Event)
    → HasDone core carry n past → IsReady core carry n e past
ready core carry of sound n e at past done = grind (arith, get_or_from_slice_get)

record_next : (core : CoreState) (carry : Carried) (n : ℕ) (e : Entry) → slice_get carry.entries n ≡ Some e → (past : List Event) → HasDone core carry n past → IsReady core carry n e past
    → (node : ℕ) (value : ℤ) → known_at carry.known node ≡ Some value
    → slice_get (run_records core.jobs core.opening (Take carry.txn ∷ past)) node ≡ Some (value_after (take (suc n) carry.entries) node value)
record_next core carry n e at past done ready node value known =
    let records : List ℤ = run_records core.jobs core.opening past in
    let after : run_records core.jobs core.opening (Take carry.txn ∷ past) ≡ changed_by e.access records = accessed_records core.jobs core.opening past carry.txn e.number e.access ready.next ready.listed in
    let now : slice_get records node ≡ Some (value_after (take n carry.entries) node value) = done.records node value known in
    let old : ℤ = value_after (take n carry.entries) node value in
    let left : value_after (take (suc n) carry.entries) node value ≡ value_after (e ∷ []) node old =
    ap (λ (es : List Entry). value_after es node value) (take_next carry.entries n e at) ∙ value_after-append (take n carry.entries) e node value in
    ap (λ (rs : List ℤ). slice_get rs node) after ∙ elim (cases_eq e.access.node node) [
      | inl same ↦
          let read : record_at records e.access.node ≡ old = get_or_from_slice_get records e.access.node old _ (ap (λ (k : ℕ). slice_get records k) same ∙ now) in
          ap (λ (k : ℕ). slice_get (changed_by e.access records) k) (sym same)
          ∙ get_set_same records e.access.node (stored e.access.op (record_at records e.access.node)) (slice_get_within records e.access.node old (ap (λ (k : ℕ). slice_get records k) same ∙ now))
          ∙ ap (λ (v : ℤ). Some (stored e.access.op v)) read
          ∙ ap (λ (v : ℤ). Some v) (sym (left ∙ cond-true (eqb e.access.node node) (stored e.access.op old) old (eq-eqb e.access.node node same)))
      | inr other ↦ grind (arith, cond-false, get_set_other, ne_eqb)
    ]

-- and one entry more
done_next : (core : CoreState) (carry : Carried) (n : ℕ) (e : Entry) → slice_get carry.entries n ≡ Some e → (past : List Event) → HasDone core carry n past → IsReady core carry n e past
    → HasDone core carry (suc n) (Take carry.txn ∷ past)
done_next core carry n e at past done ready = record {
  at = omega (arith, done.at, steps_new past carry.txn carry.txn refl);
  records = λ node value known. record_next core carry n e at past done ready node value known;
  replies = accessed_replies core.jobs core.opening past carry.txn e.number e.access ready.next ready.listed
      ∙ ap (λ rs. rs ++ reply_to e.access (run_records core.jobs core.opening past) ∷ []) done.replies
      ∙ append_assoc (run_replies core.jobs core.opening (past_of core) carry.txn) (replies_in (take n carry.entries)) (reply_to e.access (run_records core.jobs core.opening past) ∷ [])
      ∙ ap (λ rs. run_replies core.jobs core.opening (past_of core) carry.txn ++ rs)
      (ap (λ (r : Reply). replies_in (take n carry.entries) ++ r ∷ []) (sym ready.replied) ∙ sym (replies_in-append (take n carry.entries) e) ∙ ap replies_in (sym (take_next carry.entries n e at)));
  held = λ node. holds_same core.jobs past carry.txn node (ap (locks node) ready.next) (ap (unlocks node) ready.next) carry.txn ∙ done.held node;
}

done_all : (core : CoreState) (carry : Carried) → IsOf core carry → IsSound carry.known carry.entries → (n : ℕ) → n ≤ length carry.entries → HasDone core carry n (taken n carry.txn (past_of core))
done_all core carry of sound zero le = grind (arith, append-nil)
done_all core carry of sound (suc n) le =
    let item = item_there carry.entries n (omega arith) in
    let before : HasDone core carry n (taken n carry.txn (past_of core)) = done_all core carry of sound n (omega arith) in
    done_next core carry n item.0 item.1 (taken n carry.txn (past_of core)) before (ready core carry of sound n item.0 item.1 (taken n carry.txn (past_of core)) before)

-- All entries are done

-- the core has taken all entries of a carry
pub record HasTaken (core : CoreState) (carry : Carried) (new : CoreState) : Type 0 where
  pub records : (node : ℕ) (value : ℤ) → present_at carry node ≡ Some value → slice_get (run_records core.jobs core.opening (past_of new)) node ≡ Some value
  pub replies : run_replies core.jobs core.opening (past_of new) carry.txn ≡ run_replies core.jobs core.opening (past_of core) carry.txn ++ replies_in carry.entries
  pub next : next_step core.jobs (past_of new) carry.txn ≡ slice_get (plan_of core.jobs carry.txn) (steps_done (past_of core) carry.txn + length carry.entries)
  pub held : (node : ℕ) → holds core.jobs (past_of new) carry.txn node ≡ holds core.jobs (past_of core) carry.txn node

-- after as many steps as there are entries it has
pub taken_all : (core new : CoreState) (carry : Carried) → IsOf core carry → IsSound carry.known carry.entries → new ≡ after_steps core carry.txn (length carry.entries) → HasTaken core carry new
taken_all core new carry of sound is =
    let n : ℕ = length carry.entries in
    let past : List Event = taken n carry.txn (past_of core) in
    let past_is : past_of new ≡ past = ap past_of is ∙ past_taken core.history n carry.txn in
    let done : HasDone core carry n past = done_all core carry of sound n (omega arith) in
    grind (arith, out_value, take-length)

-- and the carry, settled, is of the core then
is_some_present : (entries : List Entry) (node : ℕ) (o : Option ℤ) → is_some (present_from entries node o) ≡ is_some o
is_some_present entries node None = refl
is_some_present entries node (Some v) = refl

-- so the settled carry is of the new core
pub is_of_settled : (core new : CoreState) (carry : Carried) → IsOf core carry → IsSound carry.known carry.entries → new ≡ after_steps core carry.txn (length carry.entries) → IsOf new (carry_settled carry)
is_of_settled core new carry of sound is =
    let taken : HasTaken core carry new = taken_all core new carry of sound is in
    grind (arith, is_some_present, none-some, settled_at)

-- What the tests read

-- what holds of each item before a place and of the next one holds up to that
pub each_more : {A : Type 0} (P : ℕ → A → Type 0) (xs : List A) (n : ℕ) (x : A) → ((i : ℕ) (y : A) → i < n → slice_get xs i ≡ Some y → P i y) → slice_get xs n ≡ Some x → P n x
    → (i : ℕ) (y : A) → i < n + 1 → slice_get xs i ≡ Some y → P i y
each_more {A = A} P xs n x before at here i y lt read = grind (arith, cases_eq, same_Some)

-- what holds up to the end holds of each item
pub each_of : {A : Type 0} (P : ℕ → A → Type 0) (xs : List A) (n : ℕ) → length xs ≤ n → ((i : ℕ) (y : A) → i < n → slice_get xs i ≡ Some y → P i y)
    → (i : ℕ) (y : A) → slice_get xs i ≡ Some y → P i y
each_of P xs n all before i y read = let lt : i < length xs = slice_get_within xs i y read in before i y (omega arith) read

-- who holds a node tells whether a job does
pub holder_tells : (jobs : List Job) (past : List Event) (t node : ℕ) (holder : Option ℕ) → Owns jobs past node holder → is_owner holder t ≡ holds jobs past t node
holder_tells jobs past t node None owns = sym (owns t)
holder_tells jobs past t node (Some u) owns = grind (arith, cases_eq, eq-eqb, ne_eqb)

-- so many steps more leave what the core was opened with
pub batch_after : (core new : CoreState) (t n : ℕ) → new ≡ after_steps core t n → (new.tree ≡ core.tree) × (new.jobs ≡ core.jobs) × (new.opening ≡ core.opening)
batch_after core new t n is = (ap (λ (s : CoreState). s.tree) is, ap (λ (s : CoreState). s.jobs) is, ap (λ (s : CoreState). s.opening) is)

-- and bring the job on
pub next_after : (core new : CoreState) (t n : ℕ) → new ≡ after_steps core t n → next_step core.jobs (past_of new) t ≡ slice_get (plan_of core.jobs t) (steps_done (past_of core) t + n)
next_after core new t n is = grind (arith, past_taken, steps_taken)

-- what is read of a job
pub plan_read : (jobs seen : List Job) (t : ℕ) (job : Job) → seen ≡ jobs → t < length jobs → job ≡ get_or seen t job → job.plan ≡ plan_of jobs t
plan_read jobs seen t job same lt read = sym (plan_of_at jobs t job (read_at jobs t job lt (read ∙ ap (λ (js : List Job). get_or js t job) same)))

-- the list that is read is the job's
pub list_read : (jobs seen : List Job) (t : ℕ) (job : Job) → seen ≡ jobs → t < length jobs → job ≡ get_or seen t job → job.list ≡ list_of jobs t
list_read jobs seen t job same lt read = sym (list_of_at jobs t job (read_at jobs t job lt (read ∙ ap (λ (js : List Job). get_or js t job) same)))

-- entries that follow what is read follow the plan
pub follows_read : (list listed : List Access) (plan planned : List Step) (start begin : ℕ) (entries : List Entry) → list ≡ listed → plan ≡ planned → start ≡ begin
    → Follows list plan start entries → Follows listed planned begin entries
follows_read list listed plan planned start begin entries e f g follows =
    subst (λ (l : List Access). Follows l planned begin entries) e (subst (λ (p : List Step). Follows list p begin entries) f (subst (λ (k : ℕ). Follows list plan k entries) g follows))

-- a carry of the core passes the test of what it knows
pub knows_test : (core : CoreState) (carry : Carried) (t : ℕ) (known : List Known) → t ≡ carry.txn → known ≡ carry.known → AreApart carry.known → IsOf core carry → KnowsAll core t known
knows_test core carry t known e f apart of =
    subst (λ (k : ℕ). KnowsAll core k known) (sym e) (subst (λ (ks : List Known). KnowsAll core carry.txn ks) (sym f) (knows_of core carry apart of))

-- and the test of its entries
pub follows_test : (core : CoreState) (carry : Carried) (t : ℕ) (entries : List Entry) → t ≡ carry.txn → entries ≡ carry.entries → IsOf core carry
    → Follows (list_of core.jobs t) (plan_of core.jobs t) (steps_done (past_of core) t) entries
follows_test core carry t entries e f of = grind (arith, follows_of)

-- the entry that is read is the job's next step
pub entry_next : (core now : CoreState) (carry : Carried) (t n : ℕ) (e : Entry) (seen : List Entry) → Follows (list_of core.jobs t) (plan_of core.jobs t) (steps_done (past_of core) t) seen
    → t ≡ carry.txn → n < length seen → e ≡ get_or seen n e → now ≡ after_steps core carry.txn n → next_step now.jobs (past_of now) t ≡ Some (plan_step.Access e.number)
entry_next core now carry t n e seen follows txn lt read is =
    rw is (ap (λ (k : ℕ). slice_get (plan_of core.jobs t) k) (ap (λ (past : List Event). steps_done past t) (past_taken core.history n carry.txn) ∙ steps_taken n carry.txn t (past_of core) (sym txn))
    ∙ (follows n e (read_at seen n e lt read)).0)

-- all entries are done
pub steps_whole : (core new : CoreState) (carry : Carried) (n : ℕ) (seen : List Entry) → seen ≡ carry.entries → length seen ≤ n → n ≤ length seen → new ≡ after_steps core carry.txn n
    → new ≡ after_steps core carry.txn (length carry.entries)
steps_whole core new carry n seen all over under is = grind (arith)

-- the records are then the carry's present values
pub records_taken : (core new : CoreState) (carry : Carried) → IsOf core carry → IsSound carry.known carry.entries → new ≡ after_steps core carry.txn (length carry.entries)
    → (node : ℕ) (value : ℤ) → present_at carry node ≡ Some value → slice_get (records_of new) node ≡ Some value
records_taken core new carry of sound is node value at =
    ap (λ (js : List Job). slice_get (run_records js new.opening (past_of new)) node) (ap (λ (s : CoreState). s.jobs) is)
    ∙ ap (λ (os : List ℤ). slice_get (run_records core.jobs os (past_of new)) node) (ap (λ (s : CoreState). s.opening) is)
    ∙ (taken_all core new carry of sound is).records node value at

-- The waits after a round: the old ones, but for the nodes that some plan locks.
use Rattle.std.proofs.Common.{◌≡◌, ℕ, ◌+◌, ◌<◌, ◌≤◌, List, length, get_or, Some, refl, sym, ◌∙◌, ap, inl, inr, arith, get_or-set_same, get_or-set_other}
use Rattle.std.specs.Prelude.{All, slice_get, slice_set}
use Rattle.std.proofs.lemmas.Bool.{cases_eq}
use Rattle.std.proofs.lemmas.List.{ext_get_or, get_or-map}
use Rattle.std.proofs.lemmas.Option.{slice_get-get_or, same_Some}
use Rattle.grove_base.specs.Numbers.{numbers_below}
use Rattle.grove_tree.specs.Trees.{Rows}
use Rattle.grove_base.proofs.Counting.{numbers_length, numbers_got}
use Rattle.grove_base.proofs.Lists.{read_at}
use Rattle.grove_plan.specs.declared.step.Step.{Step}
use Rattle.grove_plan.specs.declared.step.Step.TheVariants.{Lock}
use Rattle.grove_core.specs.declared.job.Job.{Job}
use Rattle.grove_core.specs.declared.event.Event.{Event}
use Rattle.grove_core.specs.Runs.{plan_of, waits_of, AllLegal}
use Rattle.grove_core.proofs.Precedence.{within_jobs}
use Rattle.grove_core.proofs.RunBounds.{waited_locked}
use Rattle.grove_core.proofs.RunSteps.{plan_of_at}
use Rattle.grove_store.specs.Rounds.{waits_after}
use Rattle.grove_store.specs.Parts.{waits_at, AreOldOrNew}
use Rattle.grove_store.proofs.Telling.{mapped_long}

-- where nothing is written, all is old
pub all_old : (new : ℕ → ℕ) (waits : List ℕ) → AreOldOrNew new waits waits
all_old new waits node = inl refl

-- what is new stays so
pub new_stays : (new : ℕ → ℕ) (before after : List ℕ) (node : ℕ) → AreOldOrNew new before after → get_or before node 0 ≡ new node → get_or after node 0 ≡ new node
new_stays new before after node kept is = elim (kept node) [ inl old ↦ old ∙ is | inr there ↦ there ]

-- one writing after another
pub then_kept : (new : ℕ → ℕ) (waits before after : List ℕ) → AreOldOrNew new waits before → AreOldOrNew new before after → AreOldOrNew new waits after
then_kept new waits before after first second node = elim (first node) [
  | inl old ↦ elim (second node) [ inl same ↦ inl (same ∙ old) | inr there ↦ inr there ]
  | inr there ↦ inr (new_stays new before after node second there)
]

-- a node is written
pub written : (new : ℕ → ℕ) (waits : List ℕ) (node value : ℕ) → node < length waits → value ≡ new node
    → AreOldOrNew new waits (slice_set waits node value) × (get_or (slice_set waits node value) node 0 ≡ new node)
written new waits node value lt is = (
  λ other. elim (cases_eq node other) [
    | inl same ↦ inr (ap (λ (n : ℕ). get_or (slice_set waits node value) n 0) (sym same) ∙ get_or-set_same waits node value 0 lt ∙ is ∙ ap new same)
    | inr apart ↦ inl (get_or-set_other waits node other value 0 (λ e. apart (sym e)))
  ],
  get_or-set_same waits node value 0 lt ∙ is,
)

-- the nodes that the first steps lock have what is new of them
abbrev pub HasAdded : (ℕ → ℕ) → List Step → ℕ → List ℕ → Type 0
HasAdded new steps count waits = (place node : ℕ) → place < count → slice_get steps place ≡ Some (Lock node) → get_or waits node 0 ≡ new node

-- one step more, where a lock's node is written
pub added_more : (new : ℕ → ℕ) (steps : List Step) (count : ℕ) (step : Step) (before after : List ℕ) → slice_get steps count ≡ Some step → AreOldOrNew new before after
    → ((node : ℕ) → step ≡ Lock node → get_or after node 0 ≡ new node) → HasAdded new steps count before → HasAdded new steps (count + 1) after
added_more new steps count step before after read kept here so_far place node lt at = elim (cases_eq place count) [
  | inl same ↦ here node (same_Some step (Lock node) (sym read ∙ ap (λ (n : ℕ). slice_get steps n) (sym same) ∙ at))
  | inr other ↦ new_stays new before after node kept (so_far place node (omega arith) at)
]

-- a job's plan, as it is read
pub plan_read : (jobs seen : List Job) (t : ℕ) (job : Job) (steps : List Step) → seen ≡ jobs → t < length jobs → job ≡ get_or seen t job → steps ≡ (get_or seen t job).plan → steps ≡ plan_of jobs t
plan_read jobs seen t job steps same lt is are =
    let here : job ≡ get_or jobs t job = is ∙ ap (λ (js : List Job). get_or js t job) same in
    are ∙ ap (λ (j : Job). j.plan) (sym is) ∙ sym (plan_of_at jobs t job (read_at jobs t job lt here))

-- the node of a lock that is read there is one of the tree
lock_within : (rows : Rows) (jobs : List Job) → AllLegal rows jobs → (t : ℕ) → t < length jobs → (place node : ℕ) (steps : List Step) (step : Step) → steps ≡ plan_of jobs t
    → slice_get steps place ≡ Some step → step ≡ Lock node → node < length rows
lock_within rows jobs legal t lt place node steps step same read is =
    (legal t lt).obeys.locks_nodes place node (ap (λ (ss : List Step). slice_get ss place) (sym same) ∙ read ∙ ap (λ (s : Step). Some s) is)

-- so the node of a lock that is read in a job's plan is one of the tree
pub locked_within : (rows : Rows) (jobs seen : List Job) → AllLegal rows jobs → (t : ℕ) (job : Job) (steps : List Step) → seen ≡ jobs → t < length jobs → job ≡ get_or seen t job → steps ≡ (get_or seen t job).plan
    → (place node : ℕ) (step : Step) → slice_get steps place ≡ Some step → step ≡ Lock node → node < length rows
locked_within rows jobs seen legal t job steps same lt is are place node step read lock =
    lock_within rows jobs legal t lt place node steps step (plan_read jobs seen t job steps same lt is are) read lock

-- the nodes that the plans of the first jobs lock have what is new of them
abbrev pub HaveAdded : (ℕ → ℕ) → List Job → ℕ → List ℕ → Type 0
HaveAdded new jobs count waits = (t place node : ℕ) → t < count → slice_get (plan_of jobs t) place ≡ Some (Lock node) → get_or waits node 0 ≡ new node

-- what comes of the loops: where no waits are more than 1,000
module _ (jobs : List Job) (past : List Event) (waits : List ℕ) (few : All (λ n. n ≤ 1000) waits) where
  -- the new waits of a node, as they are read
  after_at : (node : ℕ) → node < length waits → get_or (waits_after jobs past waits) node 0 ≡ waits_at jobs past waits node
  after_at node lt =
      let numbers : List ℕ = numbers_below (length waits) in
      let within : node < length numbers = let e : length numbers ≡ length waits = numbers_length (length waits) in omega arith in
      get_or-map (waits_at jobs past waits) numbers node 0 0 within
      ∙ ap (waits_at jobs past waits) (numbers_got (length waits) node (get_or numbers node 0) (slice_get-get_or numbers node 0 within)).0

  -- a node that was never waited for has its old waits
  unwaited : (node : ℕ) → node < length waits → waits_of jobs past node ≡ 0 → get_or waits node 0 ≡ waits_at jobs past waits node
  unwaited node lt none = let le : get_or waits node 0 ≤ 1000 = few node 0 lt in omega arith

  -- so once each node that some plan locks has its new waits, all have
  pub all_after : (all : List ℕ) → length all ≡ length waits → AreOldOrNew (waits_at jobs past waits) waits all
      → HaveAdded (waits_at jobs past waits) jobs (length jobs) all → all ≡ waits_after jobs past waits
  all_after all long kept added =
      let size : length (waits_after jobs past waits) ≡ length waits = mapped_long (waits_at jobs past waits) (length waits) in
      ext_get_or 0 all (waits_after jobs past waits) (omega arith) (λ node lt.
      let within : node < length waits = omega arith in
      elim (waited_locked jobs past node) [
        | inl none ↦ elim (kept node) [ inl old ↦ old ∙ unwaited node within none | inr there ↦ there ]
        | inr lock ↦ added lock.0 lock.1 node (within_jobs jobs lock.0 lock.1 (Lock node) lock.2) lock.2
      ] ∙ sym (after_at node within))

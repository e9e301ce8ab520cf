-- What is begun: lines that are answered, or jobs that are left to do.
use Rattle.std.proofs.Common.{◌≡◌, ℕ, ◌-◌, ◌^◌, ◌<◌, ◌≤◌, List, length, sum, sym, ◌∙◌, ap, subst, arith}
use Rattle.std.proofs.lemmas.List.{length-map}
use Rattle.grove_access.specs.declared.access.Access.{Access}
use Rattle.grove_core.specs.declared.job.Job.{Job}
use Rattle.grove_build.specs.SettledJobs.{AreSettledJobs}
use Rattle.grove_build.proofs.SettledJobs.{settled_legal}
use Rattle.grove_store.specs.StoreStates.{StoreState}
use Rattle.grove_store.specs.declared.begun.Begun.{Begun}
use Rattle.grove_store.specs.declared.begun.Begun.TheVariants.{Answered, Jobs}
use Rattle.grove_store.specs.Parts.{AnswersJobs, AnswersRound, RunsJobs, IsLeft, Begins, BeginsRun}

-- the jobs of a round's lists are left to do
pub jobs_left : (before : StoreState) (lists : List (List Access)) (jobs : List Job) (counts : List ℕ)
    → before.rounds < 2 ^ 64 - 1 → sum counts ≡ length lists → length lists ≤ 256
    → AreSettledJobs before.rows lists jobs → IsLeft (AnswersRound before lists counts) before jobs counts
jobs_left before lists jobs counts room counted few settled =
    let long : length jobs ≡ length lists = sym (length-map jobs (λ job. job.list)) ∙ ap length settled.over in record {
      room = room;
      counted = counted ∙ sym long;
      few = omega (arith, few, long);
      legal = settled_legal before.rows lists jobs settled;
      answers = λ replies after doing. doing lists settled;
    }

-- what is begun for one thing is begun for what follows from that
pub begins_for : (Answers More : List (List ℕ) → StoreState → Type 0) (before : StoreState) (begun : Begun)
    (after : StoreState) → ((replies : List (List ℕ)) (left : StoreState) → More replies left → Answers replies left)
    → Begins More before begun after → Begins Answers before begun after
begins_for Answers More before (Answered replies) after follows answers = follows replies.items after answers
begins_for Answers More before (Jobs jobs counts) after follows (left, same) = (
  record {
    room = left.room;
    counted = left.counted;
    few = left.few;
    legal = left.legal;
    answers = λ replies done doing. follows replies done (left.answers replies done doing);
  },
  same,
)

-- jobs that were left to do are done, as they are lent for that
pub left_done : (Answers : List (List ℕ) → StoreState → Type 0) (before left : StoreState) (jobs lent : List Job)
    (counts lent_counts : List ℕ) (replies : List (List ℕ)) (after : StoreState)
    → IsLeft Answers before jobs counts × (left ≡ before) → lent ≡ jobs → lent_counts ≡ counts
    → AnswersJobs left lent lent_counts replies after → Answers replies after
left_done Answers before left jobs lent counts lent_counts replies after (is_left, same) same_jobs same_counts doing =
    is_left.answers replies after (subst (λ (store : StoreState). AnswersJobs store jobs counts replies after) same
    (subst (λ (ns : List ℕ). AnswersJobs left jobs ns replies after) same_counts
    (subst (λ (js : List Job). AnswersJobs left js lent_counts replies after) same_jobs doing)))

-- what is begun to be run for one thing is begun for what follows from that
pub runs_for : (Runs More : List (List ℕ) → StoreState → Type 0) (before : StoreState) (begun : Begun)
    (after : StoreState) → ((replies : List (List ℕ)) (left : StoreState) → More replies left → Runs replies left)
    → BeginsRun More before begun after → BeginsRun Runs before begun after
runs_for Runs More before (Answered replies) after follows runs = follows replies.items after runs
runs_for Runs More before (Jobs jobs counts) after follows runs =
    λ replies left doing. follows replies left (runs replies left doing)

-- jobs that were left to do are run, as they are lent for that
pub left_run : (Runs : List (List ℕ) → StoreState → Type 0) (before left : StoreState) (jobs lent : List Job)
    (counts lent_counts : List ℕ) (replies : List (List ℕ)) (after : StoreState)
    → ((replies : List (List ℕ)) (after : StoreState) → RunsJobs before jobs counts replies after → Runs replies after)
    → left ≡ before → lent ≡ jobs → lent_counts ≡ counts
    → RunsJobs left lent lent_counts replies after → Runs replies after
left_run Runs before left jobs lent counts lent_counts replies after runs same same_jobs same_counts doing =
    runs replies after (subst (λ (store : StoreState). RunsJobs store jobs counts replies after) same
    (subst (λ (ns : List ℕ). RunsJobs left jobs ns replies after) same_counts
    (subst (λ (js : List Job). RunsJobs left js lent_counts replies after) same_jobs doing)))

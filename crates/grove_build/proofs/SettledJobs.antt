-- Jobs of lists with their settled plans.
use Rattle.std.proofs.Common.{◌≡◌, ℕ, zero, suc, List, [], ◌∷◌, map, Some, refl, sym, subst, arith}
use Rattle.std.specs.Prelude.{zip, slice_get}
use Rattle.std.specs.List.{AllZip}
use Rattle.std.proofs.lemmas.Option.{none-some, same_Some}
use Rattle.grove_tree.specs.Trees.{Rows}
use Rattle.grove_access.specs.declared.access.Access.{Access}
use Rattle.grove_access.specs.Lists.{nodes_of, lengths_of}
use Rattle.grove_plan.specs.declared.step.Step.{Step}
use Rattle.grove_build.specs.Settled.{IsSettled}
use Rattle.grove_core.specs.declared.job.Job.{Job}
use Rattle.grove_core.specs.Runs.{AllLegal}
use Rattle.grove_build.specs.SettledJobs.{AreSettledJobs}

-- the settled plan of a list
abbrev pub IsSettledFor : Rows → List Access → List Step → Type 0
IsSettledFor rows list plan = IsSettled rows (nodes_of list) (lengths_of list) plan

abbrev job_with : List Access × List Step → Job
job_with pair = record { list = pair.0; plan = pair.1 }

over_lists : (rows : Rows) (lists : List (List Access)) (plans : List (List Step))
    → AllZip (IsSettledFor rows) lists plans → map (λ job. job.list) (map job_with (zip lists plans)) ≡ lists
over_lists rows [] plans all = refl
over_lists rows (list ∷ lists) [] all = absurd all
over_lists rows (list ∷ lists) (plan ∷ plans) all = grind (arith, over_lists rows lists plans all.1)

each_settled : (rows : Rows) (lists : List (List Access)) (plans : List (List Step))
    → AllZip (IsSettledFor rows) lists plans → (t : ℕ) (job : Job)
    → slice_get (map job_with (zip lists plans)) t ≡ Some job
    → IsSettled rows (nodes_of job.list) (lengths_of job.list) job.plan
each_settled rows [] plans all t job at = absurd (none-some job at)
each_settled rows (list ∷ lists) [] all t job at = absurd all
each_settled rows (list ∷ lists) (plan ∷ plans) all zero job at = grind (arith, same_Some)
each_settled rows (list ∷ lists) (plan ∷ plans) all (suc t) job at = each_settled rows lists plans all.1 t job at

-- lists and what is planned for each
pub settled_are : (rows : Rows) (lists : List (List Access)) (plans : List (List Step)) (jobs : List Job)
    → AllZip (IsSettledFor rows) lists plans → jobs ≡ map job_with (zip lists plans) → AreSettledJobs rows lists jobs
settled_are rows lists plans jobs all is = subst (λ (js : List Job). AreSettledJobs rows lists js) (sym is)
    (record { over = over_lists rows lists plans all; settled = each_settled rows lists plans all })

each_legal : (rows : Rows) (jobs : List Job) → ((t : ℕ) (job : Job) → slice_get jobs t ≡ Some job
    → IsSettled rows (nodes_of job.list) (lengths_of job.list) job.plan) → AllLegal rows jobs
each_legal rows [] settled t lt = absurd (omega arith)
each_legal rows (job ∷ jobs) settled zero lt = (settled 0 job refl).least.legal
each_legal rows (job ∷ jobs) settled (suc t) lt = each_legal rows jobs (λ u j at. settled (suc u) j at) t (omega arith)

-- their plans are legal
pub settled_legal : (rows : Rows) (lists : List (List Access)) (jobs : List Job) → AreSettledJobs rows lists jobs
    → AllLegal rows jobs
settled_legal rows lists jobs settled = each_legal rows jobs settled.settled

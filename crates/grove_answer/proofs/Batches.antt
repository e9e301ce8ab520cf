-- Jobs of a batch, its lists with their settled plans: why a run of them fails, and what it says.
use Rattle.std.proofs.Common.{◌≡◌, ◌∙◌, true, false, ℕ, ℤ, List, length, inl, inr, sym, ap, IfSome}
use Rattle.std.proofs.lemmas.List.{length-map}
use Rattle.grove_tree.specs.Trees.{Rows}
use Rattle.grove_access.specs.declared.access.Access.{Access}
use Rattle.grove_access.specs.declared.reply.Reply.{Reply}
use Rattle.grove_core.specs.declared.job.Job.{Job}
use Rattle.grove_core.specs.declared.run_fault.RunFault.{RunFault}
use Rattle.grove_core.specs.declared.run_fault.RunFault.TheVariants.{BadPlan, Memory, Foreign, Unfinished}
use Rattle.grove_run.specs.Runs.{IsLegalRunFault}
use Rattle.grove_build.specs.SettledJobs.{AreSettledJobs}
use Rattle.grove_wire.specs.declared.faults.Fault.TheVariants.{Run}
use Rattle.grove_wire.specs.Texts.{RunFaultFits}
use Rattle.grove_answer.specs.declared.refusal.Refusal.{Refusal}
use Rattle.grove_answer.specs.declared.refusal.Refusal.TheVariants as refusal
use Rattle.grove_answer.specs.Outcomes.{IsRunBatch, batch_lines}
use Rattle.grove_answer.specs.Faults.{IsToldFault}
use Rattle.grove_answer.specs.Says.{refusal_outcome}

-- there are as many jobs as lists
pub jobs_long : (tree : Rows) (lists : List (List Access)) (jobs : List Job) → AreSettledJobs tree lists jobs → length jobs ≡ length lists
jobs_long tree lists jobs settled = sym (length-map jobs (λ (job : Job). job.list)) ∙ ap length settled.over

-- a run's fault, as it can be of legal plans, fits the tree
pub run_fault_fits : (tree : Rows) (fault : RunFault) → IsLegalRunFault fault → RunFaultFits tree fault
run_fault_fits tree (BadPlan t fault) legal = absurd legal
run_fault_fits tree Memory legal = tt
run_fault_fits tree Foreign legal = tt
run_fault_fits tree Unfinished legal = tt

-- a refusal tells such a fault
pub says_run_fault : (tree : Rows) (records : List ℤ) (lists : List (List Access)) (fault : RunFault) (why : Refusal)
    → IsLegalRunFault fault → IsToldFault tree (Run fault) why
    → IfSome (refusal_outcome why) (IsRunBatch (tree, records, lists))
says_run_fault tree records lists fault refusal.Memory legal told = tt
says_run_fault tree records lists (BadPlan t fault) (refusal.Fault said text) legal told = absurd legal
says_run_fault tree records lists Memory (refusal.Fault said text) legal told = let never : true ≡ false =
    told.2 in absurd (cc)
says_run_fault tree records lists Foreign (refusal.Fault said text) legal told = inl told.1
says_run_fault tree records lists Unfinished (refusal.Fault said text) legal told = inr told.1

-- lines of the same parts are the same
pub same_lines : {order order' : List ℕ} {replies replies' : List (List Reply)} {records records' : List ℤ} {waits waits' : List ℕ}
    → order ≡ order' → replies ≡ replies' → records ≡ records' → waits ≡ waits' → batch_lines order replies records waits ≡ batch_lines order' replies' records' waits'
same_lines {order} {order'} {replies} {replies'} {records} {records'} {waits} {waits'} o r n w =
    ap (λ x. batch_lines x replies records waits) o ∙ ap (λ x. batch_lines order' x records waits) r
    ∙ ap (λ x. batch_lines order' replies' x waits) n ∙ ap (batch_lines order' replies' records') w

-- What is told of steps and rows that are checked or judged.
use Rattle.std.proofs.Common.{◌≡◌, ℕ, ◌⊎◌, List, Some, refl, inl, inr, arith}
use Rattle.std.specs.Prelude.{◌≢◌}
use Rattle.grove_tree.specs.Trees.{Rows}
use Rattle.grove_access.specs.declared.fault.ListFault.{ListFault}
use Rattle.grove_access.specs.declared.fault.ListFault.TheVariants as list
use Rattle.grove_plan.specs.declared.fault.PlanFault.{PlanFault}
use Rattle.grove_plan.specs.declared.fault.PlanFault.TheVariants as plan
use Rattle.grove_plan.specs.declared.step.Step.{Step}
use Rattle.grove_plan.specs.Faults.{plan_fault_of}
use Rattle.grove_proof.specs.declared.fault.ProofFault.{ProofFault}
use Rattle.grove_proof.specs.declared.fault.ProofFault.TheVariants as proof
use Rattle.grove_proof.specs.declared.flow.FlowRow.{FlowRow}
use Rattle.grove_proof.specs.Faults.{IsFault}
use Rattle.grove_nodes.specs.declared.checked.Checked.{Checked}
use Rattle.grove_nodes.specs.declared.status.Status.{Status}
use Rattle.grove_nodes.specs.declared.status.Status.TheVariants as status
use Rattle.grove_nodes.specs.Checking.{Checks, Judges, ListRefused}
use Rattle.grove_nodes.specs.Faults.{list_told, plan_told, proof_told}
use Rattle.grove_nodes.specs.Lists.{IsListFault}
use Rattle.grove_nodes.specs.Telling.{ChecksList, JudgesList, list_status, plan_status, proof_status}

-- a fault is out of memory, or else a refusal

list_or : (fault : ListFault) → (fault ≡ list.Memory) ⊎ ((fault ≢ list.Memory) × (list_status fault ≡ status.Refused))
list_or list.Memory = inl refl
list_or list.TooLong = inr (λ e. absurd (cc), refl)
list_or (list.NoNode place) = inr (λ e. absurd (cc), refl)
list_or (list.BadLength place) = inr (λ e. absurd (cc), refl)

plan_or : (fault : PlanFault) → (fault ≡ plan.Memory) ⊎ ((fault ≢ plan.Memory) × (plan_status fault ≡ status.Refused))
plan_or plan.Memory = inl refl
plan_or (plan.Strange step) = inr (λ e. absurd (cc), refl)
plan_or (plan.Relock step) = inr (λ e. absurd (cc), refl)
plan_or (plan.ParentNotHeld step) = inr (λ e. absurd (cc), refl)
plan_or (plan.NotHeld step) = inr (λ e. absurd (cc), refl)
plan_or (plan.WrongAccess step) = inr (λ e. absurd (cc), refl)
plan_or (plan.AccessNotHeld step) = inr (λ e. absurd (cc), refl)
plan_or (plan.AccessMissing access) = inr (λ e. absurd (cc), refl)
plan_or (plan.StillHeld node) = inr (λ e. absurd (cc), refl)

module _ (rows : Rows) (nodes lengths : List ℕ) where
  refusal : (fault : ListFault) → fault ≢ list.Memory → IsListFault rows nodes lengths fault
      → ListRefused rows nodes lengths (list_told fault)
  refusal fault some is = (fault, some, is, refl)

  -- there is no list to check
  pub list_unchecked : (plan : List Step) (flow : List FlowRow) (fault : ListFault)
      → IsListFault rows nodes lengths fault → Checks rows nodes lengths plan flow (list_told fault) (list_status fault)
  list_unchecked plan flow fault is = grind (arith, list_or, refusal)

  pub list_unjudged : (plan : List Step) (fault : ListFault) → IsListFault rows nodes lengths fault
      → Judges rows nodes lengths plan (list_told fault) (list_status fault)
  list_unjudged plan fault is = grind (arith, list_or, refusal)

  -- a list is checked, or judged
  pub list_checked : (plan : List Step) (flow : List FlowRow) (checked : Checked) (ended : Status)
      → ChecksList rows nodes lengths plan flow checked ended → Checks rows nodes lengths plan flow checked ended
  list_checked plan flow checked status.Done is = is
  list_checked plan flow checked status.Refused is = inr is
  list_checked plan flow checked status.Memory is = is
  list_checked plan flow checked status.Room is = is
  list_checked plan flow checked status.Closed is = is

  pub list_judged : (plan : List Step) (checked : Checked) (ended : Status)
      → JudgesList rows nodes lengths plan checked ended → Judges rows nodes lengths plan checked ended
  list_judged plan checked status.Done is = is
  list_judged plan checked status.Refused is = inr is
  list_judged plan checked status.Memory is = is
  list_judged plan checked status.Room is = is
  list_judged plan checked status.Closed is = is

  -- a plan has a fault
  pub plan_unjudged : (steps : List Step) (fault : PlanFault)
      → (fault ≢ plan.Memory → plan_fault_of rows nodes steps ≡ Some fault)
      → JudgesList rows nodes lengths steps (plan_told fault) (plan_status fault)
  plan_unjudged steps fault is = grind (arith, plan_or)

  plan_unchecked : (steps : List Step) (flow : List FlowRow) (fault : PlanFault)
      → IsFault rows nodes lengths steps flow (proof.Plan fault)
      → ChecksList rows nodes lengths steps flow (plan_told fault) (plan_status fault)
  plan_unchecked steps flow fault is = elim (plan_or fault) [
    | inl e ↦ rw e refl
    | inr (some, ended) ↦ rw ended (proof.Plan fault, (λ e. absurd (cc)), is, refl)
  ]

  fault_unchecked : (steps : List Step) (flow : List FlowRow) (fault : ProofFault) → fault ≢ proof.Memory
      → proof_status fault ≡ status.Refused → IsFault rows nodes lengths steps flow fault
      → ChecksList rows nodes lengths steps flow (proof_told fault) (proof_status fault)
  fault_unchecked steps flow fault some ended is = rw ended (fault, some, is, refl)

  -- or with its flow
  pub proof_unchecked : (steps : List Step) (flow : List FlowRow) (fault : ProofFault)
      → (fault ≢ proof.Memory → IsFault rows nodes lengths steps flow fault)
      → ChecksList rows nodes lengths steps flow (proof_told fault) (proof_status fault)
  proof_unchecked steps flow proof.Memory is = refl
  proof_unchecked steps flow (proof.Plan fault) is = plan_unchecked steps flow fault (is (λ e. absurd (cc)))
  proof_unchecked steps flow (proof.Rows row) is = fault_unchecked steps flow (proof.Rows row) (λ e. absurd (cc)) refl
      (is (λ e. absurd (cc)))
  proof_unchecked steps flow (proof.Sign row) is = fault_unchecked steps flow (proof.Sign row) (λ e. absurd (cc)) refl
      (is (λ e. absurd (cc)))
  proof_unchecked steps flow (proof.TooBig row) is = fault_unchecked steps flow (proof.TooBig row) (λ e. absurd (cc))
      refl (is (λ e. absurd (cc)))
  proof_unchecked steps flow (proof.LockBalance row) is =
      fault_unchecked steps flow (proof.LockBalance row) (λ e. absurd (cc)) refl (is (λ e. absurd (cc)))
  proof_unchecked steps flow (proof.ReleaseBalance row) is =
      fault_unchecked steps flow (proof.ReleaseBalance row) (λ e. absurd (cc)) refl (is (λ e. absurd (cc)))
  proof_unchecked steps flow (proof.Value cost bound) is =
      fault_unchecked steps flow (proof.Value cost bound) (λ e. absurd (cc)) refl (is (λ e. absurd (cc)))

  -- so of steps and rows that are made of others
  pub proposal_unchecked : (made steps : List Step) (made_flow flow : List FlowRow) (fault : ProofFault)
      (checked : Checked)
      (ended : Status) → made ≡ steps → made_flow ≡ flow → checked ≡ proof_told fault → ended ≡ proof_status fault
      → (fault ≢ proof.Memory → IsFault rows nodes lengths made made_flow fault)
      → ChecksList rows nodes lengths steps flow checked ended
  proposal_unchecked made steps made_flow flow fault checked ended same same_flow told told_so is =
      grind (arith, proof_unchecked)

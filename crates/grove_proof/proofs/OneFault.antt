-- A plan with a flow has one first fault alone, and none where the flow certifies it.
use Rattle.std.proofs.Common.{◌≡◌, ◌≢◌, ℕ, Bool, List, Some, refl, sym, ◌∙◌, ap, subst, arith}
use Rattle.std.specs.Prelude.{map}
use Rattle.std.proofs.lemmas.Option.{none-some, same_Some}
use Rattle.std.proofs.lemmas.Bool.{cases_order, both_ways}
use Rattle.grove_tree.specs.Trees.{Rows}
use Rattle.grove_plan.specs.declared.step.Step.{Step}
use Rattle.grove_plan.specs.declared.fault.PlanFault.{PlanFault}
use Rattle.grove_plan.specs.Plans.{IsLegal, cost}
use Rattle.grove_plan.specs.Faults.{plan_fault_of}
use Rattle.grove_plan.proofs.FaultlessIsLegal.{legal_faultless}
use Rattle.grove_proof.specs.declared.flow.FlowRow.{FlowRow}
use Rattle.grove_proof.specs.declared.fault.ProofFault.{ProofFault}
use Rattle.grove_proof.specs.declared.fault.ProofFault.TheVariants as fault
use Rattle.grove_proof.specs.Flows.{node_of, is_sign_ok, is_small, is_lock_balanced, is_release_balanced, IsCertificate}
use Rattle.grove_proof.specs.Faults.{IsFirstDifference, IsFirstStranger, IsFirstBad, IsFault}
use Rattle.grove_proof.specs.FaultLaws.{FaultIsOne, CertifiedIsFaultless}
use Rattle.grove_proof.proofs.ForcedList.{forced_lists_same}
use Rattle.grove_proof.proofs.Verdicts.{bad_refutes, stranger_refutes, fault_refutes}

-- a plan with a fault isn't legal
plan_refutes : (rows : Rows) (nodes : List ℕ) (plan : List Step) (f : PlanFault) → plan_fault_of rows nodes plan ≡ Some f → IsLegal rows nodes plan → ⊥
plan_refutes rows nodes plan f is legal = none-some f (sym (legal_faultless rows nodes plan legal) ∙ is)

-- two lists differ first at one place
difference_is_one : (xs ys : List ℕ) (i j : ℕ) → IsFirstDifference xs ys i → IsFirstDifference xs ys j → i ≡ j
difference_is_one xs ys i j one other = grind (arith, cases_order)

stranger_is_one : (rows : Rows) (nodes : List ℕ) (flow : List FlowRow) (i j : ℕ) → IsFirstStranger rows nodes flow i → IsFirstStranger rows nodes flow j → i ≡ j
stranger_is_one rows nodes flow i j one other =
    let same : one.0 ≡ other.0 = forced_lists_same rows nodes one.0 other.0 one.1 other.1 in
    difference_is_one (map node_of flow) other.0 i j (subst (λ (xs : List ℕ). IsFirstDifference (map node_of flow) xs i) same one.2) other.2

-- one row is the first that fails a test
bad_is_one : (test : FlowRow → Bool) (flow : List FlowRow) (i j : ℕ) → IsFirstBad test flow i → IsFirstBad test flow j → i ≡ j
bad_is_one test flow i j one other = grind (arith, both_ways, cases_order)

-- Of two faults the later one says that what the earlier one blames has passed.
pub fault_is_one : FaultIsOne
fault_is_one rows nodes lengths plan flow (fault.Plan x) (fault.Plan y) ne_one ne_other is also = ap fault.Plan (same_Some x y (sym is ∙ also))
fault_is_one rows nodes lengths plan flow (fault.Plan x) (fault.Rows y) ne_one ne_other is also = absurd (plan_refutes rows nodes plan x is also.0)
fault_is_one rows nodes lengths plan flow (fault.Plan x) (fault.Sign y) ne_one ne_other is also = absurd (plan_refutes rows nodes plan x is also.0.0)
fault_is_one rows nodes lengths plan flow (fault.Plan x) (fault.TooBig y) ne_one ne_other is also = absurd (plan_refutes rows nodes plan x is also.0.0.0)
fault_is_one rows nodes lengths plan flow (fault.Plan x) (fault.LockBalance y) ne_one ne_other is also = absurd (plan_refutes rows nodes plan x is also.0.0.0.0)
fault_is_one rows nodes lengths plan flow (fault.Plan x) (fault.ReleaseBalance y) ne_one ne_other is also = absurd (plan_refutes rows nodes plan x is also.0.0.0.0.0)
fault_is_one rows nodes lengths plan flow (fault.Plan x) (fault.Value y y_bound) ne_one ne_other is also = absurd (plan_refutes rows nodes plan x is also.0.0.0.0.0.0)
fault_is_one rows nodes lengths plan flow (fault.Plan x) fault.Memory ne_one ne_other is also = absurd (ne_other refl)
fault_is_one rows nodes lengths plan flow (fault.Rows x) (fault.Plan y) ne_one ne_other is also = absurd (plan_refutes rows nodes plan y also is.0)
fault_is_one rows nodes lengths plan flow (fault.Rows x) (fault.Rows y) ne_one ne_other is also = ap fault.Rows (stranger_is_one rows nodes flow x y is.1 also.1)
fault_is_one rows nodes lengths plan flow (fault.Rows x) (fault.Sign y) ne_one ne_other is also = absurd (stranger_refutes rows nodes flow x is.1 also.0.1)
fault_is_one rows nodes lengths plan flow (fault.Rows x) (fault.TooBig y) ne_one ne_other is also = absurd (stranger_refutes rows nodes flow x is.1 also.0.0.1)
fault_is_one rows nodes lengths plan flow (fault.Rows x) (fault.LockBalance y) ne_one ne_other is also = absurd (stranger_refutes rows nodes flow x is.1 also.0.0.0.1)
fault_is_one rows nodes lengths plan flow (fault.Rows x) (fault.ReleaseBalance y) ne_one ne_other is also = absurd (stranger_refutes rows nodes flow x is.1 also.0.0.0.0.1)
fault_is_one rows nodes lengths plan flow (fault.Rows x) (fault.Value y y_bound) ne_one ne_other is also = absurd (stranger_refutes rows nodes flow x is.1 also.0.0.0.0.0.1)
fault_is_one rows nodes lengths plan flow (fault.Rows x) fault.Memory ne_one ne_other is also = absurd (ne_other refl)
fault_is_one rows nodes lengths plan flow (fault.Sign x) (fault.Plan y) ne_one ne_other is also = absurd (plan_refutes rows nodes plan y also is.0.0)
fault_is_one rows nodes lengths plan flow (fault.Sign x) (fault.Rows y) ne_one ne_other is also = absurd (stranger_refutes rows nodes flow y also.1 is.0.1)
fault_is_one rows nodes lengths plan flow (fault.Sign x) (fault.Sign y) ne_one ne_other is also = ap fault.Sign (bad_is_one (is_sign_ok rows nodes flow) flow x y is.1 also.1)
fault_is_one rows nodes lengths plan flow (fault.Sign x) (fault.TooBig y) ne_one ne_other is also = absurd (bad_refutes (is_sign_ok rows nodes flow) flow x is.1 also.0.1)
fault_is_one rows nodes lengths plan flow (fault.Sign x) (fault.LockBalance y) ne_one ne_other is also = absurd (bad_refutes (is_sign_ok rows nodes flow) flow x is.1 also.0.0.1)
fault_is_one rows nodes lengths plan flow (fault.Sign x) (fault.ReleaseBalance y) ne_one ne_other is also = absurd (bad_refutes (is_sign_ok rows nodes flow) flow x is.1 also.0.0.0.1)
fault_is_one rows nodes lengths plan flow (fault.Sign x) (fault.Value y y_bound) ne_one ne_other is also = absurd (bad_refutes (is_sign_ok rows nodes flow) flow x is.1 also.0.0.0.0.1)
fault_is_one rows nodes lengths plan flow (fault.Sign x) fault.Memory ne_one ne_other is also = absurd (ne_other refl)
fault_is_one rows nodes lengths plan flow (fault.TooBig x) (fault.Plan y) ne_one ne_other is also = absurd (plan_refutes rows nodes plan y also is.0.0.0)
fault_is_one rows nodes lengths plan flow (fault.TooBig x) (fault.Rows y) ne_one ne_other is also = absurd (stranger_refutes rows nodes flow y also.1 is.0.0.1)
fault_is_one rows nodes lengths plan flow (fault.TooBig x) (fault.Sign y) ne_one ne_other is also = absurd (bad_refutes (is_sign_ok rows nodes flow) flow y also.1 is.0.1)
fault_is_one rows nodes lengths plan flow (fault.TooBig x) (fault.TooBig y) ne_one ne_other is also = ap fault.TooBig (bad_is_one is_small flow x y is.1 also.1)
fault_is_one rows nodes lengths plan flow (fault.TooBig x) (fault.LockBalance y) ne_one ne_other is also = absurd (bad_refutes is_small flow x is.1 also.0.1)
fault_is_one rows nodes lengths plan flow (fault.TooBig x) (fault.ReleaseBalance y) ne_one ne_other is also = absurd (bad_refutes is_small flow x is.1 also.0.0.1)
fault_is_one rows nodes lengths plan flow (fault.TooBig x) (fault.Value y y_bound) ne_one ne_other is also = absurd (bad_refutes is_small flow x is.1 also.0.0.0.1)
fault_is_one rows nodes lengths plan flow (fault.TooBig x) fault.Memory ne_one ne_other is also = absurd (ne_other refl)
fault_is_one rows nodes lengths plan flow (fault.LockBalance x) (fault.Plan y) ne_one ne_other is also = absurd (plan_refutes rows nodes plan y also is.0.0.0.0)
fault_is_one rows nodes lengths plan flow (fault.LockBalance x) (fault.Rows y) ne_one ne_other is also = absurd (stranger_refutes rows nodes flow y also.1 is.0.0.0.1)
fault_is_one rows nodes lengths plan flow (fault.LockBalance x) (fault.Sign y) ne_one ne_other is also = absurd (bad_refutes (is_sign_ok rows nodes flow) flow y also.1 is.0.0.1)
fault_is_one rows nodes lengths plan flow (fault.LockBalance x) (fault.TooBig y) ne_one ne_other is also = absurd (bad_refutes is_small flow y also.1 is.0.1)
fault_is_one rows nodes lengths plan flow (fault.LockBalance x) (fault.LockBalance y) ne_one ne_other is also = ap fault.LockBalance (bad_is_one (is_lock_balanced rows flow) flow x y is.1 also.1)
fault_is_one rows nodes lengths plan flow (fault.LockBalance x) (fault.ReleaseBalance y) ne_one ne_other is also = absurd (bad_refutes (is_lock_balanced rows flow) flow x is.1 also.0.1)
fault_is_one rows nodes lengths plan flow (fault.LockBalance x) (fault.Value y y_bound) ne_one ne_other is also = absurd (bad_refutes (is_lock_balanced rows flow) flow x is.1 also.0.0.1)
fault_is_one rows nodes lengths plan flow (fault.LockBalance x) fault.Memory ne_one ne_other is also = absurd (ne_other refl)
fault_is_one rows nodes lengths plan flow (fault.ReleaseBalance x) (fault.Plan y) ne_one ne_other is also = absurd (plan_refutes rows nodes plan y also is.0.0.0.0.0)
fault_is_one rows nodes lengths plan flow (fault.ReleaseBalance x) (fault.Rows y) ne_one ne_other is also = absurd (stranger_refutes rows nodes flow y also.1 is.0.0.0.0.1)
fault_is_one rows nodes lengths plan flow (fault.ReleaseBalance x) (fault.Sign y) ne_one ne_other is also = absurd (bad_refutes (is_sign_ok rows nodes flow) flow y also.1 is.0.0.0.1)
fault_is_one rows nodes lengths plan flow (fault.ReleaseBalance x) (fault.TooBig y) ne_one ne_other is also = absurd (bad_refutes is_small flow y also.1 is.0.0.1)
fault_is_one rows nodes lengths plan flow (fault.ReleaseBalance x) (fault.LockBalance y) ne_one ne_other is also = absurd (bad_refutes (is_lock_balanced rows flow) flow y also.1 is.0.1)
fault_is_one rows nodes lengths plan flow (fault.ReleaseBalance x) (fault.ReleaseBalance y) ne_one ne_other is also = ap fault.ReleaseBalance (bad_is_one (is_release_balanced rows flow) flow x y is.1 also.1)
fault_is_one rows nodes lengths plan flow (fault.ReleaseBalance x) (fault.Value y y_bound) ne_one ne_other is also = absurd (bad_refutes (is_release_balanced rows flow) flow x is.1 also.0.1)
fault_is_one rows nodes lengths plan flow (fault.ReleaseBalance x) fault.Memory ne_one ne_other is also = absurd (ne_other refl)
fault_is_one rows nodes lengths plan flow (fault.Value x x_bound) (fault.Plan y) ne_one ne_other is also = absurd (plan_refutes rows nodes plan y also is.0.0.0.0.0.0)
fault_is_one rows nodes lengths plan flow (fault.Value x x_bound) (fault.Rows y) ne_one ne_other is also = absurd (stranger_refutes rows nodes flow y also.1 is.0.0.0.0.0.1)
fault_is_one rows nodes lengths plan flow (fault.Value x x_bound) (fault.Sign y) ne_one ne_other is also = absurd (bad_refutes (is_sign_ok rows nodes flow) flow y also.1 is.0.0.0.0.1)
fault_is_one rows nodes lengths plan flow (fault.Value x x_bound) (fault.TooBig y) ne_one ne_other is also = absurd (bad_refutes is_small flow y also.1 is.0.0.0.1)
fault_is_one rows nodes lengths plan flow (fault.Value x x_bound) (fault.LockBalance y) ne_one ne_other is also = absurd (bad_refutes (is_lock_balanced rows flow) flow y also.1 is.0.0.1)
fault_is_one rows nodes lengths plan flow (fault.Value x x_bound) (fault.ReleaseBalance y) ne_one ne_other is also = absurd (bad_refutes (is_release_balanced rows flow) flow y also.1 is.0.1)
fault_is_one rows nodes lengths plan flow (fault.Value x x_bound) (fault.Value y y_bound) ne_one ne_other is also = let e : x ≡ y = is.1 ∙ sym also.1 in let f : x_bound ≡ y_bound = is.2 ∙ sym also.2 in cc
fault_is_one rows nodes lengths plan flow (fault.Value x x_bound) fault.Memory ne_one ne_other is also = absurd (ne_other refl)
fault_is_one rows nodes lengths plan flow fault.Memory other ne_one ne_other is also = absurd (ne_one refl)

refuted : (rows : Rows) (nodes lengths : List ℕ) (plan : List Step) (flow : List FlowRow) (e : ProofFault) → e ≢ fault.Memory → IsLegal rows nodes plan → IsCertificate rows nodes lengths flow (cost rows lengths plan)
    → IsFault rows nodes lengths plan flow e → ⊥
refuted rows nodes lengths plan flow e ne legal certificate is = grind (arith, fault_refutes, plan_refutes)

-- a fault of a legal plan with a certificate is out of memory
pub certified_is_faultless : CertifiedIsFaultless
certified_is_faultless rows nodes lengths plan flow (fault.Plan x) legal certificate is = absurd (refuted rows nodes lengths plan flow (fault.Plan x) (λ e. absurd (cc)) legal certificate is)
certified_is_faultless rows nodes lengths plan flow (fault.Rows x) legal certificate is = absurd (refuted rows nodes lengths plan flow (fault.Rows x) (λ e. absurd (cc)) legal certificate is)
certified_is_faultless rows nodes lengths plan flow (fault.Sign x) legal certificate is = absurd (refuted rows nodes lengths plan flow (fault.Sign x) (λ e. absurd (cc)) legal certificate is)
certified_is_faultless rows nodes lengths plan flow (fault.TooBig x) legal certificate is = absurd (refuted rows nodes lengths plan flow (fault.TooBig x) (λ e. absurd (cc)) legal certificate is)
certified_is_faultless rows nodes lengths plan flow (fault.LockBalance x) legal certificate is = absurd (refuted rows nodes lengths plan flow (fault.LockBalance x) (λ e. absurd (cc)) legal certificate is)
certified_is_faultless rows nodes lengths plan flow (fault.ReleaseBalance x) legal certificate is = absurd (refuted rows nodes lengths plan flow (fault.ReleaseBalance x) (λ e. absurd (cc)) legal certificate is)
certified_is_faultless rows nodes lengths plan flow (fault.Value x x_bound) legal certificate is = absurd (refuted rows nodes lengths plan flow (fault.Value x x_bound) (λ e. absurd (cc)) legal certificate is)
certified_is_faultless rows nodes lengths plan flow fault.Memory legal certificate is = refl

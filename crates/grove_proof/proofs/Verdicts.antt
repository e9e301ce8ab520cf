-- Faults and certificates exclude each other, and what the parts of the checker answer is its verdict.
use Rattle.std.proofs.Common.{◌≡◌, ◌≢◌, ℕ, ◌+◌, pos, ◌-ℤ◌, Bool, List, Result, Ok, Err, refl, sym, ◌∙◌, ap, subst, arith}
use Rattle.std.specs.Prelude.{map, MatchResult, IfOk, OnOk, IfErr}
use Rattle.std.specs.List.{slice_get}
use Rattle.std.proofs.lemmas.Bool.{both_ways}
use Rattle.std.proofs.lemmas.Int.{ints}
use Rattle.grove_tree.specs.Trees.{Rows, IsTree}
use Rattle.grove_access.specs.declared.access.Access.{Access}
use Rattle.grove_access.specs.Lists.{AreNodes, nodes_of, lengths_of}
use Rattle.grove_access.specs.Forced.{forced_nodes}
use Rattle.grove_plan.specs.declared.step.Step.{Step}
use Rattle.grove_plan.specs.declared.fault.PlanFault.{PlanFault}
use Rattle.grove_plan.specs.Plans.{IsLegal, IsLeast, cost}
use Rattle.grove_proof.specs.declared.flow.FlowRow.{FlowRow}
use Rattle.grove_proof.specs.declared.fault.ProofFault.{ProofFault}
use Rattle.grove_proof.specs.declared.fault.ProofFault.TheVariants as fault
use Rattle.grove_proof.specs.Forced.{IsForcedList}
use Rattle.grove_proof.specs.Flows.{node_of, AllRows, gains, losses, IsCertificate}
use Rattle.grove_proof.specs.Faults.{IsFirstDifference, IsFirstStranger, IsFirstBad, bound, IsFault}
use Rattle.grove_proof.specs.Tables.{PassAll, IsRowsFault, IsVerdict}
use Rattle.grove_proof.proofs.ForcedList.{forced_nodes_are_list, forced_lists_same}
use Rattle.grove_proof.proofs.WeakDuality.{certified_is_least}

-- a difference of numbers, and their sum
difference : (g l c : ℕ) → pos g -ℤ pos l ≡ pos c → g ≡ c + l
difference g l c h = omega (arith, ints)

difference_from : (g l c : ℕ) → g ≡ c + l → pos g -ℤ pos l ≡ pos c
difference_from g l c h = omega (arith, ints)

-- a row that fails, and all rows that pass
pub bad_refutes : (test : FlowRow → Bool) (flow : List FlowRow) (i : ℕ) → IsFirstBad test flow i → AllRows test flow → ⊥
bad_refutes test flow i bad all = both_ways (test bad.row) bad.fails (all i bad.row bad.there)

-- a stranger among the rows' nodes
pub stranger_refutes : (rows : Rows) (nodes : List ℕ) (flow : List FlowRow) (i : ℕ) → IsFirstStranger rows nodes flow i → IsForcedList rows nodes (map node_of flow) → ⊥
stranger_refutes rows nodes flow i stranger forced =
    stranger.2.differ (ap (λ (xs : List ℕ). slice_get xs i) (forced_lists_same rows nodes (map node_of flow) stranger.0 forced stranger.1))

-- a fault of a legal plan's flow shows that it is no certificate
pub fault_refutes : (rows : Rows) (nodes lengths : List ℕ) (plan : List Step) (flow : List FlowRow) (e : ProofFault) → ((f : PlanFault) → e ≡ fault.Plan f → IsLegal rows nodes plan → ⊥) → e ≢ fault.Memory
    → IsFault rows nodes lengths plan flow e → IsLegal rows nodes plan → IsCertificate rows nodes lengths flow (cost rows lengths plan) → ⊥
fault_refutes rows nodes lengths plan flow (fault.Plan f) none ne is legal certificate = none f refl legal
fault_refutes rows nodes lengths plan flow (fault.Rows i) none ne is legal certificate = stranger_refutes rows nodes flow i is.1 certificate.balances.forced
fault_refutes rows nodes lengths plan flow (fault.Sign i) none ne is legal certificate = bad_refutes _ flow i is.1 certificate.balances.signs
fault_refutes rows nodes lengths plan flow (fault.TooBig i) none ne is legal certificate = bad_refutes _ flow i is.1 certificate.small
fault_refutes rows nodes lengths plan flow (fault.LockBalance i) none ne is legal certificate = bad_refutes _ flow i is.1 certificate.balances.locks
fault_refutes rows nodes lengths plan flow (fault.ReleaseBalance i) none ne is legal certificate = bad_refutes _ flow i is.1 certificate.balances.releases
fault_refutes rows nodes lengths plan flow (fault.Value c b) none ne is legal certificate = is.3 (difference_from (gains nodes lengths flow) (losses nodes lengths flow) (cost rows lengths plan) certificate.value)
fault_refutes rows nodes lengths plan flow fault.Memory none ne is legal certificate = ne refl

-- rows with a stranger among them
pub rows_verdict : (rows : Rows) (nodes lengths : List ℕ) (plan : List Step) (flow : List FlowRow) (span : List ℕ) (i : ℕ) → IsTree rows → AreNodes rows nodes → IsLegal rows nodes plan → span ≡ forced_nodes rows nodes
    → IsFirstDifference (map node_of flow) span i → IsVerdict rows nodes lengths plan flow (Err (fault.Rows i))
rows_verdict rows nodes lengths plan flow span i tree fits legal listed differ = λ ne.
    let stranger : IsFirstStranger rows nodes flow i = (forced_nodes rows nodes, forced_nodes_are_list rows nodes tree fits, subst (λ (xs : List ℕ). IsFirstDifference (map node_of flow) xs i) listed differ) in
    ((legal, stranger), λ also certificate. stranger_refutes rows nodes flow i stranger certificate.balances.forced)

-- a fault of the rows is one of the checker
rows_are_fault : (rows : Rows) (nodes lengths : List ℕ) (plan : List Step) (flow : List FlowRow) (e : ProofFault) → IsLegal rows nodes plan → IsForcedList rows nodes (map node_of flow)
    → IsRowsFault rows nodes lengths flow (cost rows lengths plan) e → IsFault rows nodes lengths plan flow e
rows_are_fault rows nodes lengths plan flow (fault.Plan f) legal forced is = absurd is
rows_are_fault rows nodes lengths plan flow (fault.Rows i) legal forced is = absurd is
rows_are_fault rows nodes lengths plan flow (fault.Sign i) legal forced is = ((legal, forced), is)
rows_are_fault rows nodes lengths plan flow (fault.TooBig i) legal forced is = (((legal, forced), is.0), is.1)
rows_are_fault rows nodes lengths plan flow (fault.LockBalance i) legal forced is = ((((legal, forced), is.0), is.1), is.2)
rows_are_fault rows nodes lengths plan flow (fault.ReleaseBalance i) legal forced is = (((((legal, forced), is.0), is.1), is.2), is.3)
rows_are_fault rows nodes lengths plan flow (fault.Value c b) legal forced is = ((((((legal, forced), is.0.signs), is.0.sizes), is.0.locks), is.0.releases), is.1, is.2, is.3)
rows_are_fault rows nodes lengths plan flow fault.Memory legal forced is = absurd is

rows_no_plan : (rows : Rows) (nodes lengths : List ℕ) (flow : List FlowRow) (sum : ℕ) (e : ProofFault) (f : PlanFault) → e ≡ fault.Plan f → IsRowsFault rows nodes lengths flow sum e → ⊥
rows_no_plan rows nodes lengths flow sum e f is h = subst (λ (x : ProofFault). IsRowsFault rows nodes lengths flow sum x) is h

-- rows that pass all tests and give the cost
rows_certify : (rows : Rows) (nodes lengths : List ℕ) (plan : List Step) (flow : List FlowRow) → IsForcedList rows nodes (map node_of flow) → PassAll rows nodes flow → bound nodes lengths flow ≡ pos (cost rows lengths plan)
    → IsCertificate rows nodes lengths flow (cost rows lengths plan)
rows_certify rows nodes lengths plan flow forced pass value = grind (arith, difference)

-- what the rows say of a legal plan whose forced nodes they have
abbrev pub RowsSay : Rows → List ℕ → List ℕ → List FlowRow → ℕ → Result ℕ ProofFault → Type 0
RowsSay rows nodes lengths flow sum r = MatchResult r (λ s. (s ≡ sum) × PassAll rows nodes flow × (bound nodes lengths flow ≡ pos sum)) (λ e. IsRowsFault rows nodes lengths flow sum e)

verdict_at_cost : (rows : Rows) (nodes lengths : List ℕ) (plan : List Step) (flow : List FlowRow) (r : Result ℕ ProofFault) → IsLegal rows nodes plan → IsForcedList rows nodes (map node_of flow)
    → RowsSay rows nodes lengths flow (cost rows lengths plan) r → IsVerdict rows nodes lengths plan flow r
verdict_at_cost rows nodes lengths plan flow (Ok s) legal forced say = (say.0, legal, rows_certify rows nodes lengths plan flow forced say.1 say.2)
verdict_at_cost rows nodes lengths plan flow (Err e) legal forced say =
    grind (arith, fault_refutes, rows_are_fault, rows_no_plan)

-- the rows' answer on a legal plan is the checker's verdict
pub verdict : (rows : Rows) (nodes lengths : List ℕ) (plan : List Step) (flow : List FlowRow) (span : List ℕ) (sum : ℕ) (r : Result ℕ ProofFault) → IsTree rows → AreNodes rows nodes → IsLegal rows nodes plan
    → span ≡ forced_nodes rows nodes → map node_of flow ≡ span → sum ≡ cost rows lengths plan → RowsSay rows nodes lengths flow sum r → IsVerdict rows nodes lengths plan flow r
verdict rows nodes lengths plan flow span sum r tree fits legal listed same e say =
    verdict_at_cost rows nodes lengths plan flow r legal (subst (λ (xs : List ℕ). IsForcedList rows nodes xs) (sym (same ∙ listed)) (forced_nodes_are_list rows nodes tree fits))
    (subst (λ (s : ℕ). RowsSay rows nodes lengths flow s r) e say)

-- What follows from a verdict

-- an accepted plan has the cost that is told
pub verdict_cost : (rows : Rows) (nodes lengths : List ℕ) (plan : List Step) (flow : List FlowRow) (r : Result ℕ ProofFault) → IsVerdict rows nodes lengths plan flow r → IfOk r (λ s. s ≡ cost rows lengths plan)
verdict_cost rows nodes lengths plan flow (Ok s) is = is.0
verdict_cost rows nodes lengths plan flow (Err e) is = tt

-- it is legal
pub verdict_legal : (rows : Rows) (nodes lengths : List ℕ) (plan : List Step) (flow : List FlowRow) (r : Result ℕ ProofFault) → IsVerdict rows nodes lengths plan flow r → OnOk r (IsLegal rows nodes plan)
verdict_legal rows nodes lengths plan flow (Ok s) is = is.1
verdict_legal rows nodes lengths plan flow (Err e) is = tt

-- its flow certifies the cost
pub verdict_certificate : (rows : Rows) (nodes lengths : List ℕ) (plan : List Step) (flow : List FlowRow) (r : Result ℕ ProofFault) → IsVerdict rows nodes lengths plan flow r → OnOk r (IsCertificate rows nodes lengths flow (cost rows lengths plan))
verdict_certificate rows nodes lengths plan flow (Ok s) is = is.2
verdict_certificate rows nodes lengths plan flow (Err e) is = tt

-- and it is least
pub verdict_least : (rows : Rows) (nodes lengths : List ℕ) (plan : List Step) (flow : List FlowRow) (r : Result ℕ ProofFault) → IsTree rows → AreNodes rows nodes → IsVerdict rows nodes lengths plan flow r → OnOk r (IsLeast rows nodes lengths plan)
verdict_least rows nodes lengths plan flow (Ok s) tree fits is = certified_is_least rows nodes lengths flow plan tree fits is.1 is.2
verdict_least rows nodes lengths plan flow (Err e) tree fits is = tt

-- what is refused has the fault that is told
pub verdict_fault : (rows : Rows) (nodes lengths : List ℕ) (plan : List Step) (flow : List FlowRow) (r : Result ℕ ProofFault) → IsVerdict rows nodes lengths plan flow r → IfErr r (λ e. e ≢ fault.Memory → IsFault rows nodes lengths plan flow e)
verdict_fault rows nodes lengths plan flow (Ok s) is = tt
verdict_fault rows nodes lengths plan flow (Err e) is = λ ne. (is ne).0

-- and is no legal plan with a certificate
pub verdict_refused : (rows : Rows) (nodes lengths : List ℕ) (plan : List Step) (flow : List FlowRow) (r : Result ℕ ProofFault) → IsVerdict rows nodes lengths plan flow r
    → IfErr r (λ e. e ≢ fault.Memory → IsLegal rows nodes plan → ¬ IsCertificate rows nodes lengths flow (cost rows lengths plan))
verdict_refused rows nodes lengths plan flow (Ok s) is = tt
verdict_refused rows nodes lengths plan flow (Err e) is = λ ne. (is ne).1

-- what rows say, of the same tree, list and rows
pub say_same : (rows tree : Rows) (accesses list : List Access) (flow other : List FlowRow) (sum : ℕ) (r : Result ℕ ProofFault) → RowsSay rows (nodes_of accesses) (lengths_of accesses) flow sum r
    → rows ≡ tree → accesses ≡ list → flow ≡ other → RowsSay tree (nodes_of list) (lengths_of list) other sum r
say_same rows tree accesses list flow other sum r say e f g = grind (arith)

-- The names and the texts of faults; a fault within another has its own.
use Rattle.std.specs.Prelude.{ℕ, codes, decimal, List, [], ◌++◌, Option, Some, None, ◌<◌, length}
use Rattle.std.specs.Fmt.{signed_decimal}
use Rattle.grove_tree.specs.Trees.{Rows}
use Rattle.grove_tree.specs.Paths.{path_of}
use Rattle.grove_tree.specs.declared.fault.TreeFault.{TreeFault}
use Rattle.grove_tree.specs.declared.fault.TreeFault.TheVariants as tree
use Rattle.grove_plan.specs.declared.fault.PlanFault.{PlanFault}
use Rattle.grove_plan.specs.declared.fault.PlanFault.TheVariants as plan
use Rattle.grove_proof.specs.declared.fault.ProofFault.{ProofFault}
use Rattle.grove_proof.specs.declared.fault.ProofFault.TheVariants as proof
use Rattle.grove_core.specs.declared.fault.ReplayFault.{ReplayFault}
use Rattle.grove_core.specs.declared.fault.ReplayFault.TheVariants as replay
use Rattle.grove_core.specs.declared.fault.StepFault.{StepFault}
use Rattle.grove_core.specs.declared.fault.StepFault.TheVariants as event
use Rattle.grove_core.specs.declared.run_fault.RunFault.{RunFault}
use Rattle.grove_core.specs.declared.run_fault.RunFault.TheVariants as run
use Rattle.grove_wire.specs.declared.faults.Fault.{Fault}
use Rattle.grove_wire.specs.declared.faults.Fault.TheVariants as kind
use Rattle.grove_wire.specs.declared.faults.StandingFault.TheVariants.{Record, Replies}
use Rattle.grove_wire.specs.declared.fault.WireFault.{WireFault}
use Rattle.grove_wire.specs.declared.fault.WireFault.TheVariants.{BadJson, Shape, NoPath, BadLength, Limit, Tree}
use Rattle.grove_wire.specs.declared.fault.WireFault.TheVariants.{Memory}
use Rattle.grove_wire.specs.declared.place.Place.{Place}
use Rattle.grove_wire.specs.Places.{part_word}

-- a space and a number, where there is one
abbrev pub number_text : Option ℕ → List ℕ
number_text None = []
number_text (Some n) = codes " " ++ decimal n

abbrev pub place_text : Place → List ℕ
place_text place = part_word place.part ++ number_text place.at ++ number_text place.item

-- what is said of a fault: its name, and its text. The text is the name by itself,
abbrev pub named : List ℕ → List ℕ × List ℕ
named name = (name, name)

-- after a thing and its number,
abbrev pub of_thing : List ℕ → ℕ → List ℕ × List ℕ → List ℕ × List ℕ
of_thing thing number said = (said.0, thing ++ codes " " ++ decimal number ++ (codes " " ++ said.1))

-- or before what it is said of
abbrev pub said_of : List ℕ → List ℕ → List ℕ × List ℕ
said_of name told = (name, name ++ codes " " ++ told)

abbrev pub tree_said : TreeFault → List ℕ × List ℕ
tree_said tree.Empty = (codes "empty", codes "tree empty")
tree_said tree.TooMany = (codes "too-many", codes "tree too-many")
tree_said (tree.BadParent row) = of_thing (codes "row") row (named (codes "bad-parent"))
tree_said (tree.TooDeep row) = of_thing (codes "row") row (named (codes "too-deep"))
tree_said (tree.BadName row) = of_thing (codes "row") row (named (codes "bad-name"))
tree_said (tree.TwiceNamed row) = of_thing (codes "row") row (named (codes "twice-named"))
tree_said (tree.BadWeight row) = of_thing (codes "row") row (named (codes "bad-weight"))
tree_said tree.Memory = named (codes "memory")

abbrev pub wire_said : WireFault → List ℕ × List ℕ
wire_said BadJson = named (codes "bad-json")
wire_said (Shape place) = said_of (codes "shape") (place_text place)
wire_said (NoPath place) = said_of (codes "no-path") (place_text place)
wire_said (BadLength place) = said_of (codes "bad-length") (place_text place)
wire_said (Limit place) = said_of (codes "limit") (place_text place)
wire_said (Tree fault) = tree_said fault
wire_said Memory = named (codes "memory")

-- ---- faults of plans

-- the node in a fault is a node of the tree
abbrev pub FaultFits : Rows → PlanFault → Type 0
FaultFits rows (plan.StillHeld node) = node < length rows
FaultFits rows _ = Unit {0}

abbrev pub plan_said : Rows → PlanFault → List ℕ × List ℕ
plan_said rows (plan.Strange step) = of_thing (codes "step") step (named (codes "strange"))
plan_said rows (plan.Relock step) = of_thing (codes "step") step (named (codes "relock"))
plan_said rows (plan.ParentNotHeld step) = of_thing (codes "step") step (named (codes "parent-not-held"))
plan_said rows (plan.NotHeld step) = of_thing (codes "step") step (named (codes "not-held"))
plan_said rows (plan.WrongAccess step) = of_thing (codes "step") step (named (codes "wrong-access"))
plan_said rows (plan.AccessNotHeld step) = of_thing (codes "step") step (named (codes "access-not-held"))
plan_said rows (plan.AccessMissing access) =
    (codes "access-missing", codes "access " ++ decimal access ++ codes " missing")
plan_said rows (plan.StillHeld node) = (codes "still-held", codes "node " ++ path_of rows node ++ codes " still-held")
plan_said rows plan.Memory = named (codes "memory")

-- ---- faults of proofs

abbrev pub ProofFaultFits : Rows → ProofFault → Type 0
ProofFaultFits rows (proof.Plan fault) = FaultFits rows fault
ProofFaultFits rows _ = Unit {0}

-- the bound may be negative
abbrev pub proof_said : Rows → ProofFault → List ℕ × List ℕ
proof_said rows (proof.Plan fault) = plan_said rows fault
proof_said rows (proof.Rows row) = said_of (codes "rows") (decimal row)
proof_said rows (proof.Sign row) = said_of (codes "sign") (decimal row)
proof_said rows (proof.TooBig row) = said_of (codes "too-big") (decimal row)
proof_said rows (proof.LockBalance row) = said_of (codes "lock-balance") (decimal row)
proof_said rows (proof.ReleaseBalance row) = said_of (codes "release-balance") (decimal row)
proof_said rows (proof.Value sum bound) = said_of (codes "value") (decimal sum ++ (codes " " ++ signed_decimal bound))
proof_said rows proof.Memory = named (codes "memory")

-- ---- faults of runs

abbrev pub RunFaultFits : Rows → RunFault → Type 0
RunFaultFits rows (run.BadPlan job fault) = FaultFits rows fault
RunFaultFits rows _ = Unit {0}

abbrev pub run_said : Rows → RunFault → List ℕ × List ℕ
run_said rows (run.BadPlan job fault) = plan_said rows fault
run_said rows run.Memory = named (codes "memory")
run_said rows run.Foreign = named (codes "foreign")
run_said rows run.Unfinished = named (codes "unfinished")

-- ---- faults of histories

abbrev pub event_said : StepFault → List ℕ × List ℕ
event_said event.NoTxn = named (codes "no-job")
event_said event.Ended = named (codes "ended")
event_said (event.Blocked holder) = said_of (codes "blocked") (decimal holder)
event_said event.NotBlocked = named (codes "not-blocked")
event_said event.Marked = named (codes "marked")

abbrev pub ReplayFaultFits : Rows → ReplayFault → Type 0
ReplayFaultFits rows (replay.BadPlan job fault) = FaultFits rows fault
ReplayFaultFits rows _ = Unit {0}

abbrev pub replay_said : Rows → ReplayFault → List ℕ × List ℕ
replay_said rows (replay.BadPlan job fault) = of_thing (codes "job") job (plan_said rows fault)
replay_said rows (replay.BadEvent at fault) = of_thing (codes "event") at (event_said fault)
replay_said rows (replay.Unfinished job) = said_of (codes "unfinished") (decimal job)
replay_said rows replay.Memory = named (codes "memory")

-- ---- faults of documents

abbrev pub fault_said : Rows → Fault → List ℕ × List ℕ
fault_said rows (kind.Wire fault) = wire_said fault
fault_said rows (kind.Plan fault) = plan_said rows fault
fault_said rows (kind.Proof fault) = proof_said rows fault
fault_said rows (kind.Run fault) = run_said rows fault
fault_said rows (kind.Replay fault) = replay_said rows fault
fault_said rows (kind.Standing (Record node)) = (codes "records", codes "standing records " ++ decimal node)
fault_said rows (kind.Standing (Replies job)) = (codes "replies", codes "standing replies " ++ decimal job)

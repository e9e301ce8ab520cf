-- What is said of a document that is drawn: some text, unless its own plan has a fault.
use Rattle.std.proofs.Common.{◌≡◌, ◌≢◌, true, false, ℕ, List, [], Option, Some, None, Result, Ok, Err, IfSome, IsOkAnd, option_and_then, refl, subst, sym, ◌∙◌, ap}
use Rattle.grove_access.specs.Lists.{nodes_of}
use Rattle.grove_draw.specs.declared.drawing.Drawing.{Drawing}
use Rattle.grove_draw.specs.declared.picture.Picture.{Picture}
use Rattle.grove_plan.specs.declared.fault.PlanFault.{PlanFault}
use Rattle.grove_plan.specs.declared.fault.PlanFault.TheVariants as plan
use Rattle.grove_plan.specs.declared.step.Step.{Step}
use Rattle.grove_plan.specs.Faults.{plan_fault_of}
use Rattle.grove_plan.proofs.FaultlessIsLegal.{legal_faultless}
use Rattle.grove_wire.specs.declared.fault.WireFault.{WireFault}
use Rattle.grove_wire.specs.declared.faults.Fault.TheVariants.{Plan}
use Rattle.grove_answer.specs.declared.reading.Task.{Task}
use Rattle.grove_answer.specs.declared.refusal.Refusal.{Refusal}
use Rattle.grove_answer.specs.declared.refusal.Refusal.TheVariants as refusal
use Rattle.grove_answer.specs.Outcomes.{ThenSays, unless_faulty, IsDrawingOf, IsDrawn, PicturesOwn}
use Rattle.grove_answer.specs.Faults.{wants_memory, IsToldFault}
use Rattle.grove_answer.specs.Says.{refusal_outcome}

no_memory : (fault : PlanFault) → wants_memory (Plan fault) ≡ false → fault ≢ plan.Memory
no_memory fault other is = let never : true ≡ false = subst (λ f. wants_memory (Plan f) ≡ false) is other in absurd (cc)

-- an own plan that has a picture has no fault
own_faultless : (task : Task) (own : Option (List Step)) (picture : Option Picture) → PicturesOwn task own picture
    → option_and_then (plan_fault_of task.tree (nodes_of task.list)) own ≡ None
own_faultless task None picture pictures = refl
own_faultless task (Some steps) picture pictures = legal_faultless task.tree (nodes_of task.list) steps pictures.0

-- whatever text is made of a drawing may be said
pub says_drawn : (found : Result (Task × Option (List Step)) WireFault) (drawing : Drawing) (text : List ℕ) → IsOkAnd found (λ sketch. IsDrawingOf sketch.0 sketch.1 drawing)
    → ThenSays found IsDrawn (Ok text)
says_drawn (Ok (task, own)) drawing text is =
    (text, ap (λ (fault : Option PlanFault). unless_faulty task.tree fault text) (sym (own_faultless task own drawing.own is.own_picture)))
says_drawn (Err fault) drawing text is = absurd is

-- a refusal tells the fault of the own plan
pub says_own_fault : (task : Task) (steps : List Step) (fault : PlanFault) (why : Refusal)
    → IsToldFault task.tree (Plan fault) why
    → (fault ≢ plan.Memory → plan_fault_of task.tree (nodes_of task.list) steps ≡ Some fault)
    → IfSome (refusal_outcome why) (IsDrawn (task, Some steps))
says_own_fault task steps fault refusal.Memory told first = tt
says_own_fault task steps fault (refusal.Fault said text) told first =
    let is : plan_fault_of task.tree (nodes_of task.list) steps ≡ Some fault = first (no_memory fault told.2) in
    ([], ap Err told.1 ∙ ap (λ (f : Option PlanFault). unless_faulty task.tree f []) (sym is))

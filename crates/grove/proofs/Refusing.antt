-- What is said of a document that can't be read.
use Rattle.std.proofs.Common.{◌≡◌, List, [], Result, Err, IfSome, false, ap, subst, sym}
use Rattle.grove_wire.specs.declared.fault.WireFault.{WireFault}
use Rattle.grove_wire.specs.declared.fault.WireFault.TheVariants as wire
use Rattle.grove_wire.specs.declared.faults.Fault.TheVariants.{Wire}
use Rattle.grove_wire.specs.Outcomes.{Fails}
use Rattle.grove_answer.specs.declared.refusal.Refusal.{Refusal}
use Rattle.grove_answer.specs.declared.refusal.Refusal.TheVariants as refusal
use Rattle.grove_answer.specs.Faults.{wants_memory, IsToldFault}
use Rattle.grove_answer.specs.Outcomes.{Outcome, ThenSays}
use Rattle.grove_answer.specs.Says.{refusal_outcome}

-- a fault that is told is the one that was found
told_fault : {A : Type 0} (fault : WireFault) (found : Result A WireFault) → Fails fault found
    → wants_memory (Wire fault) ≡ false → found ≡ Err fault
told_fault wire.BadJson found fails wants = fails
told_fault (wire.Shape place) found fails wants = fails
told_fault (wire.NoPath place) found fails wants = fails
told_fault (wire.BadLength place) found fails wants = fails
told_fault (wire.Limit place) found fails wants = fails
told_fault (wire.Tree why) found fails wants = fails
told_fault wire.Memory found fails wants = absurd (cc)

-- a refusal for it says it
pub says_fault : {A : Type 0} (fault : WireFault) (found : Result A WireFault) (May : A → Outcome → Type 0)
    (why : Refusal) → Fails fault found → IsToldFault [] (Wire fault) why
    → IfSome (refusal_outcome why) (ThenSays found May)
says_fault fault found May refusal.Memory fails told = tt
says_fault fault found May (refusal.Fault kind text) fails (same, is, wants) =
    subst (λ read. ThenSays read May (Err text)) (sym (told_fault fault found fails wants)) (ap Err is)

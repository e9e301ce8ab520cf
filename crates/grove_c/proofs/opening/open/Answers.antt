use Rattle.std.proofs.Common.{refl, subst}
use Rattle.std.specs.Prelude.{Result}
use Rattle.std.specs.declared.alloc.Global.{Global}
use Rattle.std_alloc.specs.declared.boxed.Box.{Box}
use Rattle.grove_answer.specs.declared.refusal.Refusal.{Refusal}
use Rattle.grove_c.specs.declared.kept.Kept.{Kept}
use Rattle.grove_c.specs.Handles.{IsStoreOf, IsTreeOf}
use Rattle.grove_c.specs.Openings.{IsOpening}
use Rattle.grove_c.proofs.Opened.{stays}
use Rattle.grove_c.proofs.opening.open.Goals as goal

-- the handle isn't touched
pub returns-in-Err-clause-tree : goal.returns-in-Err-clause-tree
returns-in-Err-clause-tree c bytes is =
    let held = c.args.handle.now.value in
    stays IsTreeOf bytes c.args.text.now c.tell-in-Err.new.buffer c.tell-in-Err.result held held c.in-Err.refusal refl
    c.tell-in-Err.ensures
    (subst (λ (opening : Result (Box Kept Global) Refusal). IsOpening IsTreeOf bytes opening) c.in-Err.is is)

pub returns-in-Err-clause-store : goal.returns-in-Err-clause-store
returns-in-Err-clause-store c bytes is =
    let held = c.args.handle.now.value in
    stays IsStoreOf bytes c.args.text.now c.tell-in-Err.new.buffer c.tell-in-Err.result held held c.in-Err.refusal refl
    c.tell-in-Err.ensures
    (subst (λ (opening : Result (Box Kept Global) Refusal). IsOpening IsStoreOf bytes opening) c.in-Err.is is)

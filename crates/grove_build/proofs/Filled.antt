-- A batch for each of whose lists something is kept, and the copies of it.
use Rattle.std.proofs.Common.{◌≡◌, ◌⊎◌, inl, inr, ◌≤◌, List, Some, Result, Ok, Err, OnOk, sym, ◌∙◌, ap, arith, Bor}
use Rattle.std.specs.List.{AllZip}
use Rattle.std.specs.Prelude.{All}
use Rattle.std.proofs.lemmas.List.Elements.{All-weaker}
use Rattle.std.proofs.lemmas.Option.{same_Some}
use Rattle.grove_tree.specs.Trees.{Rows}
use Rattle.grove_access.specs.declared.access.Access.{Access}
use Rattle.grove_build.specs.declared.planning.Planned.{Planned}
use Rattle.grove_build.specs.Batches.{IsPlanned, HaveSameTargets, ArePlannedAlike}
use Rattle.grove_build.specs.KeptPlans.{Kept, IsKeptIn, AreSettledFor}
use Rattle.grove_build.specs.Keeping.{AreMissing, StandFor, AreKeptFrom, StayKept, IsCopyFor}
use Rattle.grove_build.proofs.Batched.{AllZip-weaker, some_left}
use Rattle.grove_build.proofs.Keeping.{kept_same, planned_at_place}

-- once what was missing is kept too, something is kept for each list
pub all_kept : {A E : Type 0} (done : Result A E) (before after : List Kept) (lists : List (List Access))
    (parts : List (Bor (List Access))) → AreMissing before lists parts
    → OnOk done (StayKept before after) → OnOk done (AreKeptFrom after parts 0) → OnOk done (All (IsKeptIn after) lists)
all_kept (Err fault) before after lists parts missing stay kept = tt
all_kept (Ok value) before after lists parts missing stay kept =
    All-weaker (λ list. IsKeptIn before list ⊎ StandFor parts list) (IsKeptIn after) each lists missing.complete
  where
    each : (list : List Access) → IsKeptIn before list ⊎ StandFor parts list → IsKeptIn after list
    each list (inl there) = stay list there
    each list (inr (place, part, at, same)) =
        let stands = kept place part (omega arith) at in
        (stands.0, kept_same after part.now list stands.0 same stands.1)

-- the copies are planned for the lists
pub copies_planned : (rows : Rows) (plans : List Kept) (lists : List (List Access)) (copies : List Planned)
    → AreSettledFor rows plans → AllZip (IsCopyFor plans) lists copies → AllZip (IsPlanned rows) lists copies
copies_planned rows plans lists copies settled =
    AllZip-weaker (IsCopyFor plans) (IsPlanned rows)
    (λ list copy is. planned_at_place rows plans list is.0 copy settled is.1.stands is.2) lists copies

-- lists with the same targets have the same first place
same_copy : (plans : List Kept) (list twin : List Access) (copy second : Planned) → HaveSameTargets list twin
    → IsCopyFor plans list copy → IsCopyFor plans twin second → copy ≡ second
same_copy plans list twin copy second same (place, own, (kept, at, is)) (other, own2, (kept2, at2, is2)) =
    let back : HaveSameTargets twin list = record { nodes = sym same.nodes; lengths = sym same.lengths } in
    let up : place ≤ other = own.first other (kept_same plans twin list other back own2.stands) in
    let down : other ≤ place = own2.first place (kept_same plans list twin place same own.stands) in
    grind (arith, same_Some)

pub copies_alike : (plans : List Kept) (lists : List (List Access)) (copies : List Planned)
    → AllZip (IsCopyFor plans) lists copies → ArePlannedAlike lists copies
copies_alike plans lists copies all k other list twin at there same =
    let (copy, is, own) = some_left (IsCopyFor plans) lists copies k list all at in
    let (second, is2, own2) = some_left (IsCopyFor plans) lists copies other twin all there in
    is ∙ ap (λ (q : Planned). Some q) (same_copy plans list twin copy second same own own2) ∙ sym is2

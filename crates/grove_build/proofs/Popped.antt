-- The last of some plans, kept for the list that stands at its place.
use Rattle.std.proofs.Common.{◌≡◌, ◌∙◌, ℕ, ◌+◌, List, [], ◌∷◌, ◌++◌, length, get_or, Some, sym, subst, arith, Bor}
use Rattle.std.specs.List.{slice_get, AllZip}
use Rattle.std.proofs.lemmas.Bool.{cases_eq}
use Rattle.std.proofs.lemmas.Option.{slice_get_within, get_or_from_slice_get}
use Rattle.grove_base.proofs.Lists.{get_append_left, get_last}
use Rattle.grove_tree.specs.Trees.{Rows}
use Rattle.grove_access.specs.declared.access.Access.{Access}
use Rattle.grove_build.specs.declared.planning.Planned.{Planned}
use Rattle.grove_build.specs.declared.targets.Target.{Target}
use Rattle.grove_build.specs.Batches.{IsPlanned}
use Rattle.grove_build.specs.KeptPlans.{Kept, IsKeptIn, AreSettledFor}
use Rattle.grove_build.specs.Keeping.{kept_of, AreTargetsOf, AddsAtMost, StayKept, AreKeptFrom}
use Rattle.grove_build.proofs.Batched.{some_right}
use Rattle.grove_build.proofs.Keeping.{kept_planned, settled_added}

-- an item stands where it stood with others behind it
pub front_item : {A : Type 0} (xs ys : List A) (k : ℕ) (x : A) → slice_get xs k ≡ Some x → slice_get (xs ++ ys) k ≡ Some x
front_item xs ys k x at = get_append_left xs ys k (slice_get_within xs k x at) ∙ at

-- it is what was planned for the list at its place
planned_last : (rows : Rows) (parts : List (Bor (List Access))) (all front : List Planned) (last : Planned) (k : ℕ) (part : Bor (List Access))
    → AllZip (λ part planned. IsPlanned rows part.now planned) parts all → ((i : ℕ) (planned : Planned) → slice_get (front ++ last ∷ []) i ≡ Some planned → slice_get all i ≡ Some planned)
    → k ≡ length front → part ≡ get_or parts k part → IsPlanned rows part.now last
planned_last rows parts all front last k part zip first counted read =
    let there = first k last
    (subst (λ (i : ℕ). slice_get (front ++ last ∷ []) i ≡ Some last) (sym counted) (get_last front last)) in
    let (own, at, is) = some_right (λ (p : Bor (List Access)) (q : Planned). IsPlanned rows p.now q) parts all k last zip there in
    subst (λ (p : Bor (List Access)). IsPlanned rows p.now last) (sym (read ∙ get_or_from_slice_get parts k own part at)) is

-- what is kept stays settled with it
pub settled_popped : (rows : Rows) (parts : List (Bor (List Access))) (all front : List Planned) (last : Planned) (k : ℕ) (part : Bor (List Access)) (targets : List Target) (before after : List Kept)
    → AllZip (λ part planned. IsPlanned rows part.now planned) parts all → ((i : ℕ) (planned : Planned) → slice_get (front ++ last ∷ []) i ≡ Some planned → slice_get all i ≡ Some planned)
    → k ≡ length front → part ≡ get_or parts k part → AreTargetsOf part.now targets → AreSettledFor rows before → AddsAtMost before (kept_of targets last) after → AreSettledFor rows after
settled_popped rows parts all front last k part targets before after zip first counted read own settled adds =
    settled_added rows before after (kept_of targets last) settled adds
    (kept_planned rows part.now targets last own (planned_last rows parts all front last k part zip first counted read))

-- and something is kept for the list at its place, as for those behind it
pub kept_popped : (parts : List (Bor (List Access))) (front more : ℕ) (own : Bor (List Access))
    (before after : List Kept) → AreKeptFrom before parts more
    → more ≡ front + 1 → own ≡ get_or parts front own → StayKept before after → IsKeptIn after own.now
    → AreKeptFrom after parts front
kept_popped parts front more own before after behind next read stay kept place part from at =
    grind (arith, cases_eq, get_or_from_slice_get)

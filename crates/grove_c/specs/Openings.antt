-- For the proofs alone: what a handle is opened with.
use Rattle.std.specs.Prelude.{◌≡◌, ℕ, ℤ, List, [], IfSome, Result, Ok, Err}
use Rattle.std.specs.declared.alloc.Global.{Global}
use Rattle.std_alloc.specs.declared.boxed.Box.{Box}
use Rattle.grove_tree.specs.Trees.{Rows}
use Rattle.grove_answer.specs.declared.refusal.Refusal.{Refusal}
use Rattle.grove_answer.specs.Outcomes.{Outcome, ThenSays}
use Rattle.grove_answer.specs.Says.{refusal_outcome}
use Rattle.grove_c.specs.declared.kept.Kept.{Kept}
use Rattle.grove_c.specs.Handles.{stored_in}

-- nothing is said, unless the document is refused
abbrev pub OpenSays : List ℕ → Outcome → Type 0
OpenSays bytes = ThenSays (stored_in bytes) (λ stored outcome. outcome ≡ Ok [])

-- what is made of the document, or why there is nothing
abbrev pub IsOpening : (Rows × List ℤ → Kept → Type 0) → List ℕ → Result (Box Kept Global) Refusal → Type 0
IsOpening IsOf bytes (Ok made) = (stored : Rows × List ℤ) × (stored_in bytes ≡ Ok stored) × IsOf stored made.value
IsOpening IsOf bytes (Err why) = IfSome (refusal_outcome why) (OpenSays bytes)

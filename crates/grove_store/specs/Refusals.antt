-- Refusals, and the replies that tell them.
use Rattle.std.specs.Prelude.{◌≡◌, ℕ, List, Option, Some, None, Bool, false, codes, nat_eq}
use Rattle.std.specs.List.{starts_with}
use Rattle.grove_wire.specs.Names.{fault_name}
use Rattle.grove_wire.specs.Replies.{error_text}
use Rattle.grove_store.specs.declared.refusal.Refusal.{Refusal}
use Rattle.grove_store.specs.declared.refusal.Refusal.TheVariants.{Fault, Rounds}

abbrev pub refusal_name : Refusal → List ℕ
refusal_name (Fault fault) = fault_name fault
refusal_name Rounds = codes "rounds"

-- how each refusal begins
abbrev pub is_refusal : List ℕ → Bool
is_refusal reply = starts_with nat_eq reply (codes "{\"error\":")

-- a reply with a refusal is its error, by its name, and one without is none by any name
abbrev pub TellsRefusal : Option Refusal → List ℕ → Type 0
TellsRefusal (Some refusal) reply = reply ≡ error_text (refusal_name refusal)
TellsRefusal None reply = is_refusal reply ≡ false

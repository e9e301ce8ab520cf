-- For the proofs alone: what is read of the members of an object.
use Rattle.std.specs.Prelude.{◌≡◌, Option, Some, None}
use Rattle.serde_json.specs.Data.{Data, Members, object}
use Rattle.serde_json.specs.Find.{as_object}

-- this is read of the members of an object, and nothing of another value
abbrev pub IsReadFrom : {A : Type 0} → (A → Members → Type 0) → Option A → Data → Type 0
IsReadFrom is_read None d = as_object d ≡ None
IsReadFrom is_read (Some found) d = (ms : Members) × (d ≡ object ms) × is_read found ms

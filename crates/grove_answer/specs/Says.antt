-- The outcome of a command's calls: what it says of a document, if memory is there.
use Rattle.std.specs.Prelude.{◌≡◌, String, string_bytes, length, Option, Some, None, IfSome, Result, Ok, Err}
use Rattle.grove_access.specs.Lists.{nodes_of, AreNodes}
use Rattle.grove_answer.specs.declared.reading.Task.{Task}
use Rattle.grove_answer.specs.declared.refusal.Refusal.{Refusal}
use Rattle.grove_answer.specs.declared.refusal.Refusal.TheVariants.{Fault, Memory}
use Rattle.grove_answer.specs.Outcomes.{Outcome}

-- the outcome that a refusal tells; out of memory is none
abbrev pub refusal_outcome : Refusal → Option Outcome
refusal_outcome (Fault fault text) = Some (Err text)
refusal_outcome Memory = None

-- the calls have an outcome that may be said, or none
abbrev pub Says : {Z : Type 0} → (Outcome → Type 0) → Result (String Z) Refusal → Type 0
Says MaySay (Ok lines) = MaySay (Ok (string_bytes lines))
Says MaySay (Err why) = IfSome (refusal_outcome why) MaySay

-- a task's records are those of its tree's nodes, and so are the nodes of its list
abbrev pub IsFitting : Task → Type 0
IsFitting task = (length task.records ≡ length task.tree) × AreNodes task.tree (nodes_of task.list)

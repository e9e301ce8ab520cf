-- For the proofs alone: what is read of a line before it is answered.
use Rattle.std.specs.Prelude.{◌≡◌, ℕ, List, Option, Some, None, Result, Ok, Err}
use Rattle.grove_tree.specs.Trees.{Rows}
use Rattle.grove_wire.specs.declared.fault.WireFault.{WireFault}
use Rattle.grove_wire.specs.declared.request.Request.{Request}
use Rattle.grove_wire.specs.RequestLaws.{AskedFits}
use Rattle.grove_wire.specs.Requests.{asked_of, request_of}

-- over these rows a line asks for this, which fits them, or has this fault
abbrev pub Asks : Rows → List ℕ → Result Request WireFault → Type 0
Asks rows line (Ok request) = (request_of rows line ≡ Ok (asked_of request)) × AskedFits rows (asked_of request)
Asks rows line (Err fault) = request_of rows line ≡ Err fault

-- what is read of a line, if anything is, is what it asks for over each of the rows
abbrev pub IsReadFor : (Rows → Type 0) → List ℕ → Option (Result Request WireFault) → Type 0
IsReadFor Includes line None = Unit {0}
IsReadFor Includes line (Some asked) = (rows : Rows) → Includes rows → Asks rows line asked

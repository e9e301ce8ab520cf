-- What is read of a line over one tree is what it asks for over each with the same names.
use Rattle.std.proofs.Common.{◌≡◌, ◌≢◌, List, ℕ, refl, ap, subst}
use Rattle.std.specs.Prelude.{Result, Ok, Err, Some}
use Rattle.grove_tree.specs.Trees.{Rows}
use Rattle.grove_tree.specs.Weights.{unweighed}
use Rattle.grove_wire.specs.declared.fault.WireFault.{WireFault}
use Rattle.grove_wire.specs.declared.fault.WireFault.TheVariants.{BadJson, Shape, NoPath, BadLength, Limit, Tree}
use Rattle.grove_wire.specs.declared.fault.WireFault.TheVariants.{Memory}
use Rattle.grove_wire.specs.declared.request.Request.{Request}
use Rattle.grove_wire.specs.Outcomes.{Fails, Gives}
use Rattle.grove_wire.specs.Requests.{Asked, asked_of, request_of}
use Rattle.grove_wire.proofs.Requests.{requests_fit}
use Rattle.grove_wire.proofs.SameNames.{reading_goes_by_names}
use Rattle.grove_line.specs.Lines.{Asks, IsReadFor}

-- a fault that isn't out of memory is the fault of reading
pub fails_so : (fault : WireFault) (read : Result Asked WireFault) → fault ≢ Memory → Fails fault read
    → read ≡ Err fault
fails_so BadJson read found fails = fails
fails_so (Shape place) read found fails = fails
fails_so (NoPath place) read found fails = fails
fails_so (BadLength place) read found fails = fails
fails_so (Limit place) read found fails = fails
fails_so (Tree fault) read found fails = fails
fails_so Memory read found fails = absurd (found refl)

asks_so : (rows : Rows) (line : List ℕ) (asked : Result Request WireFault) → asked ≢ Err Memory
    → Gives asked_of asked (request_of rows line) → Asks rows line asked
asks_so rows line (Ok request) found gives = (gives, requests_fit rows line (asked_of request) gives)
asks_so rows line (Err fault) found gives =
    fails_so fault (request_of rows line) (λ is. found (ap (λ (f : WireFault). Err f) is)) gives

pub read_for : (Includes : Rows → Type 0) (tree : Rows) (line : List ℕ) (asked : Result Request WireFault)
    → ((rows : Rows) → Includes rows → unweighed tree ≡ unweighed rows) → asked ≢ Err Memory
    → Gives asked_of asked (request_of tree line) → IsReadFor Includes line (Some asked)
read_for Includes tree line asked same found gives = λ rows includes. asks_so rows line asked found
    (subst (Gives asked_of asked) (reading_goes_by_names tree rows line (same rows includes)) gives)

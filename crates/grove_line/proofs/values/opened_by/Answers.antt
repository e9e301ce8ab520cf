use Rattle.std.proofs.Common.{◌≡◌, ◌∷◌, None, refl, arith, inl, inr}
use Rattle.json.specs.Json.{value}
use Rattle.json.specs.Reads.{token_of}
use Rattle.json.proofs.Grammar.{value_is}
use Rattle.serde_json.specs.Data.{null, boolean, number, string}
use Rattle.grove_line.proofs.TokenValues.{null_starts, boolean_starts, text_starts, number_starts, number_unread}
use Rattle.grove_line.proofs.TokenValues.{array_too_deep, object_too_deep, nothing_starts}
use Rattle.grove_line.proofs.values.opened_by.Goals as goal

pub returns-then-depth-eq0-clause-unread : goal.returns-then-depth-eq0-clause-unread
returns-then-depth-eq0-clause-unread c refused ts = grind (arith, array_too_deep)

pub returns-then-depth-eq0-2-clause-unread : goal.returns-then-depth-eq0-2-clause-unread
returns-then-depth-eq0-2-clause-unread c refused ts = grind (arith, object_too_deep)

pub returns-in-Null-clause-opened : goal.returns-in-Null-clause-opened
returns-in-Null-clause-opened c ts = elim c.in-Null.is [
  | inl is ↦ record { whole = null; is = grind (arith, null_starts); holds = (refl, refl, refl) }
  | inr is ↦ record { whole = boolean is.0; is = grind (arith, boolean_starts); holds = (refl, refl, refl) }
]

pub returns-in-String-clause-opened : goal.returns-in-String-clause-opened
returns-in-String-clause-opened c ts =
    record { whole = string c.in-String.text.now; is = grind (arith, text_starts); holds = (refl, refl, refl) }

pub returns-in-EndArray-clause-unread : goal.returns-in-EndArray-clause-unread
returns-in-EndArray-clause-unread c refused ts =
    let none : value c.args.depth (token_of c.args.token ∷ ts) ≡ None =
    rw (value_is c.args.depth (token_of c.args.token ∷ ts)) (grind arith) in
    nothing_starts c.args.depth (token_of c.args.token ∷ ts) none

pub returns-in_err-number-in-Number-clause-unread : goal.returns-in_err-number-in-Number-clause-unread
returns-in_err-number-in-Number-clause-unread c refused ts = grind (arith, number_unread)

pub returns-in_ok-number-in-Number-clause-opened : goal.returns-in_ok-number-in-Number-clause-opened
returns-in_ok-number-in-Number-clause-opened c ts =
    let read = c.in_ok-number-in-Number.ensures.number in
    record { whole = number read.0; is = grind (arith, number_starts); holds = (refl, refl, read.2) }

-- A line's text, read as the value that its tokens begin with, and what the line asks for.
use Rattle.std.proofs.Common.{◌≡◌, ℕ, List, [], ◌∷◌, Option, Some, None, option_and_then, refl, ap, sym, ◌∙◌}
use Rattle.std.specs.Prelude.{Result, Ok, Err, IfOk, IsUtf8}
use Rattle.json.specs.Json as json
use Rattle.json.specs.Lex.{tokens}
use Rattle.json.specs.Token.{Token}
use Rattle.serde_json.specs.Data.{Data}
use Rattle.serde_json.specs.Read.{converted, of_json, read}
use Rattle.grove_tree.specs.Trees.{Rows}
use Rattle.grove_wire.specs.declared.fault.WireFault.{WireFault}
use Rattle.grove_wire.specs.declared.fault.WireFault.TheVariants.{BadJson}
use Rattle.grove_wire.specs.declared.request.Request.{Request}
use Rattle.grove_wire.specs.Outcomes.{◌>>=◌, or_fault, Gives}
use Rattle.grove_wire.specs.RequestLaws.{AskedFits}
use Rattle.grove_wire.specs.Requests.{asked_of, request_of}
use Rattle.grove_wire.proofs.Documents.{value_read, value_refused}
use Rattle.grove_wire.proofs.Each.{fails_so}
use Rattle.grove_wire.proofs.Requests.{requests_fit}
use Rattle.grove_line.specs.CheckReading.{asked}
use Rattle.grove_line.specs.OnlyMember.{asks}
use Rattle.grove_line.specs.TokenValues.{value_at}
use Rattle.grove_line.proofs.TokenValues.{converted_in, no_value}

-- ---- the text

abbrev whole : Option (json.Json × List Token) → Option Data
whole o = option_and_then of_json (option_and_then (λ p. json.if_last p.0 p.1) o)

whole_lost : (o : Option (json.Json × List Token)) → converted of_json o ≡ None → whole o ≡ None
whole_lost None lost = refl
whole_lost (Some (j, [])) lost = no_value [] (of_json j) lost
whole_lost (Some (j, t ∷ r)) lost = refl

module _ (text : List ℕ) (ts : List Token) (start : ts ≡ tokens text) where
  pub text_read : (d : Data) (r : List Token) → value_at 127 ts ≡ Some (d, r) → r ≡ [] → read text ≡ Some d
  unfolding value_at
  text_read d r is last =
      let found = converted_in of_json (json.value 127 ts) d r is in
      ap whole (ap (json.value 127) (sym start) ∙ found.1 ∙ ap (λ rest. Some (found.0, rest)) last) ∙ found.2

  pub more_behind : (d : Data) (r rest : List Token) (t : Token) → value_at 127 ts ≡ Some (d, r) → r ≡ t ∷ rest
      → read text ≡ None
  unfolding value_at
  more_behind d r rest t is more =
      let found = converted_in of_json (json.value 127 ts) d r is in
      ap whole (ap (json.value 127) (sym start) ∙ found.1 ∙ ap (λ left. Some (found.0, left)) more)

  pub text_unread : value_at 127 ts ≡ None → read text ≡ None
  unfolding value_at
  text_unread none =
      whole_lost (json.value 127 (tokens text)) (ap (λ x. converted of_json (json.value 127 x)) (sym start) ∙ none)

-- ---- the line

module _ (tree : Rows) (line : List ℕ) where
  pub unread_asks : (IsUtf8 line → read line ≡ None) → request_of tree line ≡ Err BadJson
  unfolding request_of
  unread_asks none = ap (λ o. or_fault BadJson o >>= asks tree) (value_refused line none)

  read_asks : (d : Data) → IsUtf8 line → read line ≡ Some d → request_of tree line ≡ asks tree d
  unfolding request_of
  read_asks d valid is = ap (λ o. or_fault BadJson o >>= asks tree) (value_read line d valid is)

  pub line_gives : (outcome : Result Request WireFault) (d : Data) → IsUtf8 line → read line ≡ Some d
      → asked outcome ≡ asks tree d → Gives asked_of outcome (request_of tree line)
  line_gives (Ok request) d valid is told = read_asks d valid is ∙ sym told
  line_gives (Err fault) d valid is told = fails_so fault (request_of tree line) (read_asks d valid is ∙ sym told)

  pub given_fits : (outcome : Result Request WireFault) → Gives asked_of outcome (request_of tree line)
      → IfOk outcome (λ request. AskedFits tree (asked_of request))
  given_fits (Ok request) gives = requests_fit tree line (asked_of request) gives
  given_fits (Err fault) gives = tt

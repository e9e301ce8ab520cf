use Rattle.std.proofs.Common.{◌≡◌, ◌∙◌, ◌∷◌, List, ap, length, map, refl, rules, subst, sym, inl, inr, arith}
use Rattle.std.proofs.lemmas.Result.{IfOk-weaker, err_from_is_err_and}
use Rattle.grove_base.proofs.Lists.{map_length}
use Rattle.csv.specs.Records.{Row, fields_of}
use Rattle.std.specs.List.{AllZip}
use Rattle.grove_table.specs.Tables.{AreLinesOf, AreRowsOf, IsLine}
use Rattle.grove_table.specs.Refusals.{AreBelow, AreFaultless, IsTextFaultless, IsTextRefused, IsWellNamed}
use Rattle.grove_table.specs.Rows.{AreRowsRefused}
use Rattle.grove_table.proofs.TextRefusals.{below_refuses, header_refuses, headless, if_err, on_ok, rowless}
use Rattle.grove_table.proofs.reading.read_table.Goals as goal
use Rattle.grove_table.proofs.reading.read_table.Goals.{in_default-via-in-Some+else-is_header}
use Rattle.grove_table.proofs.reading.read_table.Goals.{in_default-via-in_default}

pub returns-in_err-see_header-in-Some-clause-refused : goal.returns-in_err-see_header-in-Some-clause-refused
returns-in_err-see_header-in-Some-clause-refused c =
    let text = c.args.text.now in
    let first = fields_of c.in-Some.first.now in
    let below = map fields_of c.in-Some.below.now in
    let is = sym c.deref.ensures.value ∙ c.in-Some.ensures.cases.0 in
    let rows = subst (λ (items : List Row). AreRowsOf text (map fields_of items)) is c.in_ok-rows.ensures.rows in
    let header = c.is_header.ensures.0 c.if-is_header.true in
    let e = c.from_residual-in_err-see_header-in-Some in
    let p = err_from_is_err_and e.result e.ensures.1 in
    rw (p.1, p.2) (header_refuses text first below _ rows header c.in_err-see_header-in-Some.ensures.refused)

pub returns-in-Some-clause-read : goal.returns-in-Some-clause-read
returns-in-Some-clause-read c =
    let text = c.args.text.now in
    let first = fields_of c.in-Some.first.now in
    let below = map fields_of c.in-Some.below.now in
    let is = sym c.deref.ensures.value ∙ c.in-Some.ensures.cases.0 in
    let rows = subst (λ (items : List Row). AreRowsOf text (map fields_of items)) is c.in_ok-rows.ensures.rows in
    let header = c.is_header.ensures.0 c.if-is_header.true in
    IfOk-weaker c.lines_of.result (λ lines. AllZip IsLine below lines.items) (λ lines. AreLinesOf text lines.items)
    (λ lines all. (first ∷ below, rows, inr (first, below, refl, header, all))) c.lines_of.ensures.read

pub returns-in-Some-clause-faultless : goal.returns-in-Some-clause-faultless
returns-in-Some-clause-faultless c =
    let text = c.args.text.now in
    let first = fields_of c.in-Some.first.now in
    let below = map fields_of c.in-Some.below.now in
    let is = sym c.deref.ensures.value ∙ c.in-Some.ensures.cases.0 in
    let rows = subst (λ (items : List Row). AreRowsOf text (map fields_of items)) is c.in_ok-rows.ensures.rows in
    let header = c.is_header.ensures.0 c.if-is_header.true in
    let named : IsWellNamed first = search rules in
    on_ok c.lines_of.result (AreFaultless below) (IsTextFaultless text) c.lines_of.ensures.faultless
    (λ kept. (first ∷ below, rows, below, inl (first, refl, header, named), kept))

pub returns-in-Some-clause-refused : goal.returns-in-Some-clause-refused
returns-in-Some-clause-refused c =
    let text = c.args.text.now in
    let first = fields_of c.in-Some.first.now in
    let below = map fields_of c.in-Some.below.now in
    let is = sym c.deref.ensures.value ∙ c.in-Some.ensures.cases.0 in
    let rows = subst (λ (items : List Row). AreRowsOf text (map fields_of items)) is c.in_ok-rows.ensures.rows in
    let header = c.is_header.ensures.0 c.if-is_header.true in
    let named : IsWellNamed first = search rules in
    if_err c.lines_of.result (AreRowsRefused below) (IsTextRefused text) c.lines_of.ensures.refused
    (λ fault why. below_refuses text (first ∷ below) below fault rows (inl (first, refl, header, named)) why)

pub returns-clause-read : goal.returns-clause-read
returns-clause-read c =
    let text = c.args.text.now in
    let rows = map fields_of c.in_ok-rows.rows.items in
    IfOk-weaker c.lines_of-in_default.result (λ lines. AllZip IsLine rows lines.items)
    (λ lines. AreLinesOf text lines.items) (λ lines all. (rows, c.in_ok-rows.ensures.rows, inl all))
    (rw c.deref-in_default.ensures.value at c.lines_of-in_default.ensures.read)

pub returns-clause-faultless : goal.returns-clause-faultless
returns-clause-faultless c =
    let text = c.args.text.now in
    let rows = map fields_of c.in_ok-rows.rows.items in
    let all : AreBelow rows rows = elim c.in_default.branch [
      | in_default-via-in-Some+else-is_header w ↦
          let is : c.in_ok-rows.rows.items ≡ w.in-Some.first.now ∷ w.in-Some.below.now = search rules in
          headless rows (fields_of w.in-Some.first.now) (map fields_of w.in-Some.below.now) (ap (map fields_of) is)
          (search rules)
      | in_default-via-in_default w ↦
          let none : length c.in_ok-rows.rows.items ≡ 0 = search rules in
          rowless rows (map_length fields_of c.in_ok-rows.rows.items ∙ none)
    ] in
    on_ok c.lines_of-in_default.result (AreFaultless rows) (IsTextFaultless text)
    (rw c.deref-in_default.ensures.value at c.lines_of-in_default.ensures.faultless)
    (λ kept. (rows, c.in_ok-rows.ensures.rows, rows, all, kept))

pub returns-clause-refused : goal.returns-clause-refused
returns-clause-refused c = grind (arith, below_refuses, headless, if_err, map_length, rowless)

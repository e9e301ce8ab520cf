use Rattle.std.proofs.Common.{◌≡◌, ◌∙◌, subst, sym}
use Rattle.std.proofs.lemmas.Bool.Decides.{Decides-eqb}
use Rattle.grove_table.specs.Tables.{IsOfLine}
use Rattle.grove_table.proofs.confirming.is_of_line.Goals as goal

pub returns-in-Some : goal.returns-in-Some
returns-in-Some c same =
    let numbers : c.number.result ≡ c.number-in-Some.result =
    (Decides-eqb c.number.result c.number-in-Some.result).0 same in
    let is : c.in-Some.found ≡ c.args.node = sym c.number.ensures.is_it ∙ numbers ∙ c.number-in-Some.ensures.is_it in
    subst (λ node. IsOfLine c.args.tree.now c.args.records.now c.args.lines.now node) is c.in-Some.ensures.line

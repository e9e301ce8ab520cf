use Rattle.std.proofs.Common.{ℕ, ◌≡◌, rules, below_more, subst, ◌⊎◌}
use Rattle.grove_table.specs.Tables.{IsAdded, IsOfLine}
use Rattle.grove_table.proofs.confirming.have_lines.Goals as goal

pub loop-number-preserved : goal.loop-number-preserved
loop-number-preserved c =
    let P : ℕ → Type 0 = λ t. IsOfLine c.args.tree.now c.args.records.now c.args.lines.now t
    ⊎ IsAdded c.args.absent c.args.tree.now c.args.records.now c.args.lines.now t in
    let is : c.new.result ≡ c.loop-number.number = search rules in
    below_more P c.loop-number.number c.loop-number.invariant (subst P is (c.comes_from.ensures (search rules)))

use Rattle.std.proofs.Common.{refl, sym, subst}
use Rattle.grove_c.specs.declared.kept.Kept.{Kept}
use Rattle.grove_c.specs.declared.kept.Kept.TheVariants.{Store}
use Rattle.grove_c.specs.Handles.{AnswersBy}
use Rattle.grove_c.proofs.kept.Kept.answer.Goals as goal

pub returns-in-Store : goal.returns-in-Store
returns-in-Store c =
    subst (λ (old : Kept). AnswersBy c.args.line.now old (Store c.answer.new.self) c.args.text.now c.answer.new.text
    c.answer.result) (sym c.in-Store.is) (c.answer.new.self, refl, c.answer.ensures)

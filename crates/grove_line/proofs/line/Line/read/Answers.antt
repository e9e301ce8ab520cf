use Rattle.std.proofs.Common.{sym, subst}
use Rattle.grove_line.specs.Lines.{IsReadFor}
use Rattle.grove_line.proofs.Lines.{read_for}
use Rattle.grove_line.proofs.line.Line.read.Goals as goal

pub invariant_of-self : goal.invariant_of-self
invariant_of-self g c = (
  c.self.invariant.0,
  subst (IsReadFor g.T.Trees.includes c.self.inside.text.items) (sym c.replace.ensures.after)
      (read_for g.T.Trees.includes c.args.tree.now c.self.inside.text.items c.read-asked.result
      (λ rows includes. c.requires.same rows includes) (c.lacks_memory.ensures c.if-not-lacks_memory.true)
      (rw c.deref.ensures.value at c.read-asked.ensures.read)),
)

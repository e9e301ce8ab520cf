use Rattle.std.proofs.Common.{length, drop, ◌∙◌, take_at}
use Rattle.grove_flow.specs.States.{AreRebased}
use Rattle.grove_flow.proofs.Starting.{solution_is}
use Rattle.grove_flow.proofs.solving.solve.Goals as goal

pub returns : goal.returns
returns c =
    let rebased : AreRebased (length c.fulfil.new.self.places.items) c.fulfil.new.self.places.items c.rebase.new.places = rw c.deref_mut.ensures.value at c.rebase.ensures in
    record {
      solution = rw (take_at c.rebase.new.places (drop (length c.rebase.new.places) c.fulfil.new.self.places.items) c.fulfil.new.self.places.len (c.rebase.auto.places ∙ c.deref_mut.ensures.len))
          (solution_is c.in_ok-fulfil.ensures.state c.in_ok-fulfil.ensures.given rebased);
    }

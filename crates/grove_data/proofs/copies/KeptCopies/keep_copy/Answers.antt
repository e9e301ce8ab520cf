use Rattle.std.proofs.Common.{ap}
use Rattle.grove_data.specs.Copies.{CopiesState}
use Rattle.grove_data.proofs.Led.{next_by_led, leaves_either}
use Rattle.grove_data.proofs.copies.KeptCopies.keep_copy.Goals as goal

pub keep-requires : goal.keep-requires
keep-requires g c =
    let it = c.self.invariant c.if-self.false in (
      it.last,
      it.stands,
      next_by_led g.B.Opening.store it.last c.args.copy.now it.is_store c.tree.ensures.store it.led c.requires.led,
    )

pub returns-in-Ok-clause-any_moment : goal.returns-in-Ok-clause-any_moment
returns-in-Ok-clause-any_moment g c = λ sound.
    let it = c.self.invariant c.if-self.false in
    leaves_either g.K.Keeper.stands_for g.K.Keeper.leaves_only g.B.Opening.store c.args.copy.now _ _ _
    (ap (λ (s : CopiesState _). s.keeper) c.self.view_is) it (c.keep.ensures.any_moment it.last it.stands)

pub returns-in-Err-clause-any_moment : goal.returns-in-Err-clause-any_moment
returns-in-Err-clause-any_moment g c = λ sound.
    let it = c.self.invariant c.if-self.false in
    leaves_either g.K.Keeper.stands_for g.K.Keeper.leaves_only g.B.Opening.store c.args.copy.now _ _ _
    (ap (λ (s : CopiesState _). s.keeper) c.self.view_is) it (c.keep.ensures.any_moment it.last it.stands)

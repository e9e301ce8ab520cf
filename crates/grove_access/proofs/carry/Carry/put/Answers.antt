use Rattle.std.proofs.Common.{◌≡◌, None, is_some, length, subst, sym, ap, ◌∙◌, arith}
use Rattle.grove_access.specs.Carries.{Carried, known_at}
use Rattle.grove_access.specs.KnownPlaces.{Counts}
use Rattle.grove_access.proofs.CarriedNodes.{sound_held, length-more, grown}
use Rattle.grove_base.proofs.Lists.{none_there}
use Rattle.grove_access.proofs.carry.Carry.put.Goals as goal

pub invariant_of-self : goal.invariant_of-self
invariant_of-self c =
    let none : known_at c.self.inside.known.items c.args.node ≡ None =
    none_there (known_at c.self.inside.known.items c.args.node)
    (ap (λ (k : Carried). is_some (known_at k.known c.args.node)) c.self.view_is
    ∙ sym c.has.ensures ∙ c.if-has.false) in (
      sound_held c.self.inside.known.items c.hold.new.known.items c.self.inside.entries.items _ c.hold.ensures.items none c.self.invariant.0,
      grown (length c.self.inside.known.items) (length c.hold.new.known.items) c.len.result c.self.inside.most_nodes (length-more c.self.inside.known.items c.hold.new.known.items _ c.hold.ensures.items) (c.len.ensures ∙ c.self.inside.known.ok.0) c.if-len-self.false c.self.invariant.1,
      omega (arith, c.self.invariant.2, c.hold.ensures.capacity),
      c.self.invariant.3,
      c.self.invariant.4,
      c.self.invariant.5,
      subst (Counts c.add.new.self.counts.items) (sym c.hold.ensures.items) (c.add.ensures c.self.inside.known.items _ c.self.invariant.6),
    )

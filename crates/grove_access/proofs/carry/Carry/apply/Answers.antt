use Rattle.std.proofs.Common.{◌≡◌, length, ◌∙◌, ap, arith, rules, w64, FitsSigned}
use Rattle.std.proofs.lemmas.Int.{to_z-of_z}
use Rattle.grove_access.specs.Effects.{answer}
use Rattle.grove_access.proofs.CarriedNodes.{sound_applied, length-more, grown}
use Rattle.grove_access.proofs.carry.Carry.apply.Goals as goal

pub invariant_of-self : goal.invariant_of-self
invariant_of-self c =
    let fits : FitsSigned w64 c.in_ok-value.value = search rules in
    let answered : c.reply_on-reply.result ≡ answer c.get-visit.result.op c.in_ok-value.value = c.reply_on-reply.ensures ∙ ap (answer c.get-visit.result.op) (to_z-of_z w64 c.in_ok-value.value fits) in (
      sound_applied c.self.inside.known.items c.self.inside.entries.items c.note.new.entries.items _ c.in_ok-value.value c.note.ensures.items
          (search rules) answered c.self.invariant.0,
      c.self.invariant.1,
      c.self.invariant.2,
      grown (length c.self.inside.entries.items) (length c.note.new.entries.items) c.len-else-access-len.result c.self.inside.most_entries (length-more c.self.inside.entries.items c.note.new.entries.items _ c.note.ensures.items) (c.len-else-access-len.ensures ∙ c.self.inside.entries.ok.0) c.if-len-self.false c.self.invariant.3,
      omega (arith, c.self.invariant.4, c.note.ensures.capacity),
      c.self.invariant.5,
      c.self.invariant.6,
    )

use Rattle.std.proofs.Common.{w64, SFits, refl, ap, ◌∙◌, rules}
use Rattle.std.proofs.lemmas.Int.{to_z-of_z}
use Rattle.grove_access.specs.declared.access.Op.TheVariants.{Set}
use Rattle.grove_core.proofs.DoneInTurn.{does_one}
use Rattle.grove_core.proofs.alone.DoneAlone.do_access.Goals as goal

pub returns : goal.returns
returns c =
    let fits : SFits w64 c.get-old.result = search rules in
    does_one c.args.records.now c.apply-reply.new.self c.args.access c.storing.result c.apply-reply.result
    c.args.self.now _ c.apply-reply.ensures.records
    c.apply-reply.ensures.reply c.storing.ensures.node
    (c.storing.ensures.op ∙ ap Set (to_z-of_z w64 c.get-old.result fits ∙ c.get-old.ensures))
    c.push_reserved.ensures.items c.push_reserved.ensures.capacity c.push_reserved-2.ensures.items
    c.push_reserved-2.ensures.capacity refl

use Rattle.std.proofs.Common.{◌≡◌, length, pos, refl, arith}
use Rattle.std.proofs.lemmas.List.{ext_get_or}
use Rattle.grove_store.proofs.same.same_records.Goals as goal

pub returns : goal.returns
returns c =
    let long : length c.args.records.now ≡ length c.args.others.now = omega arith in (
      λ _. ext_get_or (pos 0) c.args.records.now c.args.others.now long (λ node lt. c.loop-number.invariant node (omega arith)),
      λ _. refl,
    )

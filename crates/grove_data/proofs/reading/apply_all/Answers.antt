use Rattle.grove_data.proofs.Counting.{words_small}
use Rattle.grove_data.proofs.Leading.{went_on}
use Rattle.grove_data.proofs.reading.apply_all.Goals as goal

pub loop-effect-preserved : goal.loop-effect-preserved
loop-effect-preserved c =
    went_on c.args.numbers.now c.args.effects c.loop-effect.numbers c.in-Some.effect.now c.apply_effect.new.numbers
    c.loop-effect.effects c.next_payload.new.self c.loop-effect.invariant c.in-Some.ensures
    (words_small c.apply_effect.new.numbers c.type_inv.numbers) c.in_ok-apply_effect.ensures.long
    c.in_ok-apply_effect.ensures.leads (λ next are longs same. (c.in_ok-apply_effect.ensures.led next are longs same).1)

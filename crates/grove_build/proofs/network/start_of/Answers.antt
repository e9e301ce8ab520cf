use Rattle.std.proofs.Common.{pos, refl, arith, [], ◌∷◌, ◌++◌, ap, ◌∙◌}
use Rattle.std.proofs.lemmas.Int.{ints}
use Rattle.grove_build.specs.Networks.{start_of}
use Rattle.grove_build.proofs.Pushes.{pieces_more, rest_pushed}
use Rattle.grove_build.proofs.network.start_of.Goals as goal

pub loop-row-init : goal.loop-row-init
loop-row-init c = rw c.new-start.ensures.items refl

pub loop-row-preserved : goal.loop-row-preserved
loop-row-preserved c =
    pieces_more (λ k. start_of c.args.slots) (λ k row. pos 0 ∷ (pos c.args.slots ∷ [])) (λ k row rows. refl) c.args.rows.now
    c.loop-row._row-index c._row-item.result c._row-item.result c.loop-row.start.items c.push_pair.new.numbers.items _
    c.loop-row-test.true c._row-item.is c.loop-row.invariant
    (c.in_ok-push_pair.ensures ∙ ap (λ release. c.loop-row.start.items ++ (pos 0 ∷ (release ∷ []))) (omega (arith, ints)))

pub returns : goal.returns
returns c =
    c.in_ok-push.ensures.items
    ∙ rest_pushed (start_of c.args.slots) c.args.rows.now c.loop-row._row-index c.loop-row.start.items _
    c.loop-row-test.false c.loop-row.invariant

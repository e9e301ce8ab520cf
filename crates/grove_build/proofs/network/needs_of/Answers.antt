use Rattle.std.proofs.Common.{pos, neg_ℤ, refl, arith, get_or, [], ◌∷◌, ◌++◌, ap₂, ◌∙◌}
use Rattle.std.proofs.lemmas.Int.{ints}
use Rattle.grove_build.specs.Networks.{needs_from}
use Rattle.grove_build.proofs.Pushes.{pieces_more, rest_pushed}
use Rattle.grove_build.proofs.network.needs_of.Goals as goal

pub loop-weight-init : goal.loop-weight-init
loop-weight-init c = rw c.in_ok-needs.ensures.items refl

pub loop-weight-preserved : goal.loop-weight-preserved
loop-weight-preserved c =
    let fits = c.type_inv.weights c.loop-weight.weight-index in
    pieces_more (λ k. needs_from) (λ k weight. neg_ℤ (pos weight) ∷ (pos weight ∷ [])) (λ k weight weights. refl)
    c.args.weights.now c.loop-weight.weight-index (get_or c.args.weights.now c.loop-weight.weight-index 0) 0 c.loop-weight.needs.items
    c.push_pair.new.numbers.items _ c.loop-weight-test.true refl c.loop-weight.invariant
    (c.in_ok-push_pair.ensures ∙ ap₂ (λ lock release. c.loop-weight.needs.items ++ (lock ∷ (release ∷ []))) (omega (arith, ints)) (omega (arith, ints)))

pub returns : goal.returns
returns c =
    c.in_ok-push.ensures.items
    ∙ rest_pushed needs_from c.args.weights.now c.loop-weight.weight-index c.loop-weight.needs.items _
    c.loop-weight-test.false c.loop-weight.invariant

use Rattle.std.proofs.Common.{[], ◌∷◌, ◌++◌, refl, ap, ◌∙◌}
use Rattle.grove_build.specs.Stays.{stay_of, stays_from}
use Rattle.grove_build.proofs.Pushes.{pieces_more, all_pushed}
use Rattle.grove_build.proofs.stays.stays_of.Goals as goal

pub loop-k-preserved : goal.loop-k-preserved
loop-k-preserved c =
    pieces_more (stays_from c.args.gaps.now c.args.needed.now) (λ k row. stay_of c.args.gaps.now c.args.needed.now k row ∷ [])
    (λ k row rows. refl) c.args.rows.now c.loop-k.k c.index-rows-k.result c.index-rows-k.result c.loop-k.stays.items
    c.push.new.self.items _ c.loop-k-test.true c.index-rows-k.is c.loop-k.invariant
    (c.in_ok-push.ensures.items ∙ ap (λ stay. c.loop-k.stays.items ++ stay ∷ []) c.stay_of.ensures)

pub returns : goal.returns
returns c =
    all_pushed (stays_from c.args.gaps.now c.args.needed.now c.loop-k.k) refl c.args.rows.now c.loop-k.k
    c.loop-k.stays.items _ c.loop-k-test.false
    c.loop-k.invariant

use Rattle.std.proofs.Common.{◌≡◌, arith, ◌∷◌, [], length}
use Rattle.grove_build.specs.Keeping.{AreTargetsOf}
use Rattle.grove_build.proofs.Popped.{front_item, settled_popped, kept_popped}
use Rattle.grove_build.proofs.kept_plans.KeptPlans.keep_each.Goals as goal

pub loop-last-preserved : goal.loop-last-preserved
loop-last-preserved c =
    let at = c.loop-last in
    let first = rw c.in-Some.ensures.items at at.invariant.first in
    let within = at.invariant.within in
    let room = at.invariant.room in
    let grown = c.keep.ensures.grows in
    let counted : c.len.result ≡ length c.pop.new.self.items = omega (arith, c.len.ensures, c.pop.new.self.ok) in
    let own : AreTargetsOf c.index-parts-len.result.now c.in_ok-targets.targets.items =
    record { nodes = c.in_ok-targets.ensures.nodes; lengths = c.in_ok-targets.ensures.lengths } in
    record {
      within = omega (arith, c.in-Some.ensures.len);
      room = omega (arith, c.in-Some.ensures.len);
      first = λ k planned there. first k planned (front_item c.pop.new.self.items (c.in-Some.last ∷ []) k planned there);
      kept = λ place part from there.
          kept_popped c.args.parts.now c.len.result (length at.planned.items) c.index-parts-len.result at.self
          c.keep.new.self at.invariant.kept (omega (arith, c.in-Some.ensures.len))
          c.index-parts-len.is c.in_ok-keep.ensures.stay
          (c.in_ok-keep.field-0, c.in_ok-keep.ensures.stands c.index-parts-len.result.now own) place part (omega arith)
          there;
      stay = λ list before. c.in_ok-keep.ensures.stay list (at.invariant.stay list before);
      settled = λ rows zip before.
          settled_popped rows c.args.parts.now c.args.planned.items c.pop.new.self.items c.in-Some.last c.len.result c.index-parts-len.result c.in_ok-targets.targets.items
          at.self c.keep.new.self zip first counted c.index-parts-len.is own (at.invariant.settled rows zip before)
          c.keep.ensures.others;
    }

pub returns-in_err-keep-clause-settled : goal.returns-in_err-keep-clause-settled
returns-in_err-keep-clause-settled c =
    λ rows zip before.
    let at = c.loop-last in
    let first = rw c.in-Some.ensures.items at at.invariant.first in
    let counted : c.len.result ≡ length c.pop.new.self.items = omega (arith, c.len.ensures, c.pop.new.self.ok) in
    settled_popped rows c.args.parts.now c.args.planned.items c.pop.new.self.items c.in-Some.last c.len.result c.index-parts-len.result c.in_ok-targets.targets.items
    at.self c.keep.new.self zip first counted c.index-parts-len.is
    record { nodes = c.in_ok-targets.ensures.nodes; lengths = c.in_ok-targets.ensures.lengths } (at.invariant.settled rows zip before) c.keep.ensures.others

use Rattle.std.proofs.Common.{rules, arith, IfOk}
use Rattle.std.specs.List.{AllZip}
use Rattle.grove_build.specs.Batches.{IsPlanned}
use Rattle.grove_build.proofs.Batched.{AllZip-halves}
use Rattle.grove_build.proofs.parts.+halving.Goals as goal

pub join+arg2-plan_parts-requires : goal.join+arg2-plan_parts-requires
join+arg2-plan_parts-requires g t c κs within = grind (arith)

pub join+arg3-plan_parts-requires : goal.join+arg3-plan_parts-requires
join+arg3-plan_parts-requires g t c κs within = grind (arith)

pub returns : goal.returns
returns g t c =
    let early : IfOk c.join-late.result.1 (λ all. AllZip (λ part planned. IsPlanned c.args.tree.now part.now planned)
    c.split_at.result.0.now all.items) = search rules in
    let late : IfOk c.join-late.result.0 (λ all. AllZip (λ part planned. IsPlanned c.args.tree.now part.now planned)
    c.split_at.result.1.now all.items) = search rules in
    AllZip-halves (λ part planned. IsPlanned c.args.tree.now part.now planned) c.args.parts.now
    c.split_at.result.0.now c.split_at.result.1.now _
    c.in_ok-all.all.items c.in_ok-rest.rest.items _ c.split_at.ensures.front c.split_at.ensures.back
    (rw c.in_ok-all.was at early) (rw c.in_ok-rest.was at late) c.in_ok-append.ensures.items

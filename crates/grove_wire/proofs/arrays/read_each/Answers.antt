use Rattle.std.proofs.Common.{[], ◌∷◌, ◌+◌, ◌∙◌, ap, sym, append-nil, subst}
use Rattle.std.specs.Prelude.{Ok, Err}
use Rattle.std.proofs.lemmas.List.{drop_all}
use Rattle.grove_wire.specs.Outcomes.{◌>>=◌}
use Rattle.grove_wire.specs.Arrays.{EachRead, ReadsAt, ends, stops, goes}
use Rattle.grove_wire.proofs.Each.{with_front-more, reads_at, turn, stopped_by}
use Rattle.grove_wire.proofs.arrays.read_each.Goals as goal

pub returns-in_err-one-clause-stopped : goal.returns-in_err-one-clause-stopped
returns-in_err-one-clause-stopped g c =
    let fault = c.in_err-one.field-0.0 in
    let value = c.index-items-at.result in
    let step = reads_at g.F.Fn c.read.ensures c.in_err-one.was in
    let left = turn c.args.items.now c.loop-at.at value c.loop-at-test.true c.index-items-at.is in
    stopped_by c.from_residual.result fault (EachRead (ReadsAt g.F.Fn c.args.read) 0 c.args.items.now)
    c.from_residual.ensures.1 (c.loop-at.invariant.read (Err fault) (rw left (stops c.loop-at.at value _ fault step)))

pub loop-at-preserved : goal.loop-at-preserved
loop-at-preserved g c =
    let one = c.in_ok-one.one in
    let value = c.index-items-at.result in
    let step = reads_at g.F.Fn c.read.ensures c.in_ok-one.was in
    let left = turn c.args.items.now c.loop-at.at value c.loop-at-test.true c.index-items-at.is in
    record {
      read = λ rest is. rw (c.in_ok-push.ensures.items, sym (with_front-more c.loop-at.all.items one rest))
          (c.loop-at.invariant.read (rest >>= λ xs. Ok (one ∷ xs))
          (rw left (goes c.loop-at.at value _ one rest step is)));
      many = c.in_ok-push.ensures.len ∙ ap (λ n. n + 1) c.loop-at.invariant.many;
    }

pub returns-clause-all : goal.returns-clause-all
returns-clause-all g c =
    let over = drop_all c.loop-at.at c.args.items.now c.loop-at-test.false in
    subst (λ xs. EachRead (ReadsAt g.F.Fn c.args.read) 0 c.args.items.now (Ok xs)) (append-nil c.loop-at.all.items)
    (c.loop-at.invariant.read (Ok []) (rw over (ends c.loop-at.at)))

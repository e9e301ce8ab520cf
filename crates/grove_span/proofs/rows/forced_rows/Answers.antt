use Rattle.std.proofs.Common.{◌≡◌, ◌≤◌, get_or, Some, sym, ◌∙◌, ap, add-one, arith}
use Rattle.std.proofs.lemmas.Option.{slice_get-get_or}
use Rattle.grove_access.specs.Lists.{nodes_of, lengths_of}
use Rattle.grove_span.proofs.ForcedWays.{span_begins, next_target, span_next, span_skips, span_ends}
use Rattle.grove_span.proofs.rows.forced_rows.Goals as goal

pub loop-target-init : goal.loop-target-init
loop-target-init c = grind (arith, span_begins)

pub push_way-requires-clause-way : goal.push_way-requires-clause-way
push_way-requires-clause-way c =
    let targets = c.args.targets.now in
    let i = c.loop-target.target-index in
    let listed = c.loop-target.listed in
    let is : c.new-target.result ≡ get_or targets i 0 = c.new-target.ensures in
    let ahead : listed.next ≤ get_or targets i 0 = c.if-target-listed.true in
    next_target c.args.tree.now (nodes_of c.args.list.now) (lengths_of c.args.list.now) targets c.args.top i listed.next
    c.new-target.result listed.numbers.items listed.rows.items c.len-nodes.ensures.tree c.requires.fits c.requires.top
    c.requires.targets (slice_get-get_or targets i 0 c.loop-target-test.true ∙ ap Some (sym is)) (omega arith)
    c.loop-target.invariant

pub loop-target-preserved : goal.loop-target-preserved
loop-target-preserved c = grind (arith, add-one, slice_get-get_or, span_next, span_skips)

pub returns-clause-nodes : goal.returns-clause-nodes
returns-clause-nodes c =
    let all = span_ends c.args.tree.now (nodes_of c.args.list.now)
    (lengths_of c.args.list.now) c.args.targets.now c.args.top c.loop-target.target-index c.loop-target.listed.next
    c.loop-target.listed.numbers.items c.loop-target.listed.rows.items c.len-nodes.ensures.tree c.requires.fits
    c.requires.targets c.loop-target-test.false c.loop-target.invariant in
    all.listed ∙ all.counted

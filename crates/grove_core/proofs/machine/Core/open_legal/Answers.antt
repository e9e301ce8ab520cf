use Rattle.std.proofs.Common.{rules, ◌≡◌, ◌<◌, ◌≤◌, length, sym, ◌∙◌, ap, arith}
use Rattle.std.specs.Prelude.{vec_capacity}
use Rattle.grove_core.specs.RunBounds.{most_events}
use Rattle.grove_core.proofs.CoreOpens.{opened, firsts_within}
use Rattle.grove_core.proofs.machine.Core.open_legal.Goals as goal

pub invariant_of-result : goal.invariant_of-result
invariant_of-result c =
    let enough : most_events c.args.jobs.now ≤ c.room.result = c.room.ensures.enough in
    let room : vec_capacity c.in_ok-history.history ≡ c.room.result = c.in_ok-history.ensures.exact in
    opened (record { tree = c.args.tree.now; jobs = c.args.jobs.now; opening = c.in_ok-opening.opening; history = c.in_ok-history.history.items }) _
    c.len-nodes.result c.in_ok-history.ensures.items c.len-nodes.ensures.tree c.requires.few c.requires.legal c.room.ensures.short
    (ap length c.in_ok-opening.ensures ∙ c.requires.records) c.len-nodes.ensures.number (omega arith)
    (c.in_ok-records.ensures ∙ sym c.in_ok-opening.ensures) c.in_ok-progress.ensures.number c.in_ok-progress.ensures.started
    (c.in_ok-owners.ensures.items_if_clones_equal (search rules)) (c.in_ok-waits.ensures.items_if_clones_equal (search rules)) c.in_ok-firsts.ensures

pub mark_firsts-requires : goal.mark_firsts-requires
mark_firsts-requires c =
    let size : c.len-nodes.result ≡ length c.args.tree.now = c.len-nodes.ensures.number in
    λ node first. let lt : node < length c.args.tree.now = firsts_within c.args.tree.now c.args.jobs.now c.requires.legal node first in omega arith

use Rattle.std.proofs.Common.{◌≡◌, ◌<◌, sym, length, arith, subst, ℕ, List}
use Rattle.grove_access.specs.Lists.{nodes_of}
use Rattle.grove_access.proofs.Lists.{nodes_length}
use Rattle.grove_span.specs.Ways.{AreAscending}
use Rattle.grove_span.proofs.ForcedRows.{none_forced}
use Rattle.grove_span.proofs.LowestCommon.{targets_some}
use Rattle.grove_span.proofs.spanning.span.Goals as goal

pub returns-then-len-eq0-clause-nodes : goal.returns-then-len-eq0-clause-nodes
returns-then-len-eq0-clause-nodes c = grind (arith, nodes_length, none_forced)

pub lowest_common-top-requires-clause-some : goal.lowest_common-top-requires-clause-some
lowest_common-top-requires-clause-some c =
    let other = c.if-len-eq0.false in
    let size : c.len.result ≡ length c.args.list.now = c.len.ensures.number in
    let some : 0 < length (nodes_of c.args.list.now) = omega (arith, nodes_length c.args.list.now) in
    targets_some (nodes_of c.args.list.now) c.deref.result.now
    (subst (λ (xs : List ℕ). AreAscending (nodes_of c.args.list.now) xs)
    (sym c.deref.ensures.value) c.in_ok-targets.ensures) some

pub lowest_common-top-requires-clause-within : goal.lowest_common-top-requires-clause-within
lowest_common-top-requires-clause-within c = grind (arith)

pub forced_rows-requires-clause-top : goal.forced_rows-requires-clause-top
forced_rows-requires-clause-top c = grind (arith)

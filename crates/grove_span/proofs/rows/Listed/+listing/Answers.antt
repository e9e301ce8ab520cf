use Rattle.std.proofs.Common.{◌≡◌, ◌<◌, ◌≤◌, ℕ, List, Some, length, sym, ◌∙◌, ap, subst, arith}
use Rattle.std.specs.Option.{option_and_then}
use Rattle.std.proofs.lemmas.Bool.{both_ways, eq-eqb}
use Rattle.grove_tree.specs.Trees.{parent_of}
use Rattle.grove_tree.proofs.Above.{above_within, parent_lt}
use Rattle.grove_access.specs.Lists.{nodes_of, lengths_of}
use Rattle.grove_span.specs.SpanRows.{find_place}
use Rattle.grove_span.specs.Ways.{IsNextOnWay}
use Rattle.grove_span.proofs.ForcedRows.{numbers_rise}
use Rattle.grove_span.proofs.ForcedWays.{way_up, way_back, way_lists, unnamed_before, numbers_few}
use Rattle.grove_span.proofs.rows.Listed.+listing.Goals as goal

pub push_above-parent-requires : goal.push_above-parent-requires
push_above-parent-requires t c = above_within c.args.tree.now c.len-nodes.ensures.tree _ _ c.requires.way.above c.requires.way.within

pub push_above-push_way-requires : goal.push_above-push_way-requires
push_above-push_way-requires t c =
    let own : parent_of c.args.tree.now c.args.node ≡ Some c.in-Some.parent = sym c.parent.ensures ∙ c.in-Some.is in
    let less : c.in-Some.parent < c.args.node = parent_lt c.args.tree.now c.len-nodes.ensures.tree c.args.node c.in-Some.parent own in
    let ahead : c.args.self.now.next ≤ c.in-Some.parent = omega (arith, c.if-number-self.false, c.number.ensures.is_it) in
    let way : IsNextOnWay c.args.tree.now (nodes_of c.args.list.now) (lengths_of c.args.list.now) c.args.self.now.next c.args.target c.in-Some.parent
    c.args.self.now.numbers.items c.args.self.now.rows.items = way_up _ _ _ _ _ _ _ _ _ own ahead c.requires.way in
    (omega (arith, c.decreases), (c.requires.fits, way))

pub push_above-returns-clause-way : goal.push_above-returns-clause-way
push_above-returns-clause-way t c =
    let own : parent_of c.args.tree.now c.args.node ≡ Some c.in-Some.parent = sym c.parent.ensures ∙ c.in-Some.is in
    let ahead : c.args.self.now.next ≤ c.in-Some.parent = omega (arith, c.if-number-self.false, c.number.ensures.is_it) in
    way_back _ _ _ _ _ _ _ _ _ _ _ _ c.len-nodes.ensures.tree own ahead c.in_ok-push_way.ensures.next c.requires.way c.in_ok-push_way.ensures.listed

pub push_way-parent-requires : goal.push_way-parent-requires
push_way-parent-requires t c = above_within c.args.tree.now c.len-nodes.ensures.tree _ _ c.requires.way.above c.requires.way.within

pub push_way-parent_place-place-requires-clause-few : goal.push_way-parent_place-place-requires-clause-few
push_way-parent_place-place-requires-clause-few t c =
    subst (λ (xs : List ℕ). length xs ≤ 4096) (sym c.deref.ensures.value)
    (numbers_few c.args.tree.now (nodes_of c.args.list.now) (lengths_of c.args.list.now) _ _ _ _ _ c.len-nodes.ensures.tree c.len-nodes.ensures.limits.few
    c.in_ok-push_above.ensures.way)

pub push_way-parent_place-place-requires-clause-rising : goal.push_way-parent_place-place-requires-clause-rising
push_way-parent_place-place-requires-clause-rising t c = grind (arith, numbers_rise)

pub push_way-visits_at-visits-requires : goal.push_way-visits_at-visits-requires
push_way-visits_at-visits-requires t c = λ other.
    unnamed_before c.args.tree.now (nodes_of c.args.list.now) (lengths_of c.args.list.now) _ _ _ _ _ c.len-nodes.ensures.tree
    (λ same. both_ways c.eq.result other (c.eq.ensures ∙ eq-eqb c.args.node c.args.target same)) c.in_ok-push_above.ensures.way

pub push_way-row_of-requires-clause-within : goal.push_way-row_of-requires-clause-within
push_way-row_of-requires-clause-within t c = above_within c.args.tree.now c.len-nodes.ensures.tree _ _ c.requires.way.above c.requires.way.within

pub push_way-push-requires : goal.push_way-push-requires
push_way-push-requires t c =
    let within = above_within c.args.tree.now c.len-nodes.ensures.tree _ _ c.requires.way.above c.requires.way.within in
    omega (arith, within, c.row_of.ensures.node, c.len-nodes.ensures.limits.few)

pub push_way-returns-clause-listed : goal.push_way-returns-clause-listed
push_way-returns-clause-listed t c =
    way_lists c.args.tree.now (nodes_of c.args.list.now) (lengths_of c.args.list.now) _ _ _ _ _ _ _ _ c.row_of.result c.len-nodes.ensures.tree c.requires.fits
    c.in_ok-push_above.ensures.parent c.row_of.ensures.node c.row_of.ensures.weight
    (c.row_of.ensures.parent ∙ c.parent_place-place.ensures
    ∙ ap (λ (xs : List ℕ). option_and_then (λ p. find_place p xs) c.parent.result) c.deref.ensures.value
    ∙ ap (λ o. option_and_then (λ p. find_place p c.push_above.new.self.numbers.items) o) c.parent.ensures)
    c.row_of.ensures.accesses c.in_ok-push.ensures.next c.in_ok-push.ensures.numbers c.in_ok-push.ensures.rows c.in_ok-push_above.ensures.way

use Rattle.std.proofs.Common.{◌≡◌, ◌++◌, ◌∷◌, [], None, refl, ap, sym, ◌∙◌, arith}
use Rattle.std.specs.Prelude.{Ok, Err}
use Rattle.json.specs.Json.{after_end_array}
use Rattle.grove_line.specs.ArrayItems.{with_next}
use Rattle.grove_line.proofs.TokenValues.{items_begin, items_turn, items_stop, items_over, starts_shorter}
use Rattle.grove_line.proofs.ArrayItems.{tally_begin, tally_turn, tally_past, tally_few, tally_many, fault_told}
use Rattle.grove_line.proofs.ArrayItems.{none_told}
use Rattle.grove_wire.specs.Places.{item_on}
use Rattle.grove_line.proofs.items.items_inside.Goals as goal
use Rattle.grove_line.proofs.items.items_inside.Goals.{then-is_none+then-count-most+in_ok-item+in-Ok+in_ok-push-in-Ok}
use Rattle.grove_line.proofs.items.items_inside.Goals.{then-is_none+then-count-most+in_ok-item+in-Err}
use Rattle.grove_line.proofs.items.items_inside.Goals.{else-is_none+in_ok-pass}
use Rattle.grove_line.proofs.items.items_inside.Goals.{else-is_none-via-then-is_none+else-count-most}
use Rattle.grove_line.proofs.items.items_inside.Goals.{else-is_none-via-else-is_none}

pub items-init : goal.items-init
items-init g c = record {
  front = _;
  items = items_begin c.args.depth c.args.reader.now;
  tally = rw c.new-all.ensures.items (tally_begin (g.I.Item.reads c.args.finder.now) c.args.most c.args.place);
  few = omega (arith, c.new-all.ensures.len);
  tree = refl;
}

pub returns-in_err-item-clause-unread : goal.returns-in_err-item-clause-unread
returns-in_err-item-clause-unread g c refused =
    items_stop c.items.invariant.items (grind arith) (c.next.ensures.unread (grind arith))

pub returns-in_err-pass-clause-unread : goal.returns-in_err-pass-clause-unread
returns-in_err-pass-clause-unread g c refused =
    items_stop c.items.invariant.items (grind arith) (c.pass.ensures.unread (grind arith))

pub items-smaller : goal.items-smaller
items-smaller g c = elim c.if-is_none.branch [
  | then-is_none+then-count-most+in_ok-item+in-Ok+in_ok-push-in-Ok w ↦ grind (arith, starts_shorter)
  | then-is_none+then-count-most+in_ok-item+in-Err w ↦ grind (arith, starts_shorter)
  | else-is_none+in_ok-pass w ↦ grind (arith, starts_shorter)
]

pub items-preserved : goal.items-preserved
items-preserved g c =
    let going : (after_end_array c.items.reader ≡ None) × (c.take_end_array.new.self ≡ c.items.reader) = grind arith in
    let so_far = c.items.invariant in
    let reads = g.I.Item.reads c.args.finder.now in
    elim c.if-is_none.branch [
      | then-is_none+then-count-most+in_ok-item+in-Ok+in_ok-push-in-Ok w ↦
          let read = w.in_ok-item.ensures.read in
          let none = none_told c.items.fault c.is_none.result c.is_none.ensures w.if-is_none.true in
          let told : Ok w.in-Ok.item ≡ reads (item_on c.args.place c.items.count) read.whole =
          cc (w.in-Ok.is, read.holds, w.within.ensures, so_far.tree) in
          record {
            front = so_far.front ++ read.whole ∷ [];
            items = rw w.reader-is (items_turn so_far.items going read);
            tally = rw (w.fault-is, none, w.all-is, w.in_ok-push-in-Ok.ensures.items)
                (tally_turn (rw none at so_far.tally) read.whole c.min-count.ensures
                (λ less. ap (with_next (Ok c.items.all.items)) told));
            few = rw (w.all-is, w.in_ok-push-in-Ok.ensures.len)
                (omega (arith, w.if-count-most.true, so_far.few, c.min-count.ensures));
            tree = w.finder-is ∙ w.next.ensures.tree ∙ so_far.tree;
          }
      | then-is_none+then-count-most+in_ok-item+in-Err w ↦
          let read = w.in_ok-item.ensures.read in
          let none = none_told c.items.fault c.is_none.result c.is_none.ensures w.if-is_none.true in
          let told : Err w.in-Err.found ≡ reads (item_on c.args.place c.items.count) read.whole =
          cc (w.in-Err.is, read.holds, w.within.ensures, so_far.tree) in
          record {
            front = so_far.front ++ read.whole ∷ [];
            items = rw w.reader-is (items_turn so_far.items going read);
            tally = rw w.fault-is
                (tally_turn (rw none at so_far.tally) read.whole c.min-count.ensures
                (λ less. ap (with_next (Ok c.items.all.items)) told));
            few = rw w.all-is (omega (arith, so_far.few, so_far.tally.bound, c.min-count.ensures));
            tree = w.finder-is ∙ w.next.ensures.tree ∙ so_far.tree;
          }
      | else-is_none+in_ok-pass w ↦
          let read = w.in_ok-pass.ensures.passed in
          record {
            front = so_far.front ++ read.whole ∷ [];
            items = rw w.reader-is (items_turn so_far.items going read);
            tally = rw (w.fault-is, w.all-is)
                (tally_past so_far.tally read.whole c.min-count.ensures (λ less.
                elim w.else-is_none.branch [
                  | else-is_none-via-then-is_none+else-count-most w' ↦
                      absurd (omega (arith, less, w'.if-count-most.false))
                  | else-is_none-via-else-is_none w' ↦
                      fault_told c.items.all.items c.items.fault c.is_none.result c.is_none.ensures w'.if-is_none.false
                ]));
            few = rw w.all-is (omega (arith, so_far.few, so_far.tally.bound, c.min-count.ensures));
            tree = w.finder-is ∙ so_far.tree;
          }
    ]

pub returns-then-count-most-2-clause-read : goal.returns-then-count-most-2-clause-read
returns-then-count-most-2-clause-read g c =
    let so_far = c.items.invariant in
    (so_far.front, items_over so_far.items (grind arith), sym (tally_many so_far.tally c.if-count-most-2.true))

pub returns-in-Some-clause-read : goal.returns-in-Some-clause-read
returns-in-Some-clause-read g c =
    let so_far = c.items.invariant in (
      so_far.front,
      items_over so_far.items (grind arith),
      sym (tally_few (rw c.in-Some.is at so_far.tally) c.if-count-most-2.false),
    )

pub returns-in-None-clause-read : goal.returns-in-None-clause-read
returns-in-None-clause-read g c =
    let so_far = c.items.invariant in (
      so_far.front,
      items_over so_far.items (grind arith),
      sym (tally_few (rw c.in-None.is at so_far.tally) c.if-count-most-2.false),
    )

use Rattle.std.proofs.Common.{◌++◌, ◌∷◌, [], arith}
use Rattle.grove_line.proofs.TokenValues.{items_begin, items_turn, items_stop, items_over, starts_shorter}
use Rattle.grove_line.proofs.list_read.read_inside.Goals as goal

pub accesses-init : goal.accesses-init
accesses-init c = record {
  front = [];
  items = items_begin c.args.depth c.args.reader.now;
  reading = c.new-accesses.ensures c.args.tree.now c.args.place;
}

pub returns-in_err-items-clause-unread : goal.returns-in_err-items-clause-unread
returns-in_err-items-clause-unread c refused =
    items_stop c.accesses.invariant.items (grind arith) (c.few.ensures.unread (grind arith))

pub accesses-smaller : goal.accesses-smaller
accesses-smaller c = grind (arith, starts_shorter)

pub accesses-preserved : goal.accesses-preserved
accesses-preserved c =
    let so_far = c.accesses.invariant in
    let read = c.in_ok-items.ensures.read in
    record {
      front = so_far.front ++ read.whole ∷ [];
      items = items_turn so_far.items (grind arith) read;
      reading = c.in_ok-add.ensures so_far.front read.whole read.holds so_far.reading;
    }

pub returns-clause-read : goal.returns-clause-read
returns-clause-read c =
    let so_far = c.accesses.invariant in (
      so_far.front,
      items_over so_far.items (grind arith),
      λ version. c.into_list.ensures so_far.front version so_far.reading,
    )

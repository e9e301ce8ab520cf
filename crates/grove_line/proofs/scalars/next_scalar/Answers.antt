use Rattle.std.proofs.Common.{◌≡◌, [], refl, sym, arith}
use Rattle.grove_line.proofs.TokenValues.{goes_on, nothing_left, items_turn, items_stop, items_over, starts_shorter}
use Rattle.grove_line.proofs.scalars.next_scalar.Goals as goal

pub returns-in_err-token-clause-unread : goal.returns-in_err-token-clause-unread
returns-in_err-token-clause-unread c refused start front so_far =
    let none : c.args.reader.now ≡ [] = grind arith in
    items_stop so_far (rw none (refl, refl)) (nothing_left c.args.depth c.args.reader.now none)

pub returns-in-EndArray-clause-read : goal.returns-in-EndArray-clause-read
returns-in-EndArray-clause-read c start front so_far = items_over so_far (grind arith)

pub returns-in_err-item-clause-unread : goal.returns-in_err-item-clause-unread
returns-in_err-item-clause-unread c refused start front so_far =
    let first = c.in_ok-token.ensures.token in
    items_stop so_far (rw first (goes_on _ _ c.in_default.not-EndArray), sym first)
    (c.scalar_on.ensures.unread (grind arith))

pub returns-clause-read : goal.returns-clause-read
returns-clause-read c start front so_far =
    let first = c.in_ok-token.ensures.token in
    let read = c.in_ok-item.ensures.read in
    (read.whole, items_turn so_far (rw first (goes_on _ _ c.in_default.not-EndArray), sym first) read, read.holds)

pub returns-clause-shorter : goal.returns-clause-shorter
returns-clause-shorter c = grind (arith, starts_shorter)

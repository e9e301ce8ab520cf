use Rattle.std.proofs.Common.{◌∙◌, arith}
use Rattle.grove_line.proofs.FewItems.{seen_none, seen_more, seen_over, seen_stop, too_many, still_many}
use Rattle.grove_line.proofs.scalars.few_items.Goals as goal

pub returns-in_err-first-clause-unread : goal.returns-in_err-first-clause-unread
returns-in_err-first-clause-unread c refused =
    seen_stop seen_none (c.next_scalar.ensures.unread (grind arith))

pub returns-in_default-clause-read : goal.returns-in_default-clause-read
returns-in_default-clause-read c = seen_over seen_none c.in_ok-first.ensures.read c.in_default.is

pub returns-in_err-second-clause-unread : goal.returns-in_err-second-clause-unread
returns-in_err-second-clause-unread c refused =
    seen_stop (seen_more seen_none c.in_ok-first.ensures.read c.in-Some.is)
    (c.next_scalar-2.ensures.unread (grind arith))

pub returns-in_default-2-clause-read : goal.returns-in_default-2-clause-read
returns-in_default-2-clause-read c =
    seen_over (seen_more seen_none c.in_ok-first.ensures.read c.in-Some.is)
    c.in_ok-second.ensures.read c.in_default-2.is

pub returns-in_err-third-clause-unread : goal.returns-in_err-third-clause-unread
returns-in_err-third-clause-unread c refused =
    seen_stop (seen_more (seen_more seen_none c.in_ok-first.ensures.read c.in-Some.is)
    c.in_ok-second.ensures.read c.in-Some-2.is) (c.next_scalar-3.ensures.unread (grind arith))

pub returns-in_default-3-clause-read : goal.returns-in_default-3-clause-read
returns-in_default-3-clause-read c =
    seen_over (seen_more (seen_more seen_none c.in_ok-first.ensures.read c.in-Some.is)
    c.in_ok-second.ensures.read c.in-Some-2.is) c.in_ok-third.ensures.read c.in_default-3.is

pub returns-in_err-fourth-clause-unread : goal.returns-in_err-fourth-clause-unread
returns-in_err-fourth-clause-unread c refused =
    seen_stop (seen_more (seen_more (seen_more seen_none c.in_ok-first.ensures.read c.in-Some.is)
    c.in_ok-second.ensures.read c.in-Some-2.is) c.in_ok-third.ensures.read c.in-Some-3.is)
    (c.next_scalar-4.ensures.unread (grind arith))

pub returns-in_default-4-clause-read : goal.returns-in_default-4-clause-read
returns-in_default-4-clause-read c =
    seen_over (seen_more (seen_more (seen_more seen_none c.in_ok-first.ensures.read c.in-Some.is)
    c.in_ok-second.ensures.read c.in-Some-2.is) c.in_ok-third.ensures.read c.in-Some-3.is)
    c.in_ok-fourth.ensures.read c.in_default-4.is

pub returns-in_err-next_scalar-clause-unread : goal.returns-in_err-next_scalar-clause-unread
returns-in_err-next_scalar-clause-unread c refused =
    seen_stop (seen_more (seen_more (seen_more (seen_more seen_none c.in_ok-first.ensures.read c.in-Some.is)
    c.in_ok-second.ensures.read c.in-Some-2.is) c.in_ok-third.ensures.read c.in-Some-3.is)
    c.in_ok-fourth.ensures.read c.in-Some-4.is) (c.next_scalar-5.ensures.unread (grind arith))

pub returns-in_default-5-clause-read : goal.returns-in_default-5-clause-read
returns-in_default-5-clause-read c =
    seen_over (seen_more (seen_more (seen_more (seen_more seen_none c.in_ok-first.ensures.read c.in-Some.is)
    c.in_ok-second.ensures.read c.in-Some-2.is) c.in_ok-third.ensures.read c.in-Some-3.is)
    c.in_ok-fourth.ensures.read c.in-Some-4.is) c.in_ok-next_scalar.ensures.read c.in_default-5.is

pub loop-init : goal.loop-init
loop-init c = (
  _,
  (seen_more (seen_more (seen_more (seen_more (seen_more seen_none c.in_ok-first.ensures.read c.in-Some.is)
      c.in_ok-second.ensures.read c.in-Some-2.is) c.in_ok-third.ensures.read c.in-Some-3.is)
      c.in_ok-fourth.ensures.read c.in-Some-4.is) c.in_ok-next_scalar.ensures.read c.in-Some-5.is),
  omega arith,
)

pub returns-in_err-next_scalar-2-clause-unread : goal.returns-in_err-next_scalar-2-clause-unread
returns-in_err-next_scalar-2-clause-unread c refused =
    seen_stop c.loop.invariant.1 (c.next_scalar-in-loop.ensures.unread (grind arith))

pub loop-preserved : goal.loop-preserved
loop-preserved c =
    let so_far = c.loop.invariant in
    (_, seen_more so_far.1 c.in_ok-next_scalar-2.ensures.read c.in-Some-6.is, still_many so_far.0 _ so_far.2)

pub returns-clause-read : goal.returns-clause-read
returns-clause-read c =
    let over = seen_over c.loop.invariant.1 c.in_ok-next_scalar-2.ensures.read c.in_default-6.is in
    (over.0, over.1, too_many c.loop.invariant.0 c.loop.invariant.2 ∙ over.2)

use Rattle.std.proofs.Common.{refl, arith}
use Rattle.grove_line.proofs.TokenValues.{object_of_members, object_unread, starts_weaker, not_object}
use Rattle.grove_line.proofs.members.read_object.Goals as goal

pub returns-in_err-found-clause-unread : goal.returns-in_err-found-clause-unread
returns-in_err-found-clause-unread g c refused =
    let opens = rw c.in-Object.is at c.in_ok-opened.ensures.opened in
    object_unread opens (c.read_members.ensures.unread (grind arith))

pub returns-in-Object-clause-read : goal.returns-in-Object-clause-read
returns-in-Object-clause-read g c =
    let opens = rw c.in-Object.is at c.in_ok-opened.ensures.opened in
    let read = c.in_ok-found.ensures.read in
    object_of_members opens read.0 read.1 (read.0, refl, read.2)

pub returns : goal.returns
returns g c = record {
  read = starts_weaker (λ d is. not_object c.in_ok-opened.opened c.in_default.not-Object d is)
      (c.in_ok-pass_opened.ensures.passed c.args.depth c.args.reader.now c.in_ok-opened.ensures.opened);
  unread = λ never. absurd (cc);
  tree = refl;
}

use Rattle.std.proofs.Common.{[], ◌++◌, take, refl, ap, ◌∙◌, length-append, arith}
use Rattle.std.proofs.lemmas.Result.{err_from_is_err_and}
use Rattle.std.proofs.lemmas.List.{length-take-le}
use Rattle.grove_session.specs.Intakes.{held_line}
use Rattle.grove_session.proofs.Sending.{goes_from, goes_then, goes_text, sends_nothing, part_of}
use Rattle.grove_session.proofs.intake.Intake.send.Goals as goal

pub returns-in_err-send_held-clause-sent : goal.returns-in_err-send_held-clause-sent
returns-in_err-send_held-clause-sent g c =
    let p = err_from_is_err_and c.from_residual.result c.from_residual.ensures.1 in
    rw (p.1, p.2) (
      [],
      goes_from _ _ _ _ _ _ _ _ c.in_err-send_held.ensures.passes
          (c.hold.ensures.unheld c.if-hold.false),
      sends_nothing c.args.self.now.answered c.send_held.new.self
          (c.args.front.now ++ c.args.end.now) c.in_err-send_held.field-0.0 c.in_err-send_held.ensures.err.0
          c.requires.some,
    )

pub returns-in-Ok-clause-sent : goal.returns-in-Ok-clause-sent
returns-in-Ok-clause-sent g c =
    let text = c.args.front.now ++ c.args.end.now in
    let none = c.in_ok-send_held.ensures.ok in (
      text,
      goes_then _ _ _ _ _ _ _ _ _ [] text (goes_from _ _ _ _ _ _ _ _ c.in_ok-send_held.ensures.passes
          (c.hold.ensures.unheld c.if-hold.false))
          (goes_text _ _ _ _ _ text c.in-Ok.ensures.bytes none (let e = length-append c.args.front.now c.args.end.now
          in omega arith)),
      record {
        sent = refl;
        fresh = ap held_line c.in_ok-send_held.ensures.kept.0 ∙ c.clear.ensures;
        answered = c.in_ok-send_held.ensures.kept.1;
      },
    )

pub returns-in-Err-clause-sent : goal.returns-in-Err-clause-sent
returns-in-Err-clause-sent g c =
    let text = c.args.front.now ++ c.args.end.now in
    let n = c.in-Err.cut.written in
    let none = c.in_ok-send_held.ensures.ok in
    let less = c.in-Err.ensures.unfinished in
    let e = length-take-le n text (omega arith) in (
      take n text,
      goes_then _ _ _ _ _ _ _ _ _ [] (take n text)
          (goes_from _ _ _ _ _ _ _ _ c.in_ok-send_held.ensures.passes (c.hold.ensures.unheld c.if-hold.false))
          (goes_text _ _ _ _ _ (take n text) c.in-Err.ensures.cut none (omega arith)),
      part_of n text less,
    )

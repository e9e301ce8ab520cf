use Rattle.std.proofs.Common.{ℕ, ◌+◌, ◌-◌, List, [], ◌∷◌, ◌++◌, length, take, drop, refl, ap, subst, ◌∙◌}
use Rattle.std.proofs.Common.{append_assoc, rules}
use Rattle.std.proofs.lemmas.Result.{err_from_is_err_and}
use Rattle.grove_session.specs.Intakes.{Breaks}
use Rattle.grove_session.proofs.Lines.{none_feedless, before_feedless, at_feed}
use Rattle.grove_session.proofs.Going.{continues_nothing, continues_then, continues_as, breaks_then, breaks_early, bytes_go}
use Rattle.grove_session.proofs.Going.{line_goes, line_breaks, rest_goes, no_room_breaks}
use Rattle.grove_session.proofs.Sending.{goes_nothing, goes_then}
use Rattle.grove_session.proofs.intake.Intake.take_lines.Goals as goal

pub loop-length-init : goal.loop-length-init
loop-length-init g c = (
  (
    [],
    [],
    refl,
    goes_nothing _ _ _,
    continues_nothing g.A.Answers.is_shared g.A.Answers.lawful
        _ _,
  ),
  search rules,
  search rules,
  refl,
)

pub returns-in_err-answer-clause-taken : goal.returns-in_err-answer-clause-taken
returns-in_err-answer-clause-taken g c =
    let rest = c.loop-length.rest.now in
    let n = c.in-Some.length in
    let (front, more, all, sent, went) = c.loop-length.invariant.0 in
    let gone = continues_as g.A.Answers.is_shared g.A.Answers.lawful c.args.answers.now c.loop-length.answers
    c.look_ahead.new.answers c.args.self.now c.loop-length.self front more c.look_ahead.ensures went in
    let h = c.in_err-answer.ensures.answered in
    let ended = line_breaks g.A.Answers.is_shared g.A.Answers.lawful _ _ c.loop-length.self (take n rest) h.0 _
    (before_feedless rest n c.in-Some.ensures.0.high c.in-Some.ensures.0.before) h.2 in
    let here = at_feed rest n c.in-Some.ensures.0.high c.in-Some.ensures.1 in
    let p = err_from_is_err_and c.from_residual.result c.from_residual.ensures.1 in
    rw (p.1, p.2) (
      more ++ h.0,
      goes_then _ _ _ _ _ _ _ _ _ more h.0 sent h.1,
      subst (λ (bytes : List ℕ). Breaks g.A.Answers.is_shared g.A.Answers.lawful c.args.answers.now c.args.self.now
          bytes (more ++ h.0) c.in_err-answer.field-0.0 c.answer.new.answers)
          (append_assoc front (take n rest ++ 10 ∷ []) (take (length rest - (n + 1)) (drop (n + 1) rest))
          ∙ ap (λ (xs : List ℕ). front ++ xs) here ∙ all)
          (breaks_early g.A.Answers.is_shared g.A.Answers.lawful c.args.answers.now c.answer.new.answers
          c.args.self.now (front ++ (take n rest ++ 10 ∷ []))
          (take (length rest - (n + 1)) (drop (n + 1) rest)) (more ++ h.0) _
          (breaks_then g.A.Answers.is_shared g.A.Answers.lawful _ _ _ _ c.loop-length.self front
          (take n rest ++ 10 ∷ []) more h.0 _ gone ended)),
    )

pub loop-length-preserved : goal.loop-length-preserved
loop-length-preserved g c =
    let rest = c.loop-length.rest.now in
    let n = c.in-Some.length in
    let (front, more, all, sent, went) = c.loop-length.invariant.0 in
    let gone = continues_as g.A.Answers.is_shared g.A.Answers.lawful c.args.answers.now c.loop-length.answers
    c.look_ahead.new.answers c.args.self.now c.loop-length.self front more c.look_ahead.ensures went in
    let h = c.in_ok-answer.ensures.answered in
    let ended = line_goes g.A.Answers.is_shared g.A.Answers.lawful _ _ c.loop-length.self _ (take n rest) h.0
    (before_feedless rest n c.in-Some.ensures.0.high c.in-Some.ensures.0.before) h.2 in
    let here = at_feed rest n c.in-Some.ensures.0.high c.in-Some.ensures.1 in (
      (
        front ++ (take n rest ++ 10 ∷ []),
        more ++ h.0,
        append_assoc front (take n rest ++ 10 ∷ []) (take (length rest - (n + 1)) (drop (n + 1) rest))
            ∙ ap (λ (xs : List ℕ). front ++ xs) here ∙ all,
        goes_then _ _ _ _ _ _ _ _ _ more h.0 sent h.1,
        continues_then g.A.Answers.is_shared g.A.Answers.lawful _ _ _ _ c.loop-length.self _ front
            (take n rest ++ 10 ∷ []) more h.0 gone ended,
      ),
      search rules,
      search rules,
      c.in_ok-answer.ensures.most_held ∙ c.loop-length.invariant.3,
    )

pub returns-in_err-extend-clause-taken : goal.returns-in_err-extend-clause-taken
returns-in_err-extend-clause-taken g c =
    let rest = c.loop-length.rest.now in
    let (front, more, all, sent, gone) = c.loop-length.invariant.0 in
    let p = err_from_is_err_and c.from_residual-in_err-extend.result c.from_residual-in_err-extend.ensures.1 in
    rw (p.1, p.2) (
      more ++ [],
      goes_then _ _ _ _ _ _ _ _ _ more [] sent (goes_nothing _ _ _),
      subst (λ (bytes : List ℕ). Breaks g.A.Answers.is_shared g.A.Answers.lawful c.args.answers.now c.args.self.now
          bytes (more ++ []) _ c.loop-length.answers) all
          (breaks_then g.A.Answers.is_shared g.A.Answers.lawful _ _ _ _ c.loop-length.self front rest more [] _ gone
          (no_room_breaks g.A.Answers.is_shared g.A.Answers.lawful _ c.loop-length.self rest)),
    )

pub returns-clause-taken : goal.returns-clause-taken
returns-clause-taken g c =
    let rest = c.loop-length.rest.now in
    let (front, more, all, sent, gone) = c.loop-length.invariant.0 in (
      more ++ [],
      goes_then _ _ _ _ _ _ _ _ _ more [] sent (goes_nothing _ _ _),
      rest_goes g.A.Answers.is_shared g.A.Answers.lawful _ _ c.args.self.now c.loop-length.self _ front rest
          c.args.bytes.now more all gone
          (bytes_go g.A.Answers.is_shared g.A.Answers.lawful _ c.loop-length.self _ rest
          (none_feedless rest c.in_default.ensures) c.in_ok-extend.ensures.ok refl),
    )

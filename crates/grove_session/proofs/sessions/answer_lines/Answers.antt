use Rattle.std.proofs.Common.{ℕ, Bool, false, ◌||◌, ◌++◌, take, sym, ap, ◌∙◌, arith, rules}
use Rattle.std.proofs.lemmas.Result.{err_from_is_err_and}
use Rattle.std.proofs.KnownBytes.{Appends-trans, Consumes-trans}
use Rattle.grove_session.proofs.Sending.{settled}
use Rattle.grove_session.proofs.Reading.{apart_from_read, apart_from_turns, count_on, ended_at_end, ended_among}
use Rattle.grove_session.proofs.sessions.answer_lines.Goals as goal

pub returns-then-count-eq0-clause-text : goal.returns-then-count-eq0-clause-text
returns-then-count-eq0-clause-text g c =
    let f = c.finish.ensures.ends in
    let r = c.in_ok-count.ensures.bytes in
    ended_at_end g.A.Answers.is_shared g.A.Answers.lawful _ _ _ _ _ _ _ c.loop.answers _ c.loop.intake
    c.finish.new.self (take c.in_ok-count.count c.read.new.buffer) f.0
    c.finish.result c.loop.invariant.answered r.0 (ap (λ (n : ℕ). take n c.read.new.buffer) c.if-count-eq0.true)
    (r.1 c.if-count-eq0.true (omega arith)) f.1 f.2 f.3
    c.finish.ensures.apart

pub returns-then-count-eq0-clause-source : goal.returns-then-count-eq0-clause-source
returns-then-count-eq0-clause-source g c =
    c.in_ok-count.ensures.failed ∙ ap (λ (b : Bool). b || false) c.loop.invariant.sound_source
    ∙ sym (apart_from_read c.finish.result c.finish.new.self c.finish.ensures.apart)

pub returns-then-count-eq0-clause-turns : goal.returns-then-count-eq0-clause-turns
returns-then-count-eq0-clause-turns g c = λ is.
    absurd (apart_from_turns c.finish.result c.finish.new.self c.finish.ensures.apart is)

pub returns-in_err-settle-clause-text : goal.returns-in_err-settle-clause-text
returns-in_err-settle-clause-text g c =
    let p = err_from_is_err_and c.from_residual-in_err-settle.result c.from_residual-in_err-settle.ensures.1 in
    let t = c.take_lines-taken.ensures in
    let e = c.in_err-settle.ensures in
    let s = settled g.A.Answers.is_shared g.A.Answers.lawful _ _ _ _ _ c.loop.intake c.take_lines-taken.new.self
    c.settle.new.self _ t.taken.0 c.take_lines-taken.result _ t.taken.1 t.taken.2 e.passes e.settles e.kept t.most_held
    c.loop.invariant.none_held c.loop.invariant.alone in
    rw (p.1, p.2) (ended_among g.A.Answers.is_shared g.A.Answers.lawful _ _ _ _ _ _ _ c.loop.answers _ c.loop.intake
    c.settle.new.self (take c.in_ok-count.count c.read.new.buffer) s.0 _
    c.loop.invariant.answered c.in_ok-count.ensures.bytes.0 s.1 s.2 s.3 e.apart)

pub loop-preserved : goal.loop-preserved
loop-preserved g c =
    let t = c.take_lines-taken.ensures in
    let e = c.in_ok-settle.ensures in
    let s = settled g.A.Answers.is_shared g.A.Answers.lawful _ _ _ _ _ c.loop.intake c.take_lines-taken.new.self
    c.settle.new.self _ t.taken.0 c.take_lines-taken.result _ t.taken.1 t.taken.2 e.passes e.settles e.kept t.most_held
    c.loop.invariant.none_held c.loop.invariant.alone in
    let (input, out, read, written, counted, under) = c.loop.invariant.answered in
    record {
      answered = (
        input ++ take c.in_ok-count.count c.read.new.buffer,
        out ++ s.0,
        Consumes-trans _ _ _ input _ read c.in_ok-count.ensures.bytes.0,
        Appends-trans _ _ _ out s.0 written s.1,
        count_on _ _ out s.0 counted s.2,
        s.3.on _ input out under,
      );
      sound_source = search rules;
      sound_sink = search rules;
      reads = search rules;
      none_held = search rules;
      alone = search rules;
      lines = search rules;
      buffer = search rules;
    }

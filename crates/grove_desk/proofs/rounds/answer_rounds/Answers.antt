use Rattle.std.proofs.Common.{◌≡◌, ◌≤◌, ◌-◌, ◌++◌, ℕ, List, Vec, Global, length, map, take, drop, sym, ap}
use Rattle.std.proofs.Common.{subst, ◌∙◌, arith}
use Rattle.std.specs.Vec.{vec_len, vec_capacity}
use Rattle.std.specs.Option.{option_map}
use Rattle.grove_line.specs.declared.asked.Asked.{Asked}
use Rattle.grove_desk.specs.declared.receipt.Receipt.{Receipt}
use Rattle.grove_desk.specs.Receipts.{AreNumberedFrom}
use Rattle.grove_desk.specs.Ledgers.{next_number, AreAnswered, AreAnsweredInTurn}
use Rattle.grove_desk.proofs.Keeping.{next_of}
use Rattle.grove_desk.proofs.Turns.{in_turn, in_turn_more, in_turn_same, numbered_on, put_behind, all_behind, behind_same}
use Rattle.grove_desk.proofs.Turns.{tickets_behind, same_long, put_together, was_err, is_none}
use Rattle.grove_desk.proofs.rounds.answer_rounds.Goals as goal
use Rattle.grove_desk.proofs.rounds.answer_rounds.Goals.{else-loop-taken-test, then-loop-taken-test+then-is_err}
use Rattle.grove_desk.proofs.rounds.answer_rounds.Goals.{then-loop-taken-test+else-is_err+in_default}

pub loop-taken-init : goal.loop-taken-init
loop-taken-init g c =
    let told = c.in_ok-receipts.ensures in record {
      answered = in_turn _ _ _ _ _ _ _ told.answered told.journal;
      numbered = told.numbered;
      tickets = c.answer_first.ensures.tickets;
      long = same_long c.args.taken.now c.answer_first.new.lines c.answer_first.ensures.tickets;
      plain = is_none c.answer_first.new.journal (sym c.is_some.ensures ∙ c.if-is_some.false);
      names = (next_of _ _ _ told.answered.round).names;
    }

pub loop-taken-preserved : goal.loop-taken-preserved
loop-taken-preserved g c =
    let so_far = c.loop-taken.invariant in
    let told = c.in-Ok.ensures in
    let lines = c.loop-taken.taken in
    let done = c.len-done.result in
    let receipts = c.loop-taken.receipts.items in
    let more = c.in-Ok.more.items in
    let place : done ≡ length receipts = omega (arith, c.loop-taken.receipts.ok.0) in
    let within : done ≤ length lines = omega (arith, c.loop-taken-test.true, c.loop-taken.receipts.ok.0) in
    let joined = put_together c.reserve.result c.append-has_room.result receipts c.reserve.new.self.items more
    c.append-has_room.new.self.items (vec_len c.reserve.new.self) (vec_len c.in-Ok.more)
    (vec_capacity c.reserve.new.self) (sym c.is_err.ensures.value ∙ c.if-is_err.false) c.reserve.ensures.ok
    (omega (arith, told.few, c.in-Ok.more.ok.0)) c.reserve.ensures.items c.append-has_room.ensures.succeeds
    c.append-has_room.ensures.items in
    let behind = all_behind lines done in
    let rest = c.answer_first-in-loop-taken.new.lines in
    let store = c.answer_first-in-loop-taken.new.store in
    let whole = subst (λ (ls : List (Asked _)). AreAnswered c.loop-taken.store store ls rest more) behind told.answered in
    let answered = subst (λ (n : ℕ). AreAnswered c.loop-taken.store store (drop n lines) rest more) place whole in
    let tickets = tickets_behind lines rest done
    (c.answer_first-in-loop-taken.ensures.tickets ∙ ap (map (λ (asked : Asked _). asked.ticket)) behind)
    ∙ so_far.tickets in
    let new = take done lines ++ (rest ++ drop (length lines - done) (drop done lines)) in
    let back : drop (length receipts) new ≡ rest =
    subst (λ (n : ℕ). drop n new ≡ rest) place (put_behind lines rest done within) in
    record {
      answered = subst (AreAnsweredInTurn _ _ _ _ _ _) (sym joined)
          (in_turn_more _ _ _ _ _ _ _ lines new rest receipts more so_far.answered answered told.journal back);
      numbered = subst (AreNumberedFrom (next_number c.args.journal.now)) (sym joined)
          (numbered_on _ _ _ _ _ lines receipts more so_far.answered so_far.numbered told.numbered);
      tickets = tickets;
      long = same_long c.args.taken.now new tickets;
      plain = told.journal ∙ ap (option_map _) so_far.plain;
      names = (next_of _ _ _ told.answered.round).names ∙ so_far.names;
    }

pub returns-then-is_some-clause-answered : goal.returns-then-is_some-clause-answered
returns-then-is_some-clause-answered g c =
    let told = c.in_ok-receipts.ensures in in_turn _ _ _ _ _ _ _ told.answered told.journal

pub returns-clause-answered : goal.returns-clause-answered
returns-clause-answered g c =
    let so_far = c.loop-taken.invariant in
    elim c.loop-taken-test.branch [
      | else-loop-taken-test w ↦
          in_turn_same _ _ _ _ _ _ _ _ _ _ _ w.store-is w.journal-is w.taken-is
          (ap (λ (v : Vec Receipt Global). v.items) w.receipts-is) so_far.answered
      | then-loop-taken-test+then-is_err w ↦
          in_turn_same _ _ _ _ _ _ _ _ _ _ _ w.store-is w.journal-is w.taken-is
          (ap (λ (v : Vec Receipt Global). v.items) w.receipts-is ∙ w.reserve.ensures.items) so_far.answered
      | then-loop-taken-test+else-is_err+in_default w ↦
          let same = was_err _ _ w.in_default.not-Ok w.answer_first-in-loop-taken.ensures.err in
          let stay = was_err _ _ w.in_default.not-Ok w.answer_first-in-loop-taken.ensures.stay so_far.plain in
          let lines = behind_same c.loop-taken.taken w.answer_first-in-loop-taken.new.lines w.len-done.result stay in
          in_turn_same _ _ _ _ _ _ _ _ _ _ _ (w.store-is ∙ same.1) (w.journal-is ∙ same.0) (w.taken-is ∙ lines)
          (ap (λ (v : Vec Receipt Global). v.items) w.receipts-is ∙ w.reserve.ensures.items) so_far.answered
    ]

pub returns-clause-tickets : goal.returns-clause-tickets
returns-clause-tickets g c =
    let so_far = c.loop-taken.invariant in
    let tickets : List (Asked _) → List ℕ = map (λ (asked : Asked _). asked.ticket) in
    elim c.loop-taken-test.branch [
      | else-loop-taken-test w ↦ ap tickets w.taken-is ∙ so_far.tickets
      | then-loop-taken-test+then-is_err w ↦ ap tickets w.taken-is ∙ so_far.tickets
      | then-loop-taken-test+else-is_err+in_default w ↦
          let stay = was_err _ _ w.in_default.not-Ok w.answer_first-in-loop-taken.ensures.stay so_far.plain in
          let lines = behind_same c.loop-taken.taken w.answer_first-in-loop-taken.new.lines w.len-done.result stay in
          ap tickets (w.taken-is ∙ lines) ∙ so_far.tickets
    ]

use Rattle.std.proofs.Common.{◌≡◌, ◌++◌, ◌∙◌, None, Vec, Global, map, drop, ap}
use Rattle.grove_line.specs.declared.asked.Asked.{Asked}
use Rattle.grove_desk.specs.declared.receipt.Receipt.{Receipt}
use Rattle.grove_desk.proofs.Turns.{answered_part, answered_same, tickets_part, part_same, on_err}
use Rattle.grove_desk.proofs.rounds.answer_first.Goals as goal
use Rattle.grove_desk.proofs.rounds.answer_first.Goals.{in-Some+in_ok-receipts-in-Some, in-None+in_ok-receipts-in-None}

pub returns-clause-answered : goal.returns-clause-answered
returns-clause-answered g c =
    elim c.match-journal.branch [
      | in-Some+in_ok-receipts-in-Some w ↦
          answered_same _ _ _ _ _ _ _ _ w.store-is w.lines-is (ap (λ (v : Vec Receipt Global). v.items) w.receipts-is)
          (answered_part _ _ c.args.lines.now w.answer.new.taken c.round_length-count.result _
          w.answer.auto.taken w.in_ok-receipts-in-Some.ensures.answered)
      | in-None+in_ok-receipts-in-None w ↦
          answered_same _ _ _ _ _ _ _ _ w.store-is w.lines-is (ap (λ (v : Vec Receipt Global). v.items) w.receipts-is)
          (answered_part _ _ c.args.lines.now w.answer_taken.new.taken c.round_length-count.result _
          w.answer_taken.auto.taken w.in_ok-receipts-in-None.ensures.answered)
    ]

pub returns-clause-tickets : goal.returns-clause-tickets
returns-clause-tickets g c =
    elim c.match-journal.branch [
      | in-Some+in_ok-receipts-in-Some w ↦
          ap (map (λ (asked : Asked _). asked.ticket)) w.lines-is
          ∙ tickets_part c.args.lines.now w.answer.new.taken c.round_length-count.result w.answer.ensures.tickets
      | in-None+in_ok-receipts-in-None w ↦
          ap (map (λ (asked : Asked _). asked.ticket)) w.lines-is
          ∙ tickets_part c.args.lines.now w.answer_taken.new.taken c.round_length-count.result
          w.answer_taken.ensures.tickets
    ]

pub returns-in_err-receipts-in-Some-clause-tickets : goal.returns-in_err-receipts-in-Some-clause-tickets
returns-in_err-receipts-in-Some-clause-tickets g c = tickets_part c.args.lines.now c.answer.new.taken
    c.round_length-count.result c.answer.ensures.tickets

pub returns-in_err-receipts-in-None-clause-tickets : goal.returns-in_err-receipts-in-None-clause-tickets
returns-in_err-receipts-in-None-clause-tickets g c = tickets_part c.args.lines.now c.answer_taken.new.taken
    c.round_length-count.result c.answer_taken.ensures.tickets

pub returns-in_err-receipts-in-None-clause-stay : goal.returns-in_err-receipts-in-None-clause-stay
returns-in_err-receipts-in-None-clause-stay g c =
    let stay : c.args.journal.now ≡ None
    → c.answer_taken.new.taken ++ drop c.round_length-count.result c.args.lines.now ≡ c.args.lines.now =
    λ none. part_same c.args.lines.now c.answer_taken.new.taken c.round_length-count.result
    (c.in_err-receipts-in-None.ensures.err.1) in
    on_err _ _ stay

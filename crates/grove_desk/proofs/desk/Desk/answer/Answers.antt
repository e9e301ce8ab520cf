use Rattle.std.proofs.lemmas.Result.{IfOk-weaker}
use Rattle.grove_desk.proofs.desk.Desk.answer.Goals as goal

pub returns-clause-line : goal.returns-clause-line
returns-clause-line g c = IfOk-weaker c.answer_next.result _ _ (λ receipt is. is.line) c.answer_next.ensures.receipt

pub returns-clause-allowed : goal.returns-clause-allowed
returns-clause-allowed g c =
    IfOk-weaker c.answer_next.result _ _ (λ receipt is. is.answered.reached.allowed) c.answer_next.ensures.receipt

pub returns-clause-reached : goal.returns-clause-reached
returns-clause-reached g c =
    IfOk-weaker c.answer_next.result _ _ (λ receipt is. is.answered.reached) c.answer_next.ensures.receipt

pub returns-clause-kept : goal.returns-clause-kept
returns-clause-kept g c = IfOk-weaker c.answer_next.result _ _ (λ receipt is. is.answered) c.answer_next.ensures.receipt

pub returns-clause-follows : goal.returns-clause-follows
returns-clause-follows g c =
    IfOk-weaker c.answer_next.result _ _ (λ receipt is. is.follows) c.answer_next.ensures.receipt

pub returns-clause-unnumbered : goal.returns-clause-unnumbered
returns-clause-unnumbered g c =
    IfOk-weaker c.answer_next.result _ _ (λ receipt is. is.unnumbered) c.answer_next.ensures.receipt

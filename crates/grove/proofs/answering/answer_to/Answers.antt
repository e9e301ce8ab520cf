use Rattle.std.proofs.Common.{refl}
use Rattle.serde_json.specs.View.{view}
use Rattle.grove_words.specs.declared.order.Command.TheVariants as command
use Rattle.grove.proofs.answering.answer_to.Goals as goal

pub returns-in-Judge : goal.returns-in-Judge
returns-in-Judge g c =
    rw c.in-Judge.is (c.done.ensures command.Judge (view c.args.document.now) refl c.judge_document.ensures)

pub returns-in-Check : goal.returns-in-Check
returns-in-Check g c =
    rw c.in-Check.is (c.done-in-Check.ensures command.Check
    (view c.args.document.now) refl c.check_document.ensures)

pub returns-in-Plan : goal.returns-in-Plan
returns-in-Plan g c =
    rw c.in-Plan.is (c.done-in-Plan.ensures (command.Plan c.in-Plan.in_document)
    (view c.args.document.now) refl c.plan_for.ensures)

pub returns-in-Draw : goal.returns-in-Draw
returns-in-Draw g c =
    rw c.in-Draw.is (c.done-in-Draw.ensures (command.Draw c.in-Draw.form)
    (view c.args.document.now) refl c.draw_document.ensures)

pub returns-in-Run : goal.returns-in-Run
returns-in-Run g c =
    rw c.in-Run.is (c.done-in-Run.ensures (command.Run c.in-Run.workers)
    (view c.args.document.now) refl c.run_document.ensures)

pub returns-in-Audit : goal.returns-in-Audit
returns-in-Audit g c =
    rw c.in-Audit.is (c.done-in-Audit.ensures command.Audit
    (view c.args.document.now) refl c.audit_document.ensures)

pub returns-in-Table : goal.returns-in-Table
returns-in-Table g c =
    rw c.in-Table.is (c.done-in-Table.ensures command.Table (view c.args.document.now) refl c.table_of.ensures)

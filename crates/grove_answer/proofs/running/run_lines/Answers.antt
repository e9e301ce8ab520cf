use Rattle.std.proofs.Common.{◌∙◌, ap, sym, length, map}
use Rattle.std.proofs.lemmas.Result.{IfOk-weaker}
use Rattle.grove_core.specs.Kept.{past_of}
use Rattle.grove_core.specs.Runs.{deeds}
use Rattle.grove_core.proofs.RunSteps.{deeds_length}
use Rattle.grove_answer.proofs.Batches.{same_lines}
use Rattle.grove_answer.proofs.running.run_lines.Goals as goal

pub numbers_of-requires : goal.numbers_of-requires
numbers_of-requires c =
    ap length c.records.ensures ∙ deeds_length (deeds c.args.core.now.jobs (past_of c.args.core.now)) c.args.core.now.opening
    ∙ c.jobs-jobs.ensures.opened ∙ sym (ap length c.tree.ensures)

pub returns : goal.returns
returns c =
    IfOk-weaker c.batch_lines.result _ _
    (λ lines is. is ∙ same_lines c.requires (ap (map (λ list. list.now)) c.deref.ensures.value ∙ c.in_ok-replies.ensures)
    (c.deref-2.ensures.value ∙ c.in_ok-records.ensures ∙ c.records.ensures) (c.deref-3.ensures.value ∙ c.in_ok-waits.ensures))
    c.batch_lines.ensures

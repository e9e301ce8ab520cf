use Rattle.std.proofs.Common.{◌≡◌, ◌≤◌, ◌∙◌, List, ap, sym, subst, length, map, arith}
use Rattle.std.proofs.lemmas.List.{length-map}
use Rattle.grove_base.specs.Numbers.{numbers_below}
use Rattle.grove_base.proofs.Counting.{numbers_length}
use Rattle.grove_access.specs.declared.reply.Reply.{Reply}
use Rattle.grove_core.specs.Kept.{past_of}
use Rattle.grove_core.specs.Runs.{deeds, run_records, run_replies}
use Rattle.grove_core.proofs.RunSteps.{deeds_length}
use Rattle.grove_core.specs.Runs.{replies_of}
use Rattle.grove_wire.specs.Histories.{said_standing}
use Rattle.grove_wire.specs.declared.faults.Fault.TheVariants.{Standing}
use Rattle.grove_answer.specs.Faults.{IsToldFault}
use Rattle.grove_answer.specs.Outcomes.{IsMisstated}
use Rattle.grove_answer.proofs.Audits.{serial_run, says_misstated}
use Rattle.grove_answer.proofs.auditing.finished_lines.Goals as goal

pub numbers_of-requires : goal.numbers_of-requires
numbers_of-requires c =
    ap length c.records.ensures ∙ deeds_length (deeds c.args.core.now.jobs (past_of c.args.core.now)) c.args.core.now.opening
    ∙ c.jobs-jobs.ensures.opened ∙ sym (ap length c.tree-tree.ensures)

pub stand-requires-clause-records : goal.stand-requires-clause-records
stand-requires-clause-records c =
    let few : length c.tree-tree.result.now ≤ 4096 = c.len-nodes.ensures.limits.few in
    let long : length c.deref.result.now ≡ length c.tree-tree.result.now =
    ap length (c.deref.ensures.value ∙ c.in_ok-records.ensures ∙ c.records.ensures) ∙ deeds_length (deeds c.args.core.now.jobs (past_of c.args.core.now)) c.args.core.now.opening
    ∙ c.jobs-jobs.ensures.opened ∙ sym (ap length c.tree-tree.ensures) in
    omega arith

pub stand-requires-clause-replies : goal.stand-requires-clause-replies
stand-requires-clause-replies c =
    let few : length c.args.core.now.jobs ≤ 256 = c.jobs-jobs.ensures.few in
    let long : length c.deref-in-Some.result.now ≡ length c.args.core.now.jobs =
    ap length c.deref-in-Some.ensures.value ∙ sym (length-map c.in_ok-replies.replies.items (λ list. list.now)) ∙ ap length c.in_ok-replies.ensures
    ∙ length-map (numbers_below (length c.args.core.now.jobs)) (run_replies c.args.core.now.jobs c.args.core.now.opening (past_of c.args.core.now))
    ∙ numbers_length (length c.args.core.now.jobs) in
    omega arith

pub returns-in-Err : goal.returns-in-Err
returns-in-Err c =
    let core = c.args.core.now in
    let records : c.deref.result.now ≡ run_records c.args.core.now.jobs c.args.core.now.opening (past_of c.args.core.now) =
    c.deref.ensures.value ∙ c.in_ok-records.ensures ∙ c.records.ensures in
    let replies : map (λ list. list.now) c.deref-in-Some.result.now ≡ replies_of c.args.core.now.jobs c.args.core.now.opening (past_of c.args.core.now) =
    ap (map (λ list. list.now)) c.deref-in-Some.ensures.value ∙ c.in_ok-replies.ensures in
    let said = said_standing c.in-Some.said in
    rw c.in-Some.is (says_misstated core.tree core.opening core.jobs core.history said c.in-Err.fault c.of.result
    c.jobs-jobs.ensures.legal
    (serial_run core.tree core.jobs core.opening (past_of core) c.jobs-jobs.ensures.tree c.jobs-jobs.ensures.legal
    c.jobs-jobs.ensures.run c.requires)
    (subst (λ (left : List (List Reply)). IsMisstated said (run_records core.jobs core.opening (past_of core)) left
    c.in-Err.fault) replies
    (subst (λ stood. IsMisstated said stood (map (λ list. list.now) c.deref-in-Some.result.now) c.in-Err.fault) records
    c.in-Err.ensures.misstated))
    (subst (λ tree. IsToldFault tree (Standing c.in-Err.fault) c.of.result) c.tree-tree.ensures c.of.ensures))

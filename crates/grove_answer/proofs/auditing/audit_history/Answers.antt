use Rattle.std.proofs.Common.{option_map, subst}
use Rattle.grove_core.specs.Kept.{CoreState}
use Rattle.grove_wire.specs.Histories.{said_standing}
use Rattle.grove_answer.specs.Says.{Says}
use Rattle.grove_answer.specs.Outcomes.{IsAudited}
use Rattle.grove_answer.proofs.Audits.{replay_fault_fits}
use Rattle.grove_answer.proofs.auditing.audit_history.Goals as goal

pub of-requires : goal.of-requires
of-requires c = replay_fault_fits c.args.history.now.tree c.deref.result.now c.deref-2.result.now c.in-Err.fault
    c.in-Err.ensures.fault

pub returns-in-Ok : goal.returns-in-Ok
returns-in-Ok c =
    rw (← c.deref.ensures.value, ← c.deref-2.ensures.value)
    (subst (λ (core : CoreState). Says (IsAudited (
      core.tree,
      core.opening,
      core.jobs,
      core.history,
      option_map said_standing c.args.history.now.standing,
    )) c.finished_lines.result)
    c.in-Ok.ensures.replayed c.finished_lines.ensures)

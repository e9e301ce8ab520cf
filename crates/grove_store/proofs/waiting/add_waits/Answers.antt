use Rattle.std.proofs.Common.{rules, ◌≡◌, ℕ, ◌<◌, List, length, get_or, Some, sym, ◌∙◌, ap, subst, arith}
use Rattle.std.specs.Prelude.{slice_get}
use Rattle.std.proofs.lemmas.Option.{slice_get_within}
use Rattle.grove_base.proofs.Lists.{read_at}
use Rattle.grove_plan.specs.declared.step.Step.{Step}
use Rattle.grove_plan.specs.declared.step.Step.TheVariants.{Lock}
use Rattle.grove_plan.proofs.Held.{lock_same}
use Rattle.grove_core.specs.Kept.{past_of}
use Rattle.grove_core.specs.Runs.{plan_of, waits_of}
use Rattle.grove_store.specs.Parts.{waits_at, AreOldOrNew}
use Rattle.grove_store.proofs.AddedWaits.{plan_read, locked_within, all_old, then_kept, written, added_more}
use Rattle.grove_store.proofs.waiting.add_waits.Goals as goal
use Rattle.grove_store.proofs.waiting.add_waits.Goals.{in-Lock, in_default}

pub waits-requires : goal.waits-requires
waits-requires c =
    locked_within c.args.core.now.tree c.args.core.now.jobs c.jobs.result.now c.jobs.ensures.legal c.args.txn c.index-jobs-txn.result c.steps-steps.result.now c.jobs.ensures.jobs c.requires.job c.index-jobs-txn.is c.steps-steps.ensures.steps
    c.loop-step.step-index c.in-Lock.node c.step-item.result (read_at c.steps-steps.result.now c.loop-step.step-index c.step-item.result c.loop-step-test.true c.step-item.is) c.in-Lock.is

pub bounds-waits-number : goal.bounds-waits-number
bounds-waits-number c =
    let within : c.in-Lock.node < length c.args.core.now.tree =
    locked_within c.args.core.now.tree c.args.core.now.jobs c.jobs.result.now c.jobs.ensures.legal c.args.txn c.index-jobs-txn.result c.steps-steps.result.now c.jobs.ensures.jobs c.requires.job c.index-jobs-txn.is c.steps-steps.ensures.steps
    c.loop-step.step-index c.in-Lock.node c.step-item.result (read_at c.steps-steps.result.now c.loop-step.step-index c.step-item.result c.loop-step-test.true c.step-item.is) c.in-Lock.is in
    let e : c.number-number.result ≡ c.in-Lock.node = c.number-number.ensures.is_it in
    let f : length c.args.waits.now ≡ length c.args.core.now.tree = c.requires.long in
    omega arith

pub bounds-all-number : goal.bounds-all-number
bounds-all-number c =
    let within : c.in-Lock.node < length c.args.core.now.tree =
    locked_within c.args.core.now.tree c.args.core.now.jobs c.jobs.result.now c.jobs.ensures.legal c.args.txn c.index-jobs-txn.result c.steps-steps.result.now c.jobs.ensures.jobs c.requires.job c.index-jobs-txn.is c.steps-steps.ensures.steps
    c.loop-step.step-index c.in-Lock.node c.step-item.result (read_at c.steps-steps.result.now c.loop-step.step-index c.step-item.result c.loop-step-test.true c.step-item.is) c.in-Lock.is in
    let e : c.number-number.result ≡ c.in-Lock.node = c.number-number.ensures.is_it in
    let f : length c.args.waits.now ≡ length c.args.core.now.tree = c.requires.long in
    let g : length c.args.all.now ≡ length c.args.waits.now = c.requires.same in
    let h : length c.loop-step.all ≡ length c.args.all.now = search rules in
    omega arith

pub loop-step-preserved : goal.loop-step-preserved
loop-step-preserved c =
    let new : ℕ → ℕ = waits_at c.args.core.now.jobs (past_of c.args.core.now) c.args.waits.now in
    let read : slice_get c.steps-steps.result.now c.loop-step.step-index ≡ Some c.step-item.result =
    read_at c.steps-steps.result.now c.loop-step.step-index c.step-item.result c.loop-step-test.true c.step-item.is in
    elim c.match-step.branch [
      | in-Lock w ↦
          let e : w.number-number.result ≡ w.in-Lock.node = w.number-number.ensures.is_it in
          let within : w.in-Lock.node < length c.args.core.now.tree =
          locked_within c.args.core.now.tree c.args.core.now.jobs c.jobs.result.now c.jobs.ensures.legal c.args.txn c.index-jobs-txn.result c.steps-steps.result.now c.jobs.ensures.jobs c.requires.job c.index-jobs-txn.is c.steps-steps.ensures.steps
          c.loop-step.step-index w.in-Lock.node c.step-item.result read w.in-Lock.is in
          let f : length c.args.waits.now ≡ length c.args.core.now.tree = c.requires.long in
          let g : length c.args.all.now ≡ length c.args.waits.now = c.requires.same in
          let h : length c.loop-step.all ≡ length c.args.all.now = search rules in
          let later : w.waits.result ≡ waits_of c.args.core.now.jobs (past_of c.args.core.now) w.number-number.result =
          w.waits.ensures ∙ ap (λ (n : ℕ). waits_of c.args.core.now.jobs (past_of c.args.core.now) n) (sym e) in
          let is : w.min.result ≡ waits_at c.args.core.now.jobs (past_of c.args.core.now) c.args.waits.now w.number-number.result =
          omega (arith, w.min.ensures, w.saturating_add-sum.ensures, later) in
          let made = written new c.loop-step.all w.number-number.result w.min.result (omega arith) is in
          let kept : AreOldOrNew new c.loop-step.all c.match-step.all = subst (λ (ws : List ℕ). AreOldOrNew new c.loop-step.all ws) (sym w.all-is) made.0 in
          let here : get_or c.match-step.all w.number-number.result 0 ≡ new w.number-number.result = ap (λ (ws : List ℕ). get_or ws w.number-number.result 0) w.all-is ∙ made.1 in
          record {
            kept = then_kept new c.args.all.now c.loop-step.all c.match-step.all c.loop-step.invariant.kept kept;
            added = added_more new c.steps-steps.result.now c.loop-step.step-index c.step-item.result c.loop-step.all c.match-step.all read kept
                (λ node is. subst (λ (n : ℕ). get_or c.match-step.all n 0 ≡ new n) (e ∙ lock_same w.in-Lock.node node (sym w.in-Lock.is ∙ is)) here) c.loop-step.invariant.added;
          }
      | in_default w ↦
          let kept : AreOldOrNew new c.loop-step.all c.match-step.all = subst (λ (ws : List ℕ). AreOldOrNew new c.loop-step.all ws) (sym w.all-is) (all_old new c.loop-step.all) in
          record {
            kept = then_kept new c.args.all.now c.loop-step.all c.match-step.all c.loop-step.invariant.kept kept;
            added = added_more new c.steps-steps.result.now c.loop-step.step-index c.step-item.result c.loop-step.all c.match-step.all read kept
                (λ node is. absurd (w.in_default.not-Lock node is)) c.loop-step.invariant.added;
          }
    ]

pub returns-clause-added : goal.returns-clause-added
returns-clause-added c =
    let steps : c.steps-steps.result.now ≡ plan_of c.args.core.now.jobs c.args.txn =
    plan_read c.args.core.now.jobs c.jobs.result.now c.args.txn c.index-jobs-txn.result c.steps-steps.result.now c.jobs.ensures.jobs c.requires.job c.index-jobs-txn.is c.steps-steps.ensures.steps in
    λ place node at. c.loop-step.invariant.added place node
    (let lt : place < length c.steps-steps.result.now = slice_get_within c.steps-steps.result.now place (Lock node) (ap (λ (ss : List Step). slice_get ss place) steps ∙ at) in omega arith)
    (ap (λ (ss : List Step). slice_get ss place) steps ∙ at)

use Rattle.std.proofs.Common.{ap, ap₂, ◌∙◌, arith, not}
use Rattle.std.proofs.lemmas.Grind.{common_steps}
use Rattle.grove_build.specs.Keeping.{AreTargetsOf}
use Rattle.grove_build.proofs.TargetLists.{as_targets, targets_from, same_targets, compare_same, targets_alike}
use Rattle.grove_build.proofs.Missing.{none_missing, skipped, added, all_sorted, where_none, where_some}
use Rattle.grove_build.proofs.kept_plans.KeptPlans.add_missing.Goals as goal
use Rattle.grove_build.proofs.kept_plans.KeptPlans.add_missing.Goals.{then-is_none+in_ok-insert, else-is_none}

pub loop-list-init : goal.loop-list-init
loop-list-init c = rw c.requires (none_missing (λ key. targets_from key.items) _ c.args.self.now c.args.lists.now)

pub loop-list-preserved : goal.loop-list-preserved
loop-list-preserved c =
    let at = c.loop-list in
    let own : AreTargetsOf c.list-item.result c.in_ok-targets.targets.items = record { nodes = c.in_ok-targets.ensures.nodes; lengths = c.in_ok-targets.ensures.lengths } in
    elim c.if-is_none.branch [
      | then-is_none+in_ok-insert w ↦
          rw w.parts-is
          (added (λ key. targets_from key.items) _ c.args.self.now c.args.lists.now
          (λ a b same. ap targets_from (same_targets a.items b.items same))
          at.list-index at.parts.entries w.insert.new.self.entries at.invariant c.in_ok-targets.targets _
          (ap₂ as_targets own.nodes own.lengths)
          (where_none c.place_of.result _ (ap not c.is_none.ensures ∙ ap (λ b. not (not b)) w.if-is_none.true)
          c.place_of.ensures.none c.list-item.result own) (omega arith) c.list-item.is
          w.in_ok-insert.ensures.entries w.in_ok-insert.ensures.unique
          (grind (arith, common_steps, w.in_ok-insert.ensures.len)))
      | else-is_none w ↦
          rw w.parts-is
          (let (place, is_first) = where_some c.place_of.result _
          (ap not c.is_none.ensures ∙ ap (λ b. not (not b)) w.if-is_none.false) c.place_of.ensures.first in
          skipped (λ key. targets_from key.items) _ c.args.self.now c.args.lists.now at.list-index at.parts.entries
          at.invariant
          c.list-item.result (place, (is_first c.list-item.result own).stands) (omega arith) c.list-item.is)
    ]

pub returns : goal.returns
returns c =
    all_sorted (λ key. targets_from key.items) _ c.args.self.now c.args.lists.now
    (λ a b same. compare_same a.items b.items
    (targets_alike a.items b.items (ap (λ targets. targets.0) same) (ap (λ targets. targets.1) same)))
    c.loop-list.list-index c.loop-list.parts.entries c.loop-list.invariant (omega arith) (omega arith)

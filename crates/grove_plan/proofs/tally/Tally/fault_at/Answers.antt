use Rattle.std.proofs.Common.{◌≡◌, ◌<◌, true, false, length, slice_get, Some, sym, ◌∙◌, ap, arith}
use Rattle.grove_access.specs.Lists.{nodes_of}
use Rattle.grove_access.proofs.Lists.{node_at, nodes_length}
use Rattle.grove_plan.specs.declared.step.Step.TheVariants.{Lock, Unlock, Access}
use Rattle.grove_plan.specs.Tallies.{is_free, is_holding}
use Rattle.grove_plan.proofs.StepFaults.{lock_strange, lock_again, lock_alone, lock_fine, unlock_strange, unlock_unheld, unlock_fine, access_strange, access_wrong, access_unheld, access_fine}
use Rattle.grove_plan.proofs.TallyState.{fault_read, locked_by, held_by, parent_missed, parent_kept, first_kept, access_by}
use Rattle.grove_plan.proofs.tally.Tally.fault_at.Goals as goal
use Rattle.grove_plan.proofs.tally.Tally.fault_at.Goals.{else-self-via-then-self+else-not-holds_parent, else-self-via-else-self}

pub hold-requires-else-access-self : goal.hold-requires-else-access-self
hold-requires-else-access-self c = grind (arith, node_at)

pub returns-then-number-len : goal.returns-then-number-len
returns-then-number-len c =
    fault_read c.args.tree.now (nodes_of c.args.list.now) c.args.plan.now c.args.position (Lock c.in-Lock.node) _ _ c.requires.within c.in-Lock.is
    (lock_strange c.args.tree.now c.args.plan.now c.args.position c.in-Lock.node (omega arith))

pub returns-then-not-is_free : goal.returns-then-not-is_free
returns-then-not-is_free c =
    let lt : c.in-Lock.node < length c.args.tree.now = omega arith in
    fault_read c.args.tree.now (nodes_of c.args.list.now) c.args.plan.now c.args.position (Lock c.in-Lock.node) _ _ c.requires.within c.in-Lock.is
    (lock_again c.args.tree.now c.args.plan.now c.args.position c.in-Lock.node lt
    (locked_by c.args.tree.now c.args.plan.now c.args.position c.in-Lock.node false c.args.self.now c.requires.tallied lt
    (sym (ap is_free c.hold.ensures) ∙ sym c.is_free.ensures ∙ c.if-not-is_free.true)))

pub returns-then-not-holds_parent : goal.returns-then-not-holds_parent
returns-then-not-holds_parent c =
    let lt : c.in-Lock.node < length c.args.tree.now = omega arith in
    fault_read c.args.tree.now (nodes_of c.args.list.now) c.args.plan.now c.args.position (Lock c.in-Lock.node) _ _ c.requires.within c.in-Lock.is
    (lock_alone c.args.tree.now c.args.plan.now c.args.position c.in-Lock.node lt
    (locked_by c.args.tree.now c.args.plan.now c.args.position c.in-Lock.node true c.args.self.now c.requires.tallied lt
    (sym (ap is_free c.hold.ensures) ∙ sym c.is_free.ensures ∙ c.if-not-is_free.false))
    (parent_missed c.args.tree.now c.args.plan.now c.args.position c.in-Lock.node c.args.self.now c.len.ensures.tree c.requires.tallied lt c.if-self.true
    (sym c.holds_parent.ensures ∙ c.if-not-holds_parent.true)))

pub returns-else-self : goal.returns-else-self
returns-else-self c =
    let lt : c.in-Lock.node < length c.args.tree.now = omega arith in
    fault_read c.args.tree.now (nodes_of c.args.list.now) c.args.plan.now c.args.position (Lock c.in-Lock.node) _ _ c.requires.within c.in-Lock.is
    (lock_fine c.args.tree.now c.args.plan.now c.args.position c.in-Lock.node lt
    (locked_by c.args.tree.now c.args.plan.now c.args.position c.in-Lock.node true c.args.self.now c.requires.tallied lt
    (sym (ap is_free c.hold.ensures) ∙ sym c.is_free.ensures ∙ c.if-not-is_free.false))
    (elim c.else-self.branch [
      | else-self-via-then-self+else-not-holds_parent w ↦ grind (arith, parent_kept)
      | else-self-via-else-self w ↦ grind (arith, first_kept)
    ]))

pub returns-then-number-len-2 : goal.returns-then-number-len-2
returns-then-number-len-2 c =
    fault_read c.args.tree.now (nodes_of c.args.list.now) c.args.plan.now c.args.position (Unlock c.in-Unlock.node) _ _ c.requires.within c.in-Unlock.is
    (unlock_strange c.args.tree.now c.args.plan.now c.args.position c.in-Unlock.node (omega arith))

pub returns-then-not-is_held : goal.returns-then-not-is_held
returns-then-not-is_held c =
    let lt : c.in-Unlock.node < length c.args.tree.now = omega arith in
    fault_read c.args.tree.now (nodes_of c.args.list.now) c.args.plan.now c.args.position (Unlock c.in-Unlock.node) _ _ c.requires.within c.in-Unlock.is
    (unlock_unheld c.args.tree.now c.args.plan.now c.args.position c.in-Unlock.node lt
    (held_by c.args.tree.now c.args.plan.now c.args.position c.in-Unlock.node false c.args.self.now c.requires.tallied lt
    (sym (ap is_holding c.hold-else-number-len-2.ensures) ∙ sym c.is_held.ensures ∙ c.if-not-is_held.true)))

pub returns-else-not-is_held : goal.returns-else-not-is_held
returns-else-not-is_held c =
    let lt : c.in-Unlock.node < length c.args.tree.now = omega arith in
    fault_read c.args.tree.now (nodes_of c.args.list.now) c.args.plan.now c.args.position (Unlock c.in-Unlock.node) _ _ c.requires.within c.in-Unlock.is
    (unlock_fine c.args.tree.now c.args.plan.now c.args.position c.in-Unlock.node lt
    (held_by c.args.tree.now c.args.plan.now c.args.position c.in-Unlock.node true c.args.self.now c.requires.tallied lt
    (sym (ap is_holding c.hold-else-number-len-2.ensures) ∙ sym c.is_held.ensures ∙ c.if-not-is_held.false)))

pub returns-then-access-len : goal.returns-then-access-len
returns-then-access-len c =
    let count : length (nodes_of c.args.list.now) ≡ length c.args.list.now = nodes_length c.args.list.now in
    fault_read c.args.tree.now (nodes_of c.args.list.now) c.args.plan.now c.args.position (Access c.in-Access.access) _ _ c.requires.within c.in-Access.is
    (access_strange (nodes_of c.args.list.now) c.args.plan.now c.args.position c.in-Access.access (omega arith))

pub returns-then-access-self : goal.returns-then-access-self
returns-then-access-self c =
    let count : length (nodes_of c.args.list.now) ≡ length c.args.list.now = nodes_length c.args.list.now in
    fault_read c.args.tree.now (nodes_of c.args.list.now) c.args.plan.now c.args.position (Access c.in-Access.access) _ _ c.requires.within c.in-Access.is
    (access_wrong (nodes_of c.args.list.now) c.args.plan.now c.args.position c.in-Access.access (omega arith)
    (λ next. c.if-access-self.true (next ∙ sym c.requires.tallied.accesses)))

pub returns-then-not-is_held-2 : goal.returns-then-not-is_held-2
returns-then-not-is_held-2 c =
    let count : length (nodes_of c.args.list.now) ≡ length c.args.list.now = nodes_length c.args.list.now in
    let at : slice_get (nodes_of c.args.list.now) c.in-Access.access ≡ Some c.get.result.node = node_at c.args.list.now c.in-Access.access c.get.result c.get.ensures in
    fault_read c.args.tree.now (nodes_of c.args.list.now) c.args.plan.now c.args.position (Access c.in-Access.access) _ _ c.requires.within c.in-Access.is
    (access_unheld (nodes_of c.args.list.now) c.args.plan.now c.args.position c.in-Access.access (omega arith) (c.if-access-self.false ∙ c.requires.tallied.accesses)
    (access_by c.args.plan.now c.args.position (slice_get (nodes_of c.args.list.now) c.in-Access.access) c.get.result.node false at
    (held_by c.args.tree.now c.args.plan.now c.args.position c.get.result.node false c.args.self.now c.requires.tallied (c.requires.fits c.in-Access.access c.get.result.node at)
    (sym (ap is_holding c.hold-else-access-self.ensures) ∙ sym c.is_held-else-access-self.ensures ∙ c.if-not-is_held-2.true))))

pub returns-else-not-is_held-2 : goal.returns-else-not-is_held-2
returns-else-not-is_held-2 c =
    let count : length (nodes_of c.args.list.now) ≡ length c.args.list.now = nodes_length c.args.list.now in
    let at : slice_get (nodes_of c.args.list.now) c.in-Access.access ≡ Some c.get.result.node = node_at c.args.list.now c.in-Access.access c.get.result c.get.ensures in
    fault_read c.args.tree.now (nodes_of c.args.list.now) c.args.plan.now c.args.position (Access c.in-Access.access) _ _ c.requires.within c.in-Access.is
    (access_fine (nodes_of c.args.list.now) c.args.plan.now c.args.position c.in-Access.access (omega arith) (c.if-access-self.false ∙ c.requires.tallied.accesses)
    (access_by c.args.plan.now c.args.position (slice_get (nodes_of c.args.list.now) c.in-Access.access) c.get.result.node true at
    (held_by c.args.tree.now c.args.plan.now c.args.position c.get.result.node true c.args.self.now c.requires.tallied (c.requires.fits c.in-Access.access c.get.result.node at)
    (sym (ap is_holding c.hold-else-access-self.ensures) ∙ sym c.is_held-else-access-self.ensures ∙ c.if-not-is_held-2.false))))

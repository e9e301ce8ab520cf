use Rattle.std.proofs.Common.{◌<◌, ◌+◌, ◌-◌, ◌*◌, length, refl, sym, ◌∙◌, ap, arith}
use Rattle.grove_access.specs.Lists.{nodes_of}
use Rattle.grove_access.proofs.Lists.{nodes_length}
use Rattle.grove_access.proofs.Slots.{length_read, few_slots}
use Rattle.grove_base.proofs.Counting.{count_le}
use Rattle.grove_plan.specs.declared.step.Step.TheVariants.{Unlock, Access}
use Rattle.grove_plan.proofs.StepFaults.{unlock_kept, access_kept}
use Rattle.grove_plan.proofs.TallyState.{kept_read, tally_locked, tally_unlocked, tally_accessed, tallied_weight, tallied_part, part_small}
use Rattle.grove_plan.proofs.tally.Tally.take.Goals as goal

pub overflow_add-self : goal.overflow_add-self
overflow_add-self c = grind (arith, tallied_weight)

pub index_mut-requires-in-Unlock : goal.index_mut-requires-in-Unlock
index_mut-requires-in-Unlock c =
    let lt : c.in-Unlock.node < length c.args.tree.now = (unlock_kept c.args.tree.now c.args.plan.now c.args.position c.in-Unlock.node
    (kept_read c.args.tree.now (nodes_of c.args.list.now) c.args.plan.now c.args.position (Unlock c.in-Unlock.node) _ c.requires.within c.in-Unlock.is c.requires.faultless)).0 in
    omega (arith, c.requires.tallied.nodes)

pub weight-requires-in-Unlock : goal.weight-requires-in-Unlock
weight-requires-in-Unlock c =
    (unlock_kept c.args.tree.now c.args.plan.now c.args.position c.in-Unlock.node
    (kept_read c.args.tree.now (nodes_of c.args.list.now) c.args.plan.now c.args.position (Unlock c.in-Unlock.node) _ c.requires.within c.in-Unlock.is c.requires.faultless)).0

pub overflow_sub-self : goal.overflow_sub-self
overflow_sub-self c = grind (arith, tallied_part)

pub overflow_add-self-in-Access : goal.overflow_add-self-in-Access
overflow_add-self-in-Access c = grind (arith, count_le)

pub overflow_add-self-in-Access-2 : goal.overflow_add-self-in-Access-2
overflow_add-self-in-Access-2 c = grind (arith, few_slots, length_read, part_small, tallied_weight)

pub overflow_mul-self : goal.overflow_mul-self
overflow_mul-self c = grind (arith, few_slots, length_read, part_small, tallied_weight)

pub get-requires : goal.get-requires
get-requires c =
    let lt : c.in-Access.access < length (nodes_of c.args.list.now) = (access_kept (nodes_of c.args.list.now) c.args.plan.now c.args.position c.in-Access.access
    (kept_read c.args.tree.now (nodes_of c.args.list.now) c.args.plan.now c.args.position (Access c.in-Access.access) _ c.requires.within c.in-Access.is c.requires.faultless)).0 in
    omega (arith, nodes_length c.args.list.now)

pub returns-in-Lock : goal.returns-in-Lock
returns-in-Lock c =
    tally_locked c.args.tree.now (nodes_of c.args.list.now) c.args.plan.now c.args.position c.in-Lock.node c.number.result _ c.args.self.now _ c.requires.within c.in-Lock.is c.number.ensures.is_it
    c.requires.tallied c.requires.faultless refl refl refl (ap (λ w. c.args.self.now.weight + w) (c.from.ensures ∙ c.weight.ensures)) refl

pub returns-in-Unlock : goal.returns-in-Unlock
returns-in-Unlock c =
    tally_unlocked c.args.tree.now (nodes_of c.args.list.now) c.args.plan.now c.args.position c.in-Unlock.node c.number-in-Unlock.result _ c.args.self.now _ c.requires.within c.in-Unlock.is
    c.number-in-Unlock.ensures.is_it c.requires.tallied c.requires.faultless refl refl refl
    (ap (λ w. c.args.self.now.weight - w) (c.from-in-Unlock.ensures ∙ c.weight-in-Unlock.ensures)) refl

pub returns-in-Access : goal.returns-in-Access
returns-in-Access c =
    tally_accessed c.args.tree.now c.args.plan.now c.args.position c.in-Access.access _ c.args.self.now _ c.requires.limits c.requires.within c.in-Access.is c.requires.tallied refl refl refl refl c.requires.lengths
    (ap (λ n. c.args.self.now.cost + c.args.self.now.weight * n) (c.from-in-Access.ensures ∙ sym (length_read c.args.list.now c.in-Access.access c.get.result c.get.ensures)))

use Rattle.std.proofs.Common.{◌<◌, length, arith}
use Rattle.std.specs.Vec.{vec_capacity}
use Rattle.grove_plan.specs.declared.step.Step.TheVariants.{Unlock}
use Rattle.grove_core.specs.declared.event.Event.TheVariants.{Take}
use Rattle.grove_core.proofs.CoreReads.{seen, closed, next_read, progress_there, steps_small, event_room, owner_there, unlocks_some}
use Rattle.grove_core.proofs.CoreSteps.{unlocked_within, may_unlock, core_unlocked}
use Rattle.grove_core.proofs.machine.Core.unlock.Goals as goal

pub index_mut-progress-requires : goal.index_mut-progress-requires
index_mut-progress-requires c =
    omega (arith, progress_there (seen c.self.view_is c.self.invariant) c.args.txn (Unlock c.args.node) c.requires)

pub unlock-requires : goal.unlock-requires
unlock-requires c =
    let core = seen c.self.view_is c.self.invariant in
    let h = next_read core c.args.txn (Unlock c.args.node) c.requires c.index_mut-progress.ensures.value in
    record { few = steps_small core c.args.txn (Unlock c.args.node) c.requires h; hold = unlocks_some core c.args.txn c.args.node c.requires h }

pub index_mut-requires : goal.index_mut-requires
index_mut-requires c =
    let core = seen c.self.view_is c.self.invariant in
    omega (arith, owner_there core c.args.node (unlocked_within core c.args.txn c.args.node c.requires))

pub push_reserved-requires : goal.push_reserved-requires
push_reserved-requires c =
    let room : length c.self.inside.history.items < vec_capacity c.self.inside.history =
    event_room c.self.view_is c.self.invariant (Take c.args.txn) (may_unlock (seen c.self.view_is c.self.invariant) c.args.txn c.args.node c.requires) in
    omega arith

pub invariant_of-self : goal.invariant_of-self
invariant_of-self c =
    let core = seen c.self.view_is c.self.invariant in
    let h = next_read core c.args.txn (Unlock c.args.node) c.requires c.index_mut-progress.ensures.value in
    rw c.number.ensures.is_it
    (closed c.push_reserved.new.self.items (vec_capacity c.push_reserved.new.self) c.self.view_is c.push_reserved.ensures.items c.push_reserved.ensures.capacity
    (core_unlocked core c.args.txn c.args.node c.requires h c.unlock.ensures))

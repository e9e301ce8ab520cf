use Rattle.std.proofs.Common.{◌≡◌, ℕ, ◌<◌, length, IfSome, sym, subst, arith}
use Rattle.std.specs.Vec.{vec_capacity}
use Rattle.std.proofs.lemmas.List.{length-reverse}
use Rattle.grove_plan.specs.declared.step.Step.TheVariants.{Lock}
use Rattle.grove_core.specs.declared.event.Event.TheVariants.{Take}
use Rattle.grove_core.proofs.CoreReads.{seen, closed, next_read, progress_there, steps_small, held_few, event_room, owner_there, lock_room}
use Rattle.grove_core.proofs.CoreSteps.{locked_within, may_lock, core_locked}
use Rattle.grove_core.proofs.machine.Core.lock.Goals as goal

pub index_mut-progress-requires : goal.index_mut-progress-requires
index_mut-progress-requires c =
    omega (arith, progress_there (seen c.self.view_is c.self.invariant) c.args.txn (Lock c.args.node) c.requires.next)

pub lock_to_keep-kept-requires : goal.lock_to_keep-kept-requires
lock_to_keep-kept-requires c = locked_within (seen c.self.view_is c.self.invariant) c.args.txn c.args.node c.requires.next

pub lock-requires : goal.lock-requires
lock-requires c =
    let core = seen c.self.view_is c.self.invariant in
    let h = next_read core c.args.txn (Lock c.args.node) c.requires.next c.index_mut-progress.ensures.value in
    let room : length c.index_mut-progress.result.now.locked.items < c.index_mut-progress.result.now.locked.capacity = lock_room core c.args.txn c.args.node c.requires.next h in
    record { few = steps_small core c.args.txn (Lock c.args.node) c.requires.next h; hold = held_few core c.args.txn h; room = omega arith }

pub index_mut-requires : goal.index_mut-requires
index_mut-requires c =
    let core = seen c.self.view_is c.self.invariant in
    omega (arith, owner_there core c.args.node (locked_within core c.args.txn c.args.node c.requires.next))

pub push_reserved-requires : goal.push_reserved-requires
push_reserved-requires c =
    let room : length c.self.inside.history.items < vec_capacity c.self.inside.history =
    event_room c.self.view_is c.self.invariant (Take c.args.txn) (may_lock (seen c.self.view_is c.self.invariant) c.args.txn c.args.node c.requires.next c.requires.free) in
    omega arith

pub invariant_of-self : goal.invariant_of-self
invariant_of-self c =
    let core = seen c.self.view_is c.self.invariant in
    let h = next_read core c.args.txn (Lock c.args.node) c.requires.next c.index_mut-progress.ensures.value in
    let is = subst (λ (k : ℕ). IfSome c.lock_to_keep-kept.result (λ lock. lock ≡ record { node = c.args.node; time = k })) (sym (length-reverse c.args.self.now.history)) c.lock_to_keep-kept.ensures.kept in
    rw c.number.ensures.is_it
    (closed c.push_reserved.new.self.items (vec_capacity c.push_reserved.new.self) c.self.view_is c.push_reserved.ensures.items c.push_reserved.ensures.capacity
    (core_locked core c.args.txn c.args.node c.requires.next c.requires.free h c.lock_to_keep-kept.result is c.lock_to_keep-kept.ensures.left c.lock.ensures))

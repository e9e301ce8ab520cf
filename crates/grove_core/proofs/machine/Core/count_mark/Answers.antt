use Rattle.std.proofs.Common.{◌+◌, ◌^◌, ◌<◌, length, arith}
use Rattle.std.specs.Vec.{vec_capacity}
use Rattle.grove_plan.specs.declared.step.Step.TheVariants.{Lock}
use Rattle.grove_core.specs.declared.event.Event.TheVariants.{Mark}
use Rattle.grove_core.proofs.CoreReads.{seen, closed, next_read, progress_there, event_room, wait_room, wait_there, wait_read}
use Rattle.grove_core.proofs.CoreSteps.{locked_within, core_marked}
use Rattle.grove_core.proofs.machine.Core.count_mark.Goals as goal

pub index_mut-progress-requires : goal.index_mut-progress-requires
index_mut-progress-requires c =
    omega (arith, progress_there (seen c.self.view_is c.self.invariant) c.args.txn (Lock c.args.node) c.requires.next)

pub index_mut-requires : goal.index_mut-requires
index_mut-requires c =
    let core = seen c.self.view_is c.self.invariant in
    omega (arith, wait_there core c.args.node (locked_within core c.args.txn c.args.node c.requires.next))

pub overflow_add-index_mut : goal.overflow_add-index_mut
overflow_add-index_mut c =
    let core = seen c.self.view_is c.self.invariant in
    let counted = wait_read core c.args.node c.number.result (locked_within core c.args.txn c.args.node c.requires.next) c.number.ensures.is_it c.index_mut.result.now c.index_mut.ensures.value in
    let small : c.index_mut.result.now + 1 < 2 ^ 32 = wait_room core c.args.node c.index_mut.result.now counted in
    search (arith, small)

pub push_reserved-requires : goal.push_reserved-requires
push_reserved-requires c =
    let room : length c.self.inside.history.items < vec_capacity c.self.inside.history =
    event_room c.self.view_is c.self.invariant (Mark c.args.txn) ((c.args.node, c.requires.next, (c.args._holder, c.requires.blocked), c.requires.unmarked)) in
    omega arith

pub invariant_of-self : goal.invariant_of-self
invariant_of-self c =
    let core = seen c.self.view_is c.self.invariant in
    let h = next_read core c.args.txn (Lock c.args.node) c.requires.next c.index_mut-progress.ensures.value in
    let counted = wait_read core c.args.node c.number.result (locked_within core c.args.txn c.args.node c.requires.next) c.number.ensures.is_it c.index_mut.result.now c.index_mut.ensures.value in
    rw c.number.ensures.is_it
    (closed c.push_reserved.new.self.items (vec_capacity c.push_reserved.new.self) c.self.view_is c.push_reserved.ensures.items c.push_reserved.ensures.capacity
    (core_marked core c.args.txn c.args.node c.requires.next c.args._holder c.requires.blocked c.requires.unmarked h c.mark.ensures c.index_mut.result.now counted))

-- Threads may share a desk.
use denote.RattleType.{RattleType}
use denote.Builtin.{u8, u64}
use denote.Struct.Declared.{shape}
use denote.Param.Send.{IsSend, IsSync, AllSend, AllSync, sendable, struct_send, struct_sync, recorded_send}
use denote.Param.Send.{recorded_sync, view_send, view_sync}
use Rattle.std.proofs.Crossing.{crosses, Vec-send}
use Rattle.grove_tree.proofs.Sharing.{Tree-sync}
use Rattle.grove_store.proofs.Sharing.{Store-send}
use Rattle.grove_wire.specs.contracts.request.Request as Request
use Rattle.grove_line.specs.declared.line.Trees as trees
use Rattle.grove_line.specs.contracts.line.Line as Line
use Rattle.grove_line.specs.contracts.line.Line.TheInside as LineInside
use Rattle.grove_desk.specs.declared.opening.Opening as opening
use Rattle.grove_store.specs.declared.keeper.Keeper as keeper
use Rattle.grove_build.specs.contracts.kept_plans.counts.PlanCounts as Counts
use Rattle.grove_desk.specs.contracts.journal.Journal as Journal
use Rattle.std.specs.contracts.vec.Vec as Vec
use Rattle.std.specs.contracts.alloc.Global as Heap
use Rattle.std.specs.contracts.impls.GlobalAllocator.TheImpl.{ghosts}
use Rattle.std.specs.contracts.sync.Mutex as Mutex
use Rattle.grove_desk.specs.contracts.receipt.Receipt as Receipt
use Rattle.grove_desk.specs.contracts.desk_receipt.DeskReceipt as DeskReceipt
use Rattle.grove_desk.specs.contracts.desk_receipt.DeskReceipt.TheInside as ReceiptInside
use Rattle.grove_desk.specs.contracts.door.Door as Door
use Rattle.grove_desk.specs.contracts.door.Door.TheInside as DoorInside
use Rattle.grove_desk.specs.contracts.slot.Slot as Slot
use Rattle.grove_desk.specs.contracts.bells.Bells as Bells
use Rattle.grove_desk.specs.contracts.ledger.Ledger as Ledger
use Rattle.grove_desk.specs.contracts.ledger.Ledger.TheInside as Inside
use Rattle.grove_desk.specs.contracts.board.Board as Board
use Rattle.grove_desk.specs.contracts.desk.Desk.TheInside as DeskInside
use Rattle.grove_desk.specs.contracts.desk.Desk as Desk

Journal-send : IsSend Journal.the_row
Journal-send = search (sendable, crosses, Store-send) depth 60 fits 4000

Receipt-send : IsSend (Receipt.the_field).row
Receipt-send = search (sendable, crosses) depth 60 fits 4000

-- what a line asks for does too, and so does the line
Request-send : IsSend (Request.the_field).row
Request-send = search (sendable, crosses) depth 80 fits 8000

module _ (T : RattleType) (included : trees.Ghosts T.Denot) where
  LineInside-send : IsSend (LineInside.the_row T included)
  LineInside-send =
      let each : AllSend (shape (LineInside.the_type T included)).fields = (
        Vec-send u8 (search (sendable, crosses)),
        (search (sendable, crosses, Request-send) depth 80 fits 8000, (search (sendable, crosses), tt)),
      ) in
      recorded_send _ _ _ (LineInside.the_type T included).to_one
      (struct_send (shape (LineInside.the_type T included)) each)

  Line-send : IsSend (Line.the_row T included)
  Line-send = view_send _ _ _ _ _ LineInside-send

Numbers-send : IsSend (Vec.the_row u64 Heap.the_row ghosts)
Numbers-send = Vec-send u64 (search (sendable, crosses))

Counts-send : IsSend (Counts.the_field).row
Counts-send = search (sendable, crosses) depth 60 fits 4000

Bells-sync : IsSync (Bells.the_field).row
Bells-sync = search (sendable, crosses) depth 60 fits 4000

module _ (B K : RattleType) (picked : opening.Ghosts B.Denot) (keeps : keeper.Ghosts K.Denot)
    (keeper_send : IsSend K) where
  -- a ledger goes from one thread to another
  Inside-send : IsSend (Inside.the_row B K picked keeps)
  Inside-send =
      let each : AllSend (shape (Inside.the_type B K picked keeps)).fields =
      search (sendable, crosses, Store-send, Journal-send, keeper_send) depth 60 fits 4000 in
      recorded_send _ _ _ (Inside.the_type B K picked keeps).to_one
      (struct_send (shape (Inside.the_type B K picked keeps)) each)

  Ledger-send : IsSend (Ledger.the_row B K picked keeps)
  Ledger-send = view_send _ _ _ _ _ Inside-send

  -- so does a receipt that waits to be taken
  ReceiptInside-send : IsSend (ReceiptInside.the_row B K picked keeps)
  ReceiptInside-send =
      let each : AllSend (shape (ReceiptInside.the_type B K picked keeps)).fields =
      (Receipt-send, (search (sendable, crosses), (search (sendable, crosses), tt))) in
      recorded_send _ _ _ (ReceiptInside.the_type B K picked keeps).to_one
      (struct_send (shape (ReceiptInside.the_type B K picked keeps)) each)

  DeskReceipt-send : IsSend (DeskReceipt.the_row B K picked keeps)
  DeskReceipt-send = view_send _ _ _ _ _ ReceiptInside-send

  Slot-send : IsSend (Slot.the_row B K picked keeps)
  Slot-send = search (sendable, crosses, Line-send, DeskReceipt-send) depth 80 fits 8000

  Slots-send : IsSend (Vec.the_row (Slot.the_row B K picked keeps) Heap.the_row ghosts)
  Slots-send = Vec-send (Slot.the_row B K picked keeps) Slot-send

  -- and what lies behind the lock
  Board-send : IsSend (Board.the_row B K picked keeps)
  Board-send =
      let each : AllSend (shape (Board.the_type B K picked keeps)).fields = (
        search (sendable, crosses, Ledger-send) depth 60 fits 4000,
        (
          Slots-send,
          (
            search (sendable, crosses),
            (
              search (sendable, crosses),
              (
                search (sendable, crosses),
                (search (sendable, crosses), (Counts-send, (search (sendable, crosses), (Numbers-send, tt)))),
              ),
            ),
          ),
        ),
      ) in
      recorded_send _ _ _ (Board.the_type B K picked keeps).to_one
      (struct_send (shape (Board.the_type B K picked keeps)) each)

  DoorInside-sync : IsSync (DoorInside.the_row B picked)
  DoorInside-sync =
      let each : AllSync (shape (DoorInside.the_type B picked)).fields =
      (search (sendable, crosses, Tree-sync) depth 60 fits 4000, (search (sendable, crosses), tt)) in
      recorded_sync _ _ _ (DoorInside.the_type B picked).to_one (struct_sync (shape (DoorInside.the_type B picked)) each)

  Door-sync : IsSync (Door.the_row B picked)
  Door-sync = view_sync _ _ _ _ _ DoorInside-sync

  DeskInside-sync : IsSync (DeskInside.the_row B K picked keeps)
  DeskInside-sync =
      let lock : IsSync (Mutex.the_row (Board.the_row B K picked keeps)) =
      search (sendable, crosses, Board-send) depth 60 fits 4000 in
      let each : AllSync (shape (DeskInside.the_type B K picked keeps)).fields = (
        search (sendable, crosses),
        (lock, (Bells-sync, (search (sendable, crosses), (search (sendable, crosses), (Door-sync, tt))))),
      ) in
      recorded_sync _ _ _ (DeskInside.the_type B K picked keeps).to_one
      (struct_sync (shape (DeskInside.the_type B K picked keeps)) each)

  -- each part of a desk may be read by several threads at once, or stands behind its lock
  pub Desk-sync : IsSync (Desk.the_row B K picked keeps)
  Desk-sync = view_sync _ _ _ _ _ DeskInside-sync

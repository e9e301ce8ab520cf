-- What a handle holds may go to another thread, and so may the handle.
use mir.Raw.{raw}
use base.Shift.{Keyless}
use denote.Memory.{lone}
use denote.RawPtr.{Ptr}
use denote.Builtin.{RawPtr}
use denote.Param.Send.{IsSend, owning_send, struct_send, sendable}
use denote.Struct.Struct.{exits_of}
use denote.Struct.Owning.{shape, fields, to}
use Rattle.std.specs.Prelude.{Option, Some, None}
use Rattle.std.specs.declared.alloc.Global.{Global}
use Rattle.std.proofs.Crossing.{crosses, frees}
use Rattle.std_alloc.proofs.SendSync.{quiet, lies}
use Rattle.grove_tree.proofs.Sharing.{Tree-send}
use Rattle.grove_store.proofs.Sharing.{Store-send}
use Rattle.grove_c.specs.Handles.{handle_owns}
use Rattle.grove_c.specs.contracts.handle.Handle.{the_row, the_type}
use Rattle.grove_c.specs.contracts.kept.Kept as kept
use Rattle.grove_c.specs.declared.kept.Kept.{Kept}
use Rattle.std.proofs.alloc.Global.TheSendSync.{the_field_send as heap_send}

-- a tree, or a store with its last reply
kept_send : IsSend kept.the_row
kept_send = search (sendable, crosses, Tree-send, Store-send) depth 60 fits 4000

held_keyless : (a : Global) (p : Ptr) (v : Option Kept) → Keyless (handle_owns a p v)
held_keyless a p None = tt
held_keyless a p (Some x) = (lies kept.the_row kept_send p x, frees.frees a (raw (lone kept.the_row.mir)) p)

pub send : IsSend the_row
send = let O = the_type in let ps : IsSend RawPtr = search sendable in
    owning_send O (ps, (heap_send, tt)) (λ d. held_keyless d.alloc d.at d.value)
    (λ k. quiet (to O) (exits_of k (fields O)) ((struct_send (shape O) (ps, (heap_send, tt))).leaving k))

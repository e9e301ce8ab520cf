-- For the proofs alone: how what is known is put into a caller's buffers.
use Rattle.std.specs.Prelude.{◌≡◌, ◌<◌, ◌⊎◌, List, length}
use Rattle.grove_build.specs.declared.planning.Planned.{Planned}
use Rattle.grove_nodes.specs.declared.counted.Counted.{Counted}
use Rattle.grove_nodes.specs.declared.row.NumberedRow.{NumberedRow}
use Rattle.grove_nodes.specs.declared.status.Status.{Status}
use Rattle.grove_nodes.specs.declared.status.Status.TheVariants as status
use Rattle.grove_nodes.specs.declared.step.NumberedStep.{NumberedStep}
use Rattle.grove_nodes.specs.Numbered.{Begins}
use Rattle.grove_nodes.specs.Planning.{AreUntouched, Buffers, HoldBoth, LackRoom, refused_at}

-- the counts of a plan and its flow
abbrev pub counted_of : Planned → Counted
counted_of planned = record { cost = planned.cost; steps = length planned.plan; rows = length planned.flow; place = 0 }

-- a plan and its flow are put, or have no room
abbrev pub PutsBoth : Planned → Buffers → Counted → Status → Type 0
PutsBoth planned buffers counted status.Done = HoldBoth planned.plan planned.flow buffers
PutsBoth planned buffers counted status.Room = LackRoom counted buffers × AreUntouched buffers
PutsBoth planned buffers counted _ = ⊥

-- so are these steps and rows
pub record HoldItems (all_steps : List NumberedStep) (all_rows : List NumberedRow) (buffers : Buffers) : Type 0 where
  pub steps : Begins all_steps buffers.steps_before buffers.steps_after
  pub rows : 0 < length buffers.rows_before → Begins all_rows buffers.rows_before buffers.rows_after

-- one of the buffers is too small for them
abbrev pub LackRoomFor : List NumberedStep → List NumberedRow → Buffers → Type 0
LackRoomFor steps rows buffers = (length buffers.steps_before < length steps)
    ⊎ ((0 < length buffers.rows_before) × (length buffers.rows_before < length rows))

abbrev pub PutsItems : List NumberedStep → List NumberedRow → Buffers → Status → Type 0
PutsItems steps rows buffers status.Done = HoldItems steps rows buffers
PutsItems steps rows buffers status.Room = LackRoomFor steps rows buffers × AreUntouched buffers
PutsItems steps rows buffers _ = ⊥

-- the same, or a growth was refused
abbrev pub PutsIf : Planned → Buffers → Counted → Status → Type 0
PutsIf planned buffers counted status.Memory = (counted ≡ refused_at 0) × AreUntouched buffers
PutsIf planned buffers counted status = (counted ≡ counted_of planned) × PutsBoth planned buffers counted status

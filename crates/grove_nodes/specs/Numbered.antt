-- Steps and rows by the numbers of their nodes, and how they are put into a caller's buffers.
use Rattle.std.specs.Prelude.{◌≡◌, List, ◌++◌, length, drop, if◌then◌else◌, ◌==◌}
use Rattle.grove_plan.specs.declared.step.Step.{Step}
use Rattle.grove_plan.specs.declared.step.Step.TheVariants.{Lock, Unlock, Access}
use Rattle.grove_proof.specs.declared.flow.FlowRow.{FlowRow}
use Rattle.grove_nodes.specs.declared.step.NumberedStep.{NumberedStep}
use Rattle.grove_nodes.specs.declared.row.NumberedRow.{NumberedRow}

abbrev pub numbered : Step → NumberedStep
numbered (Lock node) = record { kind = 0; number = node }
numbered (Unlock node) = record { kind = 1; number = node }
numbered (Access number) = record { kind = 2; number = number }

-- a kind that is none stands for a lock of a node that no tree has
abbrev pub step_of : NumberedStep → Step
step_of step =
    if step.kind == 0 then Lock step.number
    else if step.kind == 1 then Unlock step.number
    else if step.kind == 2 then Access step.number
    else Lock 4294967295

abbrev pub numbered_row : FlowRow → NumberedRow
numbered_row row = record {
  node = row.node;
  above = row.above;
  held = row.held;
  first = row.first;
  last = row.last;
  own = row.own;
}

abbrev pub row_of : NumberedRow → FlowRow
row_of row = record {
  node = row.node;
  above = row.above;
  held = row.held;
  first = row.first;
  last = row.last;
  own = row.own;
}

-- the buffer begins with the items, and behind them it is as it was
abbrev pub Begins : {T : Type 0} → List T → List T → List T → Type 0
Begins items before after = after ≡ items ++ drop (length items) before

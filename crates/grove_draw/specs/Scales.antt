-- For the proofs alone: where a drawing's slots begin.
use Rattle.std.specs.Prelude.{ℕ, ◌+◌, ◌-◌, ◌^◌, min, length, slice_get, unwrap_or}
use Rattle.grove_draw.specs.declared.columns.Columns.{Columns}
use Rattle.grove_draw.specs.declared.svg.Frame.{Frame}

-- where the last access ends
abbrev pub end_of : Columns → ℕ
end_of columns = unwrap_or (slice_get columns.starts.items (length columns.starts.items - 1)) 0

-- where an access begins, or the last one ends
abbrev pub start_of : Columns → ℕ → ℕ
start_of columns access = unwrap_or (slice_get columns.starts.items access) (end_of columns)

-- the same within the frame
abbrev pub x_of : Frame → ℕ → ℕ
x_of frame slot = min (frame.left + start_of frame.columns slot) (2 ^ 64 - 1)

use Rattle.std.proofs.Common.{◌≡◌, ◌<◌, ℕ, Some, slice_get, string_bytes}
use Rattle.grove_table.specs.declared.line.Line.{Line}
use Rattle.grove_table.proofs.line.line_with.Given as goal

abbrev pub invariant-loop-place : goal.invariant-loop-place
invariant-loop-place l = (before : ℕ) (line : Line) → before < l.place → slice_get l.lines before ≡ Some line
    → string_bytes line.path ≡ l.path → ⊥

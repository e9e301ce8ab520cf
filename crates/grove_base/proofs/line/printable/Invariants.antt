use Rattle.std.proofs.Common.{◌≤◌, length}
use Rattle.std.specs.Prelude.{All, string_bytes}
use Rattle.grove_base.specs.Hints.{IsPrintable}
use Rattle.grove_base.proofs.line.printable.Given as goal

abbrev pub invariant-loop-letter : goal.invariant-loop-letter
invariant-loop-letter l = record {
  printable : All IsPrintable (string_bytes l.said);
  short : length (string_bytes l.said) ≤ 400;
}

use Rattle.std.proofs.Common.{◌≡◌, ◌≤◌, fold, length, map, string_bytes, take}
use Rattle.grove_base.specs.Numbers.{passing_below}
use Rattle.grove_table.specs.Refusals.{ends_path, with_path}
use Rattle.grove_table.specs.Plantings.{paths_of}
use Rattle.grove_table.proofs.planting.plant.Given as goal

abbrev pub invariant-loop-end : goal.invariant-loop-end
invariant-loop-end l = record {
  few : length l.sprouts.items ≤ 4096;
  planted : paths_of l.sprouts.items ≡ fold with_path (paths_of l.fn.sprouts.items)
      (map (λ place. take place (string_bytes l.line.path))
      (passing_below l.end (ends_path (string_bytes l.line.path))));
}

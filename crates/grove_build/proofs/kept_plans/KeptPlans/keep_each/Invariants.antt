use Rattle.std.proofs.Common.{◌≡◌, ℕ, ◌+◌, ◌≤◌, length, Some, vec_len}
use Rattle.std.specs.List.{slice_get, AllZip}
use Rattle.grove_tree.specs.Trees.{Rows}
use Rattle.grove_build.specs.declared.planning.Planned.{Planned}
use Rattle.grove_build.specs.Batches.{IsPlanned}
use Rattle.grove_build.specs.KeptPlans.{AreSettledFor}
use Rattle.grove_build.specs.Keeping.{AreKeptFrom, StayKept}
use Rattle.grove_build.proofs.kept_plans.KeptPlans.keep_each.Given as goal

abbrev pub invariant-loop-last : goal.invariant-loop-last
invariant-loop-last l = record {
  within : length l.planned.items ≤ length l.parts;
  room : length l.self + length l.planned.items ≤ 1024;
  first : (k : ℕ) (planned : Planned) → slice_get l.planned.items k ≡ Some planned → slice_get l.initial.planned.items k ≡ Some planned;
  kept : AreKeptFrom l.self l.parts (length l.planned.items);
  stay : StayKept l.initial.self l.self;
  settled : (rows : Rows) → AllZip (λ part planned. IsPlanned rows part.now planned) l.parts l.initial.planned.items → AreSettledFor rows l.initial.self → AreSettledFor rows l.self;
}

abbrev pub decreases-loop-last : goal.decreases-loop-last
decreases-loop-last l = vec_len l.planned

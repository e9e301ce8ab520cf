use Rattle.std.proofs.Common.{◌≡◌, suc, ◌*◌, ◌≤◌, map}
use Rattle.std.specs.List.{slice_range}
use Rattle.grove_base.specs.Numbers.{numbers_below}
use Rattle.grove_core.specs.DoneAlone.{start_of}
use Rattle.grove_core.proofs.alone.DoneAlone.replies_of.Given as goal

abbrev pub invariant-loop-job : goal.invariant-loop-job
invariant-loop-job l = record {
  few : l.start ≤ 64 * l.job;
  at : l.start ≡ start_of l.jobs l.job;
  cut : map (λ list. list.now) l.lists.items
      ≡ map (λ t. slice_range l.self.replies.items (start_of l.jobs t) (start_of l.jobs (suc t))) (numbers_below l.job);
}

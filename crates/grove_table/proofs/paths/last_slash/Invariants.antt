use Rattle.std.proofs.Common.{◌≡◌, ◌<◌, pred, get_or}
use Rattle.grove_base.specs.Numbers.{last_below}
use Rattle.grove_table.specs.Refusals.{is_slash_at}
use Rattle.grove_table.proofs.paths.last_slash.Given as goal

abbrev pub invariant-loop-place : goal.invariant-loop-place
invariant-loop-place l = record {
  last : l.last ≡ pred (last_below l.place (is_slash_at l.path));
  within : 0 < l.last → l.last < l.place;
  slash : 0 < l.last → get_or l.path l.last 0 ≡ 47;
}

use Rattle.std.proofs.Common.{append_assoc}
use Rattle.grove_gauge.specs.Expositions.{all_text}
use Rattle.grove_gauge.proofs.exposition.Exposition.all.Goals as goal

pub returns : goal.returns
unfolding all_text
returns c =
    rw (
      c.in_ok-write-2.ensures.bytes,
      c.in_ok-push_sum.ensures,
      c.in_ok-write.ensures.bytes,
      c.self.view_is,
      c.name-name.ensures,
      c.total-total.ensures,
    ) (simp append_assoc)

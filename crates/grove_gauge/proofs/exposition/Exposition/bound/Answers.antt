use Rattle.std.proofs.Common.{append_assoc}
use Rattle.grove_gauge.specs.Expositions.{bound_text}
use Rattle.grove_gauge.proofs.exposition.Exposition.bound.Goals as goal

pub returns : goal.returns
unfolding bound_text
returns c =
    rw (
      c.in_ok-write.ensures.bytes,
      c.self.view_is,
      c.name-name.ensures,
      c.bound.ensures.shown,
      c.within-count.ensures,
    ) (simp append_assoc)

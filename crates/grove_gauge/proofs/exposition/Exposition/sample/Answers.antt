use Rattle.std.proofs.Common.{append_assoc}
use Rattle.grove_gauge.specs.Expositions.{sample_text}
use Rattle.grove_gauge.proofs.exposition.Exposition.sample.Goals as goal

pub returns : goal.returns
unfolding sample_text
returns c = rw (c.in_ok-write.ensures.bytes, c.self.view_is, c.name-name.ensures) (simp append_assoc)

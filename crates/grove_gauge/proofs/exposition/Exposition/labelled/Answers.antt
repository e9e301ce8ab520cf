use Rattle.std.proofs.Common.{append_assoc}
use Rattle.grove_gauge.specs.Expositions.{labelled_text}
use Rattle.grove_gauge.proofs.exposition.Exposition.labelled.Goals as goal

pub returns : goal.returns
unfolding labelled_text
returns c = rw (c.in_ok-write.ensures.bytes, c.self.view_is, c.name-name.ensures) (simp append_assoc)

use Rattle.std.proofs.Common.{append_assoc}
use Rattle.grove_gauge.specs.Expositions.{head_text}
use Rattle.grove_gauge.proofs.exposition.Exposition.begin.Goals as goal

pub returns : goal.returns
unfolding head_text
returns c =
    rw (
      c.in_ok-write.ensures.bytes,
      c.self.view_is,
      c.name-name.ensures,
      c.kind-kind.ensures,
      c.help-help.ensures,
    ) (simp append_assoc)

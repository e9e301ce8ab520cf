use Rattle.std.proofs.Common.{append_assoc}
use Rattle.grove_wire.proofs.fault_texts.said_text.Goals as goal

pub returns : goal.returns
returns c = simp append_assoc c.in_ok-format.ensures.ok

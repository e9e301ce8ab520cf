-- For the proofs alone: which job has a node, or had it last.
use Rattle.std.specs.Prelude.{ℕ, Option, Some, None}
use Rattle.grove_core.specs.declared.owner.Owner.{Owner}
use Rattle.grove_core.specs.declared.owner.Owner.TheVariants.{Nobody, Holder, Last}

abbrev pub holder_of : Owner → Option ℕ
holder_of (Holder t) = Some t
holder_of _ = None

abbrev pub last_holder_of : Owner → Option ℕ
last_holder_of Nobody = None
last_holder_of (Holder t) = Some t
last_holder_of (Last t) = Some t

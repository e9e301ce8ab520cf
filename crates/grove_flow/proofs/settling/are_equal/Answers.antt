use Rattle.std.proofs.lemmas.Bool.Decides.{Decides-int_eq}
use Rattle.std.proofs.lemmas.Slice.Eq.{slice_eq-Decides}
use Rattle.grove_flow.proofs.settling.are_equal.Goals as goal

pub returns : goal.returns
returns c same = (slice_eq-Decides Decides-int_eq c.args.places.now c.args.others.now _ c.eq.ensures).0 same

use Rattle.std.proofs.Common.{arith}
use Rattle.grove_draw.proofs.BarsBelow.{bars_locked}
use Rattle.grove_draw.proofs.picture.legal_picture.Goals as goal

pub returns : goal.returns
returns c = grind (arith, bars_locked)

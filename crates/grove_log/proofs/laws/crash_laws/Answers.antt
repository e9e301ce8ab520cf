use Rattle.grove_log.proofs.Fronts.{torn_front}
use Rattle.grove_log.proofs.laws.crash_laws.Goals as goal

pub returns : goal.returns
returns c = record { front = torn_front }

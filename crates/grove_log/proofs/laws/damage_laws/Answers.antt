use Rattle.grove_log.proofs.Fronts.{damaged_payload, damaged_digest, damaged_size}
use Rattle.grove_log.proofs.laws.damage_laws.Goals as goal

pub returns-clause-payload : goal.returns-clause-payload
returns-clause-payload c = damaged_payload

pub returns-clause-digest : goal.returns-clause-digest
returns-clause-digest c = damaged_digest

pub returns-clause-size : goal.returns-clause-size
returns-clause-size c = damaged_size

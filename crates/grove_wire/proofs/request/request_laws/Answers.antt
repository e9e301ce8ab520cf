use Rattle.grove_wire.proofs.Requests.{requests_fit, reading_needs_no_room}
use Rattle.grove_wire.proofs.SameNames.{reading_goes_by_names}
use Rattle.grove_wire.proofs.request.request_laws.Goals as goal

pub returns-clause-fits : goal.returns-clause-fits
returns-clause-fits c = requests_fit

pub returns-clause-room : goal.returns-clause-room
returns-clause-room c = reading_needs_no_room

pub returns-clause-names : goal.returns-clause-names
returns-clause-names c = reading_goes_by_names

use Rattle.std.proofs.Common.{arith}
use Rattle.grove_span.proofs.VisitSlots.{first_told, last_told}
use Rattle.grove_span.proofs.rows.row_of.Goals as goal

pub returns-clause-accesses : goal.returns-clause-accesses
returns-clause-accesses c = grind (arith, first_told, last_told)

use Rattle.std.proofs.Common.{arith}
use Rattle.grove_access.proofs.Lists.{below_none, beyond_refused, none_bad, bad_refused}
use Rattle.grove_access.proofs.list.fault_of.Goals as goal

pub returns-in-Some-clause-refused : goal.returns-in-Some-clause-refused
returns-in-Some-clause-refused c = grind (arith, beyond_refused)

pub returns-in_err-access-clause-listed : goal.returns-in_err-access-clause-listed
returns-in_err-access-clause-listed c = grind (arith, below_none, none_bad)

pub returns-clause-refused : goal.returns-clause-refused
returns-clause-refused c = grind (arith, bad_refused)

use Rattle.grove_line.proofs.CheckReading.{nothing_read}
use Rattle.grove_line.proofs.check.CheckFromMembers.new.Goals as goal

pub returns : goal.returns
returns c tree = rw (c.whole.ensures, c.whole-2.ensures, c.whole-3.ensures) (nothing_read tree)

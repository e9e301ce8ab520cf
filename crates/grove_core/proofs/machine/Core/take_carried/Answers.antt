use Rattle.grove_core.proofs.CarriedEntries.{is_of_all, is_of_settled, taken_all, records_taken}
use Rattle.grove_core.proofs.machine.Core.take_carried.Goals as goal

pub returns-then-is_out-clause-taken : goal.returns-then-is_out-clause-taken
returns-then-is_out-clause-taken c = (
  λ taken. is_of_all c.args.self.now c.args.carry.now (c.take_entries.ensures.job taken) (c.is_out.ensures.knows c.if-is_out.true) (c.is_out.ensures.has c.if-is_out.true) (c.take_entries.ensures.follows taken),
  c.take_entries.ensures.fits,
)

pub returns-then-is_out-clause-records : goal.returns-then-is_out-clause-records
returns-then-is_out-clause-records c = λ taken.
    records_taken c.args.self.now c.take_entries.new.self c.args.carry.now
    (is_of_all c.args.self.now c.args.carry.now (c.take_entries.ensures.job taken) (c.is_out.ensures.knows c.if-is_out.true) (c.is_out.ensures.has c.if-is_out.true) (c.take_entries.ensures.follows taken))
    c.is_out.ensures.sound (c.take_entries.ensures.added taken)

pub returns-then-is_out-clause-replies : goal.returns-then-is_out-clause-replies
returns-then-is_out-clause-replies c = λ taken.
    (taken_all c.args.self.now c.take_entries.new.self c.args.carry.now
    (is_of_all c.args.self.now c.args.carry.now (c.take_entries.ensures.job taken) (c.is_out.ensures.knows c.if-is_out.true) (c.is_out.ensures.has c.if-is_out.true) (c.take_entries.ensures.follows taken))
    c.is_out.ensures.sound (c.take_entries.ensures.added taken)).replies

pub returns-then-is_out-clause-settled : goal.returns-then-is_out-clause-settled
returns-then-is_out-clause-settled c = λ taken.
    is_of_settled c.args.self.now c.take_entries.new.self c.args.carry.now
    (is_of_all c.args.self.now c.args.carry.now (c.take_entries.ensures.job taken) (c.is_out.ensures.knows c.if-is_out.true) (c.is_out.ensures.has c.if-is_out.true) (c.take_entries.ensures.follows taken))
    c.is_out.ensures.sound (c.take_entries.ensures.added taken)

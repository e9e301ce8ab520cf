use Rattle.grove_log.proofs.Kept.{elapses_to}
use Rattle.grove_log.proofs.memory.MemoryFileFolder.rename_next.Goals as goal

pub returns-in_ok-replace-in-Some-clause-time : goal.returns-in_ok-replace-in-Some-clause-time
returns-in_ok-replace-in-Some-clause-time c =
    let past = c.in_ok-replace-in-Some.ensures.past in
    elapses_to c.args.self.now.past.items c.replace.new.past.items past.0 c.args.self.now.bytes.items
    c.replace.new.bytes.items past.1 past.2

-- What keeps rounds may go to another thread.
use denote.Param.Send.{IsSend, owning_send, sendable}
use Rattle.grove_disk.specs.contracts.record.Record as Record

-- a list of calls that only clauses read
pub Record-send : IsSend Record.the_row
Record-send = owning_send Record.the_type (search sendable, tt) (λ d. tt) (λ k x w. tt)

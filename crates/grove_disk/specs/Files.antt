-- What a log's file was asked.
use Rattle.std.specs.Prelude.{List}
use Rattle.grove_disk.specs.Told.{Event}
use Rattle.grove_disk.specs.declared.log_file.LogFile.{LogFile}

-- the newest first, since it was opened
abbrev pub events_of : {R S : Type 0} → LogFile R S → List Event
events_of file = file.asked.events

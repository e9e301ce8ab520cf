-- Since when something has been waited for.
use Rattle.std.specs.Prelude.{unwrap_or}
use Rattle.std.specs.declared.time.Instant.{Instant}
use Rattle.grove_gauge.specs.declared.time_limit.TimeLimit.{TimeLimit}

-- the time that is kept, or else now
abbrev pub since : TimeLimit → Instant → Instant
since limit now = unwrap_or limit.since now

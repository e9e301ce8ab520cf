-- What a minute brought.
use Rattle.std.specs.Prelude.{◌≡◌, ◌-◌, ◌⊎◌, Option, MatchOption}
use Rattle.grove_gauge.specs.Shares.{no_values, share_of, IsChange, IsTimeWithin}
use Rattle.grove_gauge.specs.declared.buckets.Buckets.{Buckets}
use Rattle.grove_gauge.specs.declared.minute.Minute.{Minute}
use Rattle.grove_gauge.specs.declared.minute.RoundTimes.{RoundTimes}
use Rattle.grove_gauge.specs.declared.minute.Tally.{Tally}
use Rattle.grove_gauge.specs.declared.scale.Scale.TheVariants.{Times}

-- what is counted at the beginning
abbrev pub nothing : Tally
nothing = record { lines = 0; refused = 0; rounds = 0; times = no_values Times }

-- a time that half of the values are within, and one for 99 of 100, unless there are no values
abbrev pub AreTimes : Buckets → Option RoundTimes → Type 0
AreTimes b times = MatchOption times ((share_of b 50 ≡ 0) ⊎ (share_of b 99 ≡ 0))
    (λ t. IsTimeWithin b 50 t.median.micros × IsTimeWithin b 99 t.slowest.micros)

-- each count, without what was counted before the minute
pub record IsMinute (before now : Tally) (minute : Minute) : Type 0 where
  pub lines : minute.lines ≡ now.lines - before.lines
  pub refused : minute.refused ≡ now.refused - before.refused
  pub rounds : minute.rounds ≡ now.rounds - before.rounds
  pub times : (change : Buckets) × IsChange before.times now.times change × AreTimes change minute.times

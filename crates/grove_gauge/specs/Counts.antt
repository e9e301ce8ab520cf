-- The text of what is counted.
use Rattle.std.specs.Prelude.{ℕ, List, [], ◌++◌, flat_map, codes, string_bytes, Option, None, Some}
use Rattle.grove_gauge.specs.Expositions.{head_text, histogram_text, labelled_text, maybe_text, single_text}
use Rattle.grove_gauge.specs.declared.counts.Counts.{Counts}
use Rattle.grove_gauge.specs.declared.counts.KeptCounts.{KeptCounts}
use Rattle.grove_gauge.specs.declared.counts.PortCounts.{PortCounts}
use Rattle.grove_gauge.specs.declared.counts.RefusalCount.{RefusalCount}
use Rattle.grove_gauge.specs.declared.families.Family.{Family}
use Rattle.grove_gauge.specs.declared.families.Family.TheVariants.{Started, Memory, Lines, Refused, Rounds, Lists}
use Rattle.grove_gauge.specs.declared.families.Family.TheVariants.{PlansFound, PlansMade, LinesOfRounds, TimesOfRounds}
use Rattle.grove_gauge.specs.declared.families.Family.TheVariants.{InUse, Slots, Accepted, FailedAccepts, TurnedAway}
use Rattle.grove_gauge.specs.declared.families.Family.TheVariants.{Idled, Received, Sent, KeptRounds, KeptBytes, Syncs}

-- the lines that were refused, by the name of the error
abbrev pub refusal_text : RefusalCount → List ℕ
refusal_text r = labelled_text Refused (codes "error") (string_bytes r.name) r.lines

abbrev pub refusals_text : List RefusalCount → List ℕ
refusals_text refusals = head_text Refused ++ flat_map refusal_text refusals

-- a family with a number for each protocol
abbrev pub by_protocol_text : Family → ℕ → ℕ → List ℕ
by_protocol_text f tcp http = head_text f
    ++ labelled_text f (codes "protocol") (codes "tcp") tcp ++ labelled_text f (codes "protocol") (codes "http") http

abbrev pub ports_text : PortCounts → PortCounts → List ℕ
ports_text tcp http =
    by_protocol_text InUse tcp.in_use http.in_use
    ++ by_protocol_text Slots tcp.slots http.slots
    ++ by_protocol_text Accepted tcp.accepted http.accepted
    ++ by_protocol_text FailedAccepts tcp.failed_accepts http.failed_accepts
    ++ by_protocol_text TurnedAway tcp.turned_away http.turned_away
    ++ by_protocol_text Idled tcp.idled http.idled
    ++ by_protocol_text Received tcp.bytes_received http.bytes_received
    ++ by_protocol_text Sent tcp.bytes_sent http.bytes_sent

abbrev pub lines_text : Counts → List ℕ
lines_text c =
    maybe_text Started c.started ++ maybe_text Memory c.memory ++ single_text Lines c.lines
    ++ refusals_text c.refusals.now

abbrev pub rounds_text : Counts → List ℕ
rounds_text c =
    single_text Rounds c.rounds ++ single_text Lists c.lists
    ++ single_text PlansFound c.plans_found ++ single_text PlansMade c.plans_made
    ++ histogram_text LinesOfRounds c.lines_of_rounds ++ histogram_text TimesOfRounds c.times_of_rounds

-- the file that rounds are kept in, if they are
abbrev pub kept_text : Option KeptCounts → List ℕ
kept_text None = []
kept_text (Some k) = single_text KeptRounds k.rounds ++ single_text KeptBytes k.bytes ++ histogram_text Syncs k.syncs

-- the text of all that is counted
abbrev pub counts_text : Counts → List ℕ
counts_text c = lines_text c ++ rounds_text c ++ kept_text c.kept ++ ports_text c.tcp c.http

-- The families of samples, each with its name, its kind and its help.
use Rattle.std.specs.Prelude.{ℕ, List, codes}
use Rattle.grove_gauge.specs.declared.families.Family.{Family}
use Rattle.grove_gauge.specs.declared.families.Family.TheVariants.{Started, Memory, Lines, Refused, Rounds, Lists}
use Rattle.grove_gauge.specs.declared.families.Family.TheVariants.{PlansFound, PlansMade, LinesOfRounds, TimesOfRounds}
use Rattle.grove_gauge.specs.declared.families.Family.TheVariants.{InUse, Slots, Accepted, FailedAccepts, TurnedAway}
use Rattle.grove_gauge.specs.declared.families.Family.TheVariants.{Idled, Received, Sent, NodeWaits, NodeWeight}
use Rattle.grove_gauge.specs.declared.families.Family.TheVariants.{KeptRounds, KeptBytes, Syncs}

pub record Row : Type 0 where
  pub name : List ℕ
  pub kind : List ℕ
  pub help : List ℕ

abbrev row : List ℕ → List ℕ → List ℕ → Row
row name kind help = record { name = name; kind = kind; help = help }

-- a counter only grows, and a gauge grows and falls
abbrev pub row_of : Family → Row
row_of Started = row (codes "process_start_time_seconds") (codes "gauge")
    (codes "When the server was started, in seconds since 1970.")
row_of Memory =
    row (codes "process_resident_memory_bytes") (codes "gauge") (codes "How much memory the server has, in bytes.")
row_of Lines = row (codes "grove_lines_total") (codes "counter") (codes "Lines that were answered.")
row_of Refused = row (codes "grove_refused_lines_total") (codes "counter")
    (codes "Lines that were refused, by the name of the error.")
row_of Rounds = row (codes "grove_rounds_total") (codes "counter") (codes "Rounds of batches that were run.")
row_of Lists = row (codes "grove_lists_total") (codes "counter") (codes "Lists of the batches of rounds.")
row_of PlansFound =
    row (codes "grove_kept_plans_hits_total") (codes "counter") (codes "Lists whose plan was kept already.")
row_of PlansMade = row (codes "grove_kept_plans_misses_total") (codes "counter")
    (codes "Lists that were planned, since no plan was kept for them.")
row_of LinesOfRounds =
    row (codes "grove_round_lines") (codes "histogram") (codes "Lines that were answered together at the store.")
row_of TimesOfRounds = row (codes "grove_round_duration_seconds") (codes "histogram")
    (codes "How long the store took to answer lines together.")
row_of KeptRounds =
    row (codes "grove_data_rounds") (codes "gauge") (codes "Rounds of the store that the file of --data has.")
row_of KeptBytes = row (codes "grove_data_bytes") (codes "gauge") (codes "How many bytes the file of --data has.")
row_of Syncs = row (codes "grove_data_sync_duration_seconds") (codes "histogram")
    (codes "How long it took until what changed was on the disk.")
row_of InUse = row (codes "grove_connections") (codes "gauge") (codes "Connections that have a slot, by protocol.")
row_of Slots = row (codes "grove_connection_slots") (codes "gauge")
    (codes "Connections that may have a slot at once, by protocol.")
row_of Accepted = row (codes "grove_accepted_connections_total") (codes "counter")
    (codes "Connections that were accepted, by protocol.")
row_of FailedAccepts = row (codes "grove_failed_accepts_total") (codes "counter")
    (codes "Tries to accept a connection that failed, by protocol.")
row_of TurnedAway = row (codes "grove_turned_away_connections_total") (codes "counter")
    (codes "Connections that were closed since there was no slot, by protocol.")
row_of Idled = row (codes "grove_idled_connections_total") (codes "counter")
    (codes "Connections that were ended since they idled, by protocol.")
row_of Received = row (codes "grove_received_bytes_total") (codes "counter")
    (codes "Bytes that were read from connections, by protocol.")
row_of Sent = row (codes "grove_sent_bytes_total") (codes "counter")
    (codes "Bytes that were written to connections, by protocol.")
row_of NodeWaits = row (codes "grove_node_waits") (codes "gauge")
    (codes "How often a lock of the node found it held since the weights changed last.")
row_of NodeWeight = row (codes "grove_node_weight") (codes "gauge") (codes "The weight of the node.")

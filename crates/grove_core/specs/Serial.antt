-- Whole lists done one after the other, and the accesses of several jobs in the order in which they were done.
use Rattle.std.specs.Prelude.{ℕ, ℤ, ◌==◌, List, [], ◌∷◌, if◌then◌else◌}
use Rattle.grove_access.specs.declared.access.Access.{Access}
use Rattle.grove_access.specs.declared.reply.Reply.{Reply}
use Rattle.grove_access.specs.Effects.{changed_by, reply_to, records_after, replies_to}

-- The serial run of the jobs' lists by an order: the records that it leaves, and the replies of a job.
abbrev pub serial_records : (ℕ → List Access) → List ℕ → List ℤ → List ℤ
serial_records lists [] records = records
serial_records lists (job ∷ order) records = serial_records lists order (records_after (lists job) records)

abbrev pub serial_replies : (ℕ → List Access) → List ℕ → List ℤ → ℕ → List Reply
serial_replies lists [] records which = []
serial_replies lists (job ∷ order) records which =
    if job == which then replies_to (lists job) records else serial_replies lists order
    (records_after (lists job) records) which

-- An access, and the job that does it.
pub record Deed : Type 0 where
  pub job : ℕ
  pub access : Access

-- The records that deeds leave, and the replies of a job's own among them.
abbrev pub deeds_records : List Deed → List ℤ → List ℤ
deeds_records [] records = records
deeds_records (deed ∷ deeds) records = deeds_records deeds (changed_by deed.access records)

abbrev pub deeds_replies : List Deed → List ℤ → ℕ → List Reply
deeds_replies [] records which = []
deeds_replies (deed ∷ deeds) records which =
    if deed.job == which then reply_to deed.access records ∷ deeds_replies deeds (changed_by deed.access records) which
    else deeds_replies deeds (changed_by deed.access records) which

-- What accesses do to records, and lists done one after the other.
use Rattle.std.specs.Prelude.{ℕ, ◌^◌, ℤ, pos, neg_ℤ, ◌+ℤ◌, ◌-ℤ◌, int_le, int_lt, Bool, ◌&&◌, List, [], ◌∷◌, slice_set}
use Rattle.std.specs.Prelude.{slice_index_or, if◌then◌else◌}
use Rattle.grove_access.specs.declared.access.Op.{Op}
use Rattle.grove_access.specs.declared.access.Op.TheVariants.{Get, Set, Add, Take}
use Rattle.grove_access.specs.declared.access.Access.{Access}
use Rattle.grove_access.specs.declared.reply.Reply.{Reply}
use Rattle.grove_access.specs.declared.reply.Reply.TheVariants.{Value, Done, Range, Short}

-- the number fits an i64
abbrev pub fits : ℤ → Bool
fits x = int_le (neg_ℤ (pos (2 ^ 63))) x && int_lt x (pos (2 ^ 63))

-- what an operation leaves in a record
abbrev pub stored : Op → ℤ → ℤ
stored Get old = old
stored (Set x) old = x
stored (Add x) old = if fits (old +ℤ x) then old +ℤ x else old
stored (Take x) old = if int_lt old x then old else if fits (old -ℤ x) then old -ℤ x else old

-- what an operation replies
abbrev pub answer : Op → ℤ → Reply
answer Get old = Value old
answer (Set x) old = Done
answer (Add x) old = if fits (old +ℤ x) then Value (old +ℤ x) else Range
answer (Take x) old = if int_lt old x then Short else if fits (old -ℤ x) then Value (old -ℤ x) else Range

-- the record of a node
abbrev pub record_at : List ℤ → ℕ → ℤ
record_at records node = slice_index_or records node (pos 0)

-- the records after one access, and its reply
abbrev pub changed_by : Access → List ℤ → List ℤ
changed_by access records = slice_set records access.node (stored access.op (record_at records access.node))

abbrev pub reply_to : Access → List ℤ → Reply
reply_to access records = answer access.op (record_at records access.node)

-- one list, done alone
abbrev pub records_after : List Access → List ℤ → List ℤ
records_after [] records = records
records_after (access ∷ accesses) records = records_after accesses (changed_by access records)

abbrev pub replies_to : List Access → List ℤ → List Reply
replies_to [] records = []
replies_to (access ∷ accesses) records = reply_to access records ∷ replies_to accesses (changed_by access records)

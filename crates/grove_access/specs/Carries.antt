-- For the proofs alone: the records that a transaction has out, and what it has done to them.
use Rattle.std.specs.Prelude.{◌≡◌, ℕ, ◌<◌, ◌==◌, ℤ, List, [], ◌∷◌, ◌++◌, length, take, slice_get, Option, Some, None}
use Rattle.std.specs.Prelude.{if◌then◌else◌}
use Rattle.grove_access.specs.declared.access.Access.{Access}
use Rattle.grove_access.specs.declared.reply.Reply.{Reply}
use Rattle.grove_access.specs.declared.known.Known.{Known}
use Rattle.grove_access.specs.declared.entry.Entry.{Entry}
use Rattle.grove_access.specs.Effects.{stored, answer}

-- what a transaction has out: its nodes with the value last known of each, and the accesses done since then
pub record Carried : Type 0 where
  pub txn : ℕ
  pub most_nodes : ℕ
  pub most_entries : ℕ
  pub known : List Known
  pub entries : List Entry

-- the known value of a node, where it is out
abbrev pub known_at : List Known → ℕ → Option ℤ
known_at [] node = None
known_at (k ∷ known) node = if k.node == node then Some k.value else known_at known node

-- what accesses leave in the record of a node
abbrev pub value_after : List Entry → ℕ → ℤ → ℤ
value_after [] node value = value
value_after (e ∷ entries) node value =
    value_after entries node (if e.access.node == node then stored e.access.op value else value)

-- the present value of a node, where it is out
abbrev pub present_from : List Entry → ℕ → Option ℤ → Option ℤ
present_from entries node None = None
present_from entries node (Some value) = Some (value_after entries node value)

abbrev pub present_at : Carried → ℕ → Option ℤ
present_at carry node = present_from carry.entries node (known_at carry.known node)

-- the nodes without one of them
abbrev pub without : List Known → ℕ → List Known
without [] node = []
without (k ∷ known) node = if k.node == node then known else k ∷ without known node

-- each node with its present value
abbrev pub settled : List Entry → List Known → List Known
settled entries [] = []
settled entries (k ∷ known) = record { node = k.node; value = value_after entries k.node k.value }
    ∷ settled entries known

-- a carry whose present values are made the known ones
abbrev pub carry_settled : Carried → Carried
carry_settled carry = record carry { known = settled carry.entries carry.known; entries = [] }

-- no node is out twice
abbrev pub AreApart : List Known → Type 0
AreApart [] = Unit {0}
AreApart (k ∷ known) = (known_at known k.node ≡ None) × AreApart known

-- each entry is of a node that is out, with the reply that its access has then
pub record IsSound (known : List Known) (entries : List Entry) : Type 0 where
  pub apart : AreApart known
  pub replied : (i : ℕ) (e : Entry) → slice_get entries i ≡ Some e
      → (value : ℤ) × (known_at known e.access.node ≡ Some value)
      × (e.reply ≡ answer e.access.op (value_after (take i entries) e.access.node value))

-- the access of this number may be done: it is one of the list, its node is out, and there is room for an entry
pub record CanApply (list : List Access) (number : ℕ) (carry : Carried) : Type 0 where
  pub access : Access
  pub value : ℤ
  pub listed : slice_get list number ≡ Some access
  pub out : present_at carry access.node ≡ Some value
  pub room : length carry.entries < carry.most_entries

-- the access of this number was done, with this reply
pub record IsApplied (list : List Access) (number : ℕ) (reply : Reply) (old new : Carried) : Type 0 where
  pub access : Access
  pub value : ℤ
  pub listed : slice_get list number ≡ Some access
  pub out : present_at old access.node ≡ Some value
  pub answered : reply ≡ answer access.op value
  pub added : new ≡ record old {
    entries = old.entries ++ record { number = number; access = access; reply = reply }
        ∷ [];
  }

-- The forms of rows, accesses and flow rows, as JSON values.
use Rattle.std.specs.Prelude.{ℕ, ◌^◌, ◌==◌, nat_lt, Bool, false, codes, bytes_eq, ℤ, pos, List, [], ◌∷◌, Option, Some}
use Rattle.std.specs.Prelude.{None, is_some, is_none, option_map, option_and_then, unwrap_or, if◌then◌else◌}
use Rattle.serde_json.specs.Data.{Data, Items, no_items, item}
use Rattle.serde_json.specs.Find.{get, as_null, as_number, as_str, as_array, as_i64, as_u64}
use Rattle.grove_tree.specs.Trees.{NodeRow}
use Rattle.grove_access.specs.declared.access.Op.{Op}
use Rattle.grove_access.specs.declared.reply.Reply.{Reply}
use Rattle.grove_access.specs.declared.reply.Reply.TheVariants.{Value, Done, Range, Short}
use Rattle.grove_proof.specs.declared.flow.FlowRow.{FlowRow}
use Rattle.grove_core.specs.declared.event.Event.{Event}
use Rattle.grove_core.specs.declared.event.Event.TheVariants as event
use Rattle.grove_wire.specs.declared.versions.Version.{Version}
use Rattle.grove_wire.specs.declared.versions.Version.TheVariants.{First, Second}
use Rattle.grove_access.specs.declared.access.Op.TheVariants.{Get, Set, Add, Take}

-- one reading after another, where each finds something
infixl 10 ◌>>=◌
abbrev pub ◌>>=◌ : {A B : Type 0} → Option A → (A → Option B) → Option B
x >>= next = option_and_then next x

abbrev pub list_items : Items → List Data
list_items no_items = []
list_items (item d ds) = d ∷ list_items ds

-- the items of an array
abbrev pub as_list : Data → Option (List Data)
as_list d = option_map list_items (as_array d)

-- the items of a member that is an array
unfoldable pub items_of : List ℕ → Data → Option (List Data)
items_of name d = get name d >>= as_list

-- a signed number of 64 bits
abbrev pub as_signed : Data → Option ℤ
as_signed d = as_number d >>= as_i64

-- an unsigned number of 32 bits
unfoldable pub as_short : Data → Option ℕ
as_short d = as_number d >>= as_u64 >>= λ n. if nat_lt n (2 ^ 32) then Some n else None

-- a text is just this word
abbrev pub is_word : List ℕ → Data → Bool
is_word word d = unwrap_or (option_map (λ text. bytes_eq text word) (as_str d)) false

-- ---- rows

-- a parent is null or a number
abbrev pub as_parent : Data → Option (Option ℕ)
as_parent d = if is_some (as_null d) then Some None else option_map Some (as_short d)

-- a record that is absent is 0
abbrev pub as_record : Option Data → Option ℤ
as_record None = Some (pos 0)
as_record (Some d) = as_signed d

-- a row of a tree, and the record of its node
unfoldable pub row_form : Data → Option (NodeRow × ℤ)
row_form d = do
  parent ← get (codes "parent") d >>= as_parent
  name ← get (codes "name") d >>= as_str
  weight ← get (codes "weight") d >>= as_short
  value ← as_record (get (codes "value") d)
  Some (record { parent = parent; name = name; weight = weight }, value)

-- ---- versions

-- 1 where nothing is told; the first has no lengths, the second may have
abbrev pub version_of : Option Data → Option Version
version_of None = Some First
version_of (Some d) = as_number d >>= as_u64 >>= λ n.
    if n == 1 then Some First else if n == 2 then Some Second else None

-- ---- accesses: a path, an operation and, where one is told, a length

abbrev pub AccessForm : Type 0
AccessForm = List ℕ × Op × Option ℕ

-- an operation with a number
abbrev pub numbered_op : Data → Data → Option Op
numbered_op word value = as_signed value >>= λ n.
    if is_word (codes "set") word then Some (Set n)
    else if is_word (codes "add") word then Some (Add n)
    else if is_word (codes "take") word then Some (Take n)
    else None

abbrev pub form_with : Data → Option Op → Option ℕ → Option AccessForm
form_with path op length = as_str path >>= λ text. option_map (λ found. (text, found, length)) op

abbrev pub with_length : Data → Option Op → Data → Option AccessForm
with_length path op length = as_number length >>= as_u64 >>= λ slots. form_with path op (Some slots)

abbrev pub form_of : List Data → Option AccessForm
form_of (word ∷ path ∷ []) = form_with path (if is_word (codes "get") word then Some Get else None) None
form_of (word ∷ path ∷ third ∷ []) =
    if is_word (codes "get") word then with_length path (Some Get) third
    else form_with path (numbered_op word third) None
form_of (word ∷ path ∷ value ∷ length ∷ []) = with_length path (numbered_op word value) length
form_of _ = None

-- no access tells a length in the first version
abbrev pub allowed : Version → AccessForm → Option AccessForm
allowed First form = if is_none form.2 then Some form else None
allowed Second form = Some form

unfoldable pub access_form : Version → Data → Option AccessForm
access_form version d = as_list d >>= form_of >>= allowed version

-- ---- flow rows

-- the amount of a name
unfoldable pub amount_of : List ℕ → Data → Option ℕ
amount_of name d = get name d >>= as_number >>= as_u64

-- a path, and a row with the amounts, whose node isn't known yet
unfoldable pub flow_form : Data → Option (List ℕ × FlowRow)
flow_form d = do
  path ← get (codes "node") d >>= as_str
  above ← amount_of (codes "above") d
  held ← amount_of (codes "held") d
  first ← amount_of (codes "first") d
  last ← amount_of (codes "last") d
  own ← amount_of (codes "own") d
  Some (path, record { node = 0; above = above; held = held; first = first; last = last; own = own })

-- ---- events: a word and the number of a job

abbrev pub event_of : List Data → Option Event
event_of (word ∷ which ∷ []) = as_short which >>= λ job.
    if is_word (codes "take") word then Some (event.Take job)
    else if is_word (codes "mark") word then Some (event.Mark job)
    else None
event_of _ = None

unfoldable pub event_form : Data → Option Event
event_form d = as_list d >>= event_of

-- ---- replies: a number, or a word

abbrev pub reply_form : Data → Option Reply
reply_form d =
    if is_word (codes "ok") d then Some Done
    else if is_word (codes "range") d then Some Range
    else if is_word (codes "short") d then Some Short
    else option_map Value (as_signed d)

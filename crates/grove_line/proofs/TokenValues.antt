-- The values that tokens begin with, a token, an item or a member at a time.
use Rattle.std.proofs.Common.{◌≡◌, ℕ, zero, suc, ◌+◌, ◌*◌, ◌-◌, ◌<◌, ◌≤◌, List, [], ◌∷◌, ◌++◌, length, Option, Some}
use Rattle.std.proofs.Common.{None, option_map, option_and_then, refl, ap, sym, ◌∙◌, arith, Bool}
use Rattle.std.proofs.lemmas.Option.{same_Some}
use Rattle.json.specs.Token.{Token}
use Rattle.json.specs.Reads.{token_of}
use Rattle.json.specs.declared.token.Token.{Token as Taken}
use Rattle.json.specs.declared.token.Token.TheVariants as taken
use Rattle.json.specs.Json as json
use Rattle.json.specs.Json.{parse_map, after_end_array, read_key}
use Rattle.json.proofs.Grammar.{left, items_more, items_fail, items_end, members_more, members_fail, members_no_key}
use Rattle.json.proofs.Grammar.{members_end, value_is, value-begin_array, value-begin_object, skip_value-shorter}
use Rattle.json.proofs.Grammar.{read_key-shorter}
use Rattle.serde_json.specs.Data.{Num, Data, null, boolean, number, string, array, object, Items, no_items, item}
use Rattle.serde_json.specs.Data.{Members, no_members, put}
use Rattle.serde_json.specs.Read.{number_of, of_json, of_items, of_members, converted}
use Rattle.serde_json.specs.Find.{as_array, as_object}
use Rattle.grove_wire.specs.FlatValues.{flat}
use Rattle.grove_wire.specs.declared.scalars.Scalar as scalar
use Rattle.grove_wire.specs.Forms.{list_items, as_list}
use Rattle.grove_line.specs.declared.values.Opened.{Opened}
use Rattle.grove_line.specs.declared.values.Opened.TheVariants.{Array, Object, Scalar}
use Rattle.grove_line.specs.TokenValues.{value_at, items_at, members_at, behind, AreItems, ItemsSoFar, AreMembers}
use Rattle.grove_line.specs.TokenValues.{Starts, Opens, IsOpenedBy}

-- ---- what is read and converted

pub converted_in : {A B : Type 0} (f : A → Option B) (o : Option (A × List Token)) (b : B) (r : List Token)
    → converted f o ≡ Some (b, r) → (a : A) × (o ≡ Some (a, r)) × (f a ≡ Some b)
converted_in f None b r is = absurd (cc)
converted_in {A} {B} f (Some q) b r is = by_value (f q.0) refl is
  where
    by_value : (v : Option B) → f q.0 ≡ v → option_map {U = B × List Token} (λ c. (c, q.1)) v ≡ Some (b, r)
        → (a : A) × (Some q ≡ Some (a, r)) × (f a ≡ Some b)
    by_value None at is = absurd (cc)
    by_value (Some c) at is =
        let same : (c, q.1) ≡ (b, r) = same_Some (c, q.1) (b, r) is in
        (q.0, ap (λ (p : B × List Token). Some (q.0, p.1)) same, at ∙ ap (λ (p : B × List Token). Some p.0) same)

pub no_value : {B : Type 0} (r : List Token) (x : Option B) → option_map {U = B × List Token} (λ y. (y, r)) x ≡ None
    → x ≡ None
no_value r None is = refl
no_value r (Some y) is = absurd (cc)

-- ---- a value by its first token

module _ (depth : ℕ) (r : List Token) where
  pub null_starts : value_at depth (Token.null ∷ r) ≡ Some (null, r)
  unfolding value_at
  null_starts = ap (converted of_json) (value_is depth (Token.null ∷ r))

  pub boolean_starts : (b : Bool) → value_at depth (Token.boolean b ∷ r) ≡ Some (boolean b, r)
  unfolding value_at
  boolean_starts b = ap (converted of_json) (value_is depth (Token.boolean b ∷ r))

  pub text_starts : (s : List ℕ) → value_at depth (Token.string s ∷ r) ≡ Some (string s, r)
  unfolding value_at
  text_starts s = ap (converted of_json) (value_is depth (Token.string s ∷ r))

  pub number_starts : (s : List ℕ) (n : Num) → number_of s ≡ Some n
      → value_at depth (Token.number s ∷ r) ≡ Some (number n, r)
  unfolding value_at
  number_starts s n is = ap (converted of_json) (value_is depth (Token.number s ∷ r)) ∙ rw is refl

  pub number_unread : (s : List ℕ) → number_of s ≡ None → value_at depth (Token.number s ∷ r) ≡ None
  unfolding value_at
  number_unread s none = ap (converted of_json) (value_is depth (Token.number s ∷ r)) ∙ rw none refl

-- what begins with no value
pub nothing_starts : (depth : ℕ) (ts : List Token) → json.value depth ts ≡ None → value_at depth ts ≡ None
unfolding value_at
nothing_starts depth ts none = ap (converted of_json) none

pub nothing_left : (depth : ℕ) (ts : List Token) → ts ≡ [] → value_at depth ts ≡ None
nothing_left depth ts none = nothing_starts depth ts (ap (json.value depth) none ∙ value_is depth [])

-- ---- arrays

array_of : (o : Option (json.Items × List Token))
    → converted of_json (parse_map json.array o) ≡ parse_map array (converted of_items o)
array_of None = refl
array_of (Some q) = by_items (of_items q.0)
  where
    by_items : (x : Option Items) → option_map {U = Data × List Token} (λ d. (d, q.1)) (option_map array x)
        ≡ parse_map array (option_map (λ ds. (ds, q.1)) x)
    by_items None = refl
    by_items (Some ds) = refl

pub array_starts : (inside depth : ℕ) (ts : List Token) → suc inside ≡ depth
    → value_at depth (Token.begin_array ∷ ts) ≡ parse_map array (items_at inside (length ts) ts)
unfolding value_at items_at
array_starts inside depth ts is =
    let same : depth - 1 ≡ inside = omega (arith, is) in
    ap (converted of_json) (value-begin_array depth ts (omega (arith, is))
    ∙ ap (λ d. parse_map json.array (json.items (json.value d) (length ts) ts)) same)
    ∙ array_of (json.items (json.value inside) (length ts) ts)

pub array_too_deep : (depth : ℕ) (ts : List Token) → depth ≡ 0 → value_at depth (Token.begin_array ∷ ts) ≡ None
unfolding value_at json.value
array_too_deep depth ts is = ap (λ d. converted of_json (json.value d (Token.begin_array ∷ ts))) is

items_lost : (j : json.Json) → of_json j ≡ None → (o : Option (json.Items × List Token))
    → converted of_items (parse_map (json.item j) o) ≡ None
items_lost j lost None = refl
items_lost j lost (Some q) = rw lost

items_on : (j : json.Json) (d : Data) → of_json j ≡ Some d → (o : Option (json.Items × List Token))
    → converted of_items (parse_map (json.item j) o) ≡ parse_map (item d) (converted of_items o)
items_on j d is None = refl
items_on j d is (Some q) = ap (λ x. option_map {U = Items × List Token} (λ ds. (ds, q.1))
    (option_and_then (λ d. option_map (item d) (of_items q.0)) x)) is ∙ by_items (of_items q.0)
  where
    by_items : (x : Option Items) → option_map {U = Items × List Token} (λ ds. (ds, q.1)) (option_map (item d) x)
        ≡ parse_map (item d) (option_map (λ ds. (ds, q.1)) x)
    by_items None = refl
    by_items (Some ds) = refl

module _ (depth turns : ℕ) (ts : List Token) where
  items_next : (d : Data) (r : List Token) → 0 < turns → after_end_array ts ≡ None → value_at depth ts ≡ Some (d, r)
      → items_at depth turns ts ≡ parse_map (item d) (items_at depth (turns - 1) r)
  unfolding items_at value_at
  items_next d r some going is =
      let read = converted_in of_json (json.value depth ts) d r is in
      ap (converted of_items) (items_more (json.value depth) turns ts r read.0 some going read.1)
      ∙ items_on read.0 d read.2 (json.items (json.value depth) (turns - 1) r)

items_refused : (depth turns : ℕ) (ts : List Token) → after_end_array ts ≡ None → value_at depth ts ≡ None
    → items_at depth turns ts ≡ None
unfolding items_at value_at json.items
items_refused depth zero ts going none = refl
items_refused depth (suc n) ts going none = by_value (json.value depth ts) refl none
  where
    by_value : (o : Option (json.Json × List Token)) → json.value depth ts ≡ o → converted of_json o ≡ None
        → converted of_items (json.items (json.value depth) (suc n) ts) ≡ None
    by_value None is none = ap (converted of_items) (items_fail (json.value depth) (suc n) ts going is)
    by_value (Some q) is none =
        ap (converted of_items) (items_more (json.value depth) (suc n) ts q.1 q.0 (omega arith) going is)
        ∙ items_lost q.0 (no_value q.1 (of_json q.0) none) _

pub value_shorter : (depth : ℕ) (ts r : List Token) (d : Data) → value_at depth ts ≡ Some (d, r)
    → length r < length ts
unfolding value_at
value_shorter depth ts r d is = skip_value-shorter depth ts r
    (ap left (converted_in of_json (json.value depth ts) d r is).1)

pub starts_shorter : {depth : ℕ} {ts rest : List Token} {P : Data → Type 0} → Starts depth ts rest P
    → length rest < length ts
starts_shorter {depth} {ts} {rest} first = value_shorter depth ts rest first.whole first.is

-- ---- the items of an array, some of which are read

mapped_twice : {A B C : Type 0} (f : B → C) (g : A → B) (o : Option (A × List Token))
    → parse_map f (parse_map g o) ≡ parse_map (λ a. f (g a)) o
mapped_twice f g None = refl
mapped_twice f g (Some q) = refl

behind_more : (front : List Data) (d : Data) (ds : Items) → behind front (item d ds) ≡ behind (front ++ d ∷ []) ds
behind_more [] d ds = refl
behind_more (e ∷ front) d ds = ap (item e) (behind_more front d ds)

mapped_more : (front : List Data) (d : Data) (o : Option (Items × List Token))
    → parse_map (λ ds. behind front (item d ds)) o ≡ parse_map (behind (front ++ d ∷ [])) o
mapped_more front d None = refl
mapped_more front d (Some q) = ap (λ ds. Some (ds, q.1)) (behind_more front d q.0)

itself : {A : Type 0} (o : Option (A × List Token)) → o ≡ parse_map (λ a. a) o
itself None = refl
itself (Some q) = refl

pub items_begin : (depth : ℕ) (start : List Token) → ItemsSoFar depth start start []
items_begin depth start = record {
  turns = length start;
  enough = omega arith;
  is = itself (items_at depth (length start) start);
}

-- what is no end of an array takes none
pub goes_on : (t : Taken) (rest : List Token) → (t ≡ taken.EndArray → ⊥) → after_end_array (token_of t ∷ rest) ≡ None
goes_on taken.BeginObject rest other = refl
goes_on taken.EndObject rest other = refl
goes_on taken.BeginArray rest other = refl
goes_on taken.EndArray rest other = absurd (other refl)
goes_on (taken.Key s) rest other = refl
goes_on (taken.String s) rest other = refl
goes_on (taken.Number s) rest other = refl
goes_on (taken.Bool b) rest other = refl
goes_on taken.Null rest other = refl
goes_on taken.Bad rest other = refl

module _ {depth : ℕ} {start ts : List Token} {front : List Data} (so_far : ItemsSoFar depth start ts front) where
  pub items_over : {r : List Token} → after_end_array ts ≡ Some r → AreItems depth start r front
  unfolding items_at
  items_over {r} ends = so_far.is ∙ ap (λ o. parse_map (behind front) (converted of_items o))
      (items_end (json.value depth) so_far.turns ts r so_far.enough ends)

  -- where no end is taken of these
  module _ {next : List Token} (going : (after_end_array ts ≡ None) × (next ≡ ts)) where
    pub items_turn : {r : List Token} {P : Data → Type 0} (read : Starts depth next r P)
        → ItemsSoFar depth start r (front ++ read.whole ∷ [])
    items_turn {r} read =
        let less : length r < length next = starts_shorter read in
        let same : length next ≡ length ts = ap length going.1 in
        record {
          turns = so_far.turns - 1;
          enough = omega (arith, so_far.enough);
          is = so_far.is
              ∙ ap (parse_map (behind front)) (items_next depth so_far.turns ts read.whole r
              (omega (arith, so_far.enough)) going.0 (ap (value_at depth) (sym going.1) ∙ read.is))
              ∙ mapped_twice (behind front) (item read.whole) _ ∙ mapped_more front read.whole _;
        }

    pub items_stop : value_at depth next ≡ None → items_at depth (length start) start ≡ None
    items_stop none = so_far.is ∙ ap (parse_map (behind front))
        (items_refused depth so_far.turns ts going.0 (ap (value_at depth) (sym going.1) ∙ none))

-- ---- objects

object_of : (o : Option (json.Members × List Token)) → converted of_json (parse_map json.object o)
    ≡ parse_map object (converted (λ ms. of_members ms no_members) o)
object_of None = refl
object_of (Some q) = by_members (of_members q.0 no_members)
  where
    by_members : (x : Option Members) → option_map {U = Data × List Token} (λ d. (d, q.1)) (option_map object x)
        ≡ parse_map object (option_map (λ ms. (ms, q.1)) x)
    by_members None = refl
    by_members (Some ms) = refl

pub object_starts : (inside depth : ℕ) (ts : List Token) → suc inside ≡ depth
    → value_at depth (Token.begin_object ∷ ts) ≡ parse_map object (members_at inside (length ts) no_members ts)
unfolding value_at members_at
object_starts inside depth ts is =
    let same : depth - 1 ≡ inside = omega (arith, is) in
    ap (converted of_json) (value-begin_object depth ts (omega (arith, is))
    ∙ ap (λ d. parse_map json.object (json.members (json.value d) (length ts) ts)) same)
    ∙ object_of (json.members (json.value inside) (length ts) ts)

pub object_too_deep : (depth : ℕ) (ts : List Token) → depth ≡ 0 → value_at depth (Token.begin_object ∷ ts) ≡ None
unfolding value_at json.value
object_too_deep depth ts is = ap (λ d. converted of_json (json.value d (Token.begin_object ∷ ts))) is

member_lost : (k : List ℕ) (j : json.Json) (found : Members) → of_json j ≡ None
    → (o : Option (json.Members × List Token))
    → converted (λ ms. of_members ms found) (parse_map (json.member k j) o) ≡ None
member_lost k j found lost None = refl
member_lost k j found lost (Some q) = rw lost

member_on : (k : List ℕ) (j : json.Json) (d : Data) (found : Members) → of_json j ≡ Some d
    → (o : Option (json.Members × List Token)) → converted (λ ms. of_members ms found) (parse_map (json.member k j) o)
    ≡ converted (λ ms. of_members ms (put k d found)) o
member_on k j d found is None = refl
member_on k j d found is (Some q) = rw is refl

module _ (depth turns : ℕ) (found : Members) (ts : List Token) where
  members_next : (k : List ℕ) (s r : List Token) (d : Data) → 0 < turns → read_key ts ≡ Some (Some k, s)
      → value_at depth s ≡ Some (d, r)
      → members_at depth turns found ts ≡ members_at depth (turns - 1) (put k d found) r
  unfolding members_at value_at
  members_next k s r d some key is =
      let read = converted_in of_json (json.value depth s) d r is in
      ap (converted (λ ms. of_members ms found)) (members_more (json.value depth) turns k ts s r read.0 some key read.1)
      ∙ member_on k read.0 d found read.2 (json.members (json.value depth) (turns - 1) r)

members_refused : (depth turns : ℕ) (found : Members) (ts s : List Token) (k : List ℕ)
    → read_key ts ≡ Some (Some k, s) → value_at depth s ≡ None → members_at depth turns found ts ≡ None
unfolding members_at value_at json.members
members_refused depth zero found ts s k key none = refl
members_refused depth (suc n) found ts s k key none = by_value (json.value depth s) refl none
  where
    by_value : (o : Option (json.Json × List Token)) → json.value depth s ≡ o → converted of_json o ≡ None
        → converted (λ ms. of_members ms found) (json.members (json.value depth) (suc n) ts) ≡ None
    by_value None is none =
        ap (converted (λ ms. of_members ms found)) (members_fail (json.value depth) (suc n) k ts s key is)
    by_value (Some q) is none =
        ap (converted (λ ms. of_members ms found))
        (members_more (json.value depth) (suc n) k ts s q.1 q.0 (omega arith) key is)
        ∙ member_lost k q.0 found (no_value q.1 (of_json q.0) none) _

-- behind a name and its value less is left
pub member_shorter : {depth : ℕ} (ts : List Token) {s rest : List Token} {k : List ℕ} {P : Data → Type 0}
    → read_key ts ≡ Some (Some k, s) → Starts depth s rest P → length rest < length ts
member_shorter ts {s} {rest} {k} key first =
    omega (arith, read_key-shorter ts (Some k) s key, starts_shorter first)

-- of the members of an object these are found, and then come these tokens
pub record MembersSoFar (depth : ℕ) (start ts : List Token) (found : Members) : Type 0 where
  pub turns : ℕ
  pub enough : length ts ≤ turns
  pub is : members_at depth (length start) no_members start ≡ members_at depth turns found ts

pub members_begin : (depth : ℕ) (start : List Token) → MembersSoFar depth start start no_members
members_begin depth start = record {
  turns = length start;
  enough = omega arith;
  is = refl;
}

module _ {depth : ℕ} {start ts : List Token} {found : Members} (so_far : MembersSoFar depth start ts found) where
  pub members_no_name : read_key ts ≡ None → members_at depth (length start) no_members start ≡ None
  unfolding members_at
  members_no_name none = so_far.is ∙ ap (converted (λ ms. of_members ms found))
      (members_no_key (json.value depth) so_far.turns ts none)

  pub members_over : {r : List Token} → read_key ts ≡ Some (None, r) → AreMembers depth start r found
  unfolding members_at
  members_over {r} ends = so_far.is ∙ ap (converted (λ ms. of_members ms found))
      (members_end (json.value depth) so_far.turns ts r so_far.enough ends)

  module _ (k : List ℕ) {s : List Token} (key : read_key ts ≡ Some (Some k, s)) where
    pub members_turn : {r : List Token} {P : Data → Type 0} (read : Starts depth s r P)
        → MembersSoFar depth start r (put k read.whole found)
    members_turn {r} read =
        let less : length s < length ts = read_key-shorter ts (Some k) s key in
        let lesser : length r < length s = starts_shorter read in
        record {
          turns = so_far.turns - 1;
          enough = omega (arith, so_far.enough);
          is = so_far.is
              ∙ members_next depth so_far.turns found ts k s r read.whole (omega (arith, so_far.enough)) key read.is;
        }

    pub members_stop : value_at depth s ≡ None → members_at depth (length start) no_members start ≡ None
    members_stop none = so_far.is ∙ members_refused depth so_far.turns found ts s k key none

-- ---- what was opened

pub starts_weaker : {depth : ℕ} {ts rest : List Token} {P Q : Data → Type 0} → ((d : Data) → P d → Q d)
    → Starts depth ts rest P → Starts depth ts rest Q
starts_weaker so first = record {
  whole = first.whole;
  is = first.is;
  holds = so first.whole first.holds;
}

module _ {inside depth : ℕ} {start ts : List Token} where
  module _ (opens : Opens (Array inside) depth start ts) where
    pub array_passed : {ds : Items} {r : List Token} → items_at inside (length ts) ts ≡ Some (ds, r)
        → value_at depth start ≡ Some (array ds, r)
    array_passed read =
        ap (value_at depth) opens.1 ∙ array_starts inside depth ts opens.0 ∙ ap (parse_map array) read

    pub array_unread : items_at inside (length ts) ts ≡ None → value_at depth start ≡ None
    array_unread none =
        ap (value_at depth) opens.1 ∙ array_starts inside depth ts opens.0 ∙ ap (parse_map array) none

  module _ (opens : Opens (Object inside) depth start ts) where
    pub object_passed : {ms : Members} {r : List Token} → AreMembers inside ts r ms
        → value_at depth start ≡ Some (object ms, r)
    object_passed read =
        ap (value_at depth) opens.1 ∙ object_starts inside depth ts opens.0 ∙ ap (parse_map object) read

    pub object_unread : members_at inside (length ts) no_members ts ≡ None → value_at depth start ≡ None
    object_unread none =
        ap (value_at depth) opens.1 ∙ object_starts inside depth ts opens.0 ∙ ap (parse_map object) none

listed : (ds : List Data) → list_items (behind ds no_items) ≡ ds
listed [] = refl
listed (d ∷ ds) = ap (λ xs. d ∷ xs) (listed ds)

module _ {inside depth : ℕ} {start ts rest : List Token} {Holds : Data → Type 0} where
  -- an array that has been opened and whose items are these
  pub array_of_items : Opens (Array inside) depth start ts → (ds : List Data) → AreItems inside ts rest ds
      → ((d : Data) → as_list d ≡ Some ds → Holds d) → Starts depth start rest Holds
  array_of_items opens ds are holds = record {
    whole = array (behind ds no_items);
    is = array_passed opens are;
    holds = holds (array (behind ds no_items)) (ap Some (listed ds));
  }

  -- and an object whose members are these
  pub object_of_members : Opens (Object inside) depth start ts → (ms : Members) → AreMembers inside ts rest ms
      → Holds (object ms) → Starts depth start rest Holds
  object_of_members opens ms are holds = record { whole = object ms; is = object_passed opens are; holds = holds }

-- what doesn't begin as an array, as a number or a text, or as an object, is none
pub not_array : (opened : Opened) → ((inside : ℕ) → opened ≡ Array inside → ⊥) → (d : Data) → IsOpenedBy opened d
    → as_array d ≡ None
not_array (Array inside) none d is = absurd (none inside refl)
not_array (Object inside) none d is = is.0
not_array (Scalar s) none d is = is.0

pub not_scalar : (opened : Opened) → ((s : scalar.Scalar) → opened ≡ Scalar s → ⊥) → (d : Data) → IsOpenedBy opened d
    → null ≡ flat d
not_scalar (Array inside) none d is = sym is.1
not_scalar (Object inside) none d is = sym is.1
not_scalar (Scalar s) none d is = absurd (none s refl)

pub not_object : (opened : Opened) → ((inside : ℕ) → opened ≡ Object inside → ⊥) → (d : Data) → IsOpenedBy opened d
    → as_object d ≡ None
not_object (Array inside) none d is = is.0
not_object (Object inside) none d is = absurd (none inside refl)
not_object (Scalar s) none d is = is.1

-- how much is left of what was opened, for what passes over it
abbrev pub size : Opened → ℕ
size (Array inside) = 3 * inside + 3
size (Object inside) = 3 * inside + 3
size (Scalar s) = 0

-- The nodes that are out, and what entries leave in them.
use Rattle.std.proofs.Common.{◌≡◌, ◌≢◌, ℕ, zero, suc, ◌+◌, ◌<◌, ◌≤◌, ℤ, cond, eqb, List, [], ◌∷◌, ◌++◌, length, take}
use Rattle.std.proofs.Common.{drop, set, get_or, slice_get, Option, Some, None, refl, ap, sym, ◌∙◌, inl, inr, arith}
use Rattle.std.proofs.Common.{add-one, append_assoc}
use Rattle.std.proofs.Math.Seq.{take-append_seam, get_or-append_seam, set-append_seam}
use Rattle.std.proofs.lemmas.Option.{slice_get_within, slice_get-get_or, get_or_from_slice_get, none-some, same_Some}
use Rattle.std.proofs.lemmas.Bool.{cond-true, cond-false, eq-eqb, ne_eqb, cases_eq}
use Rattle.grove_access.specs.declared.known.Known.{Known}
use Rattle.grove_access.specs.declared.entry.Entry.{Entry}
use Rattle.std.proofs.lemmas.List.{take-append-le, length-append, length-take-le}
use Rattle.grove_base.proofs.Lists.{get_append_cases, take_next}
use Rattle.grove_access.specs.Effects.{stored, answer}
use Rattle.grove_access.specs.Carries.{known_at, value_after, present_from, without, settled, AreApart, IsSound}
use Rattle.grove_access.specs.KnownPlaces.{StandsAt}
use Rattle.grove_access.proofs.Lists.{drop_next}

-- the node stands first
pub known_first : (known : List Known) (item : Known) (rest : List Known) (node : ℕ) → known ≡ item ∷ rest → item.node ≡ node → known_at known node ≡ Some item.value
known_first known item rest node e same = rw e (cond-true (eqb item.node node) (Some item.value) (known_at rest node) (eq-eqb item.node node same))

pub without_first : (known : List Known) (item : Known) (rest : List Known) (node : ℕ) → known ≡ item ∷ rest → item.node ≡ node → without known node ≡ rest
without_first known item rest node e same = rw e (cond-true (eqb item.node node) rest (item ∷ without rest node) (eq-eqb item.node node same))

-- another stands first
pub known_later : (known : List Known) (item : Known) (rest : List Known) (node : ℕ) → known ≡ item ∷ rest → item.node ≢ node → known_at known node ≡ known_at rest node
known_later known item rest node e other = rw e (cond-false (eqb item.node node) (Some item.value) (known_at rest node) (ne_eqb item.node node other))

pub without_later : (known : List Known) (item : Known) (rest : List Known) (node : ℕ) → known ≡ item ∷ rest → item.node ≢ node → without known node ≡ item ∷ without rest node
without_later known item rest node e other = rw e (cond-false (eqb item.node node) rest (item ∷ without rest node) (ne_eqb item.node node other))

-- a node that stands at the place is found there, since none stands twice
pub stands_there : (known : List Known) (node place : ℕ) (item : Known) → slice_get known place ≡ Some item → item.node ≡ node → AreApart known → StandsAt known node place
stands_there [] node place item at same apart = absurd (none-some item at)
stands_there (k ∷ known) node zero item at same apart = grind (arith, known_first, same_Some, without_first)
stands_there (k ∷ known) node (suc place) item at same apart =
    grind (arith, known_later, none-some, without_later, stands_there known node place item at same apart.1)

-- what stands at a place is read there
pub stands_value : (known : List Known) (node place : ℕ) (item : Known) (value : ℤ) → StandsAt known node place → item ≡ get_or known place item → value ≡ item.value → Some value ≡ known_at known node
stands_value known node place item value stands read is = grind (arith, get_or_from_slice_get)

-- An item read, or not

-- a node that isn't out is neither the first one nor among the rest
pub none_rest : (item : Known) (known : List Known) (node : ℕ) → known_at (item ∷ known) node ≡ None → (item.node ≢ node) × (known_at known node ≡ None)
none_rest item known node none = grind (arith, cases_eq, known_first, known_later, none-some)

-- one node more

-- what is out stays as it is known
pub known_more : (known : List Known) (item : Known) (node : ℕ) (value : ℤ) → known_at known node ≡ Some value → known_at (known ++ item ∷ []) node ≡ Some value
known_more [] item node value at = absurd (none-some value at)
known_more (k ∷ known) item node value at = elim (cases_eq k.node node) [
  | inl same ↦ known_first (k ∷ known ++ item ∷ []) k (known ++ item ∷ []) node refl same ∙ sym (known_first (k ∷ known) k known node refl same) ∙ at
  | inr other ↦ known_later (k ∷ known ++ item ∷ []) k (known ++ item ∷ []) node refl other
      ∙ known_more known item node value (sym (known_later (k ∷ known) k known node refl other) ∙ at)
]

none_more : (known : List Known) (item : Known) (node : ℕ) → known_at known node ≡ None → item.node ≢ node → known_at (known ++ item ∷ []) node ≡ None
none_more [] item node none other = known_later (item ∷ []) item [] node refl other
none_more (k ∷ known) item node none other =
    let rest = none_rest k known node none in
    known_later (k ∷ known ++ item ∷ []) k (known ++ item ∷ []) node refl rest.0 ∙ none_more known item node rest.1 other

apart_more : (known : List Known) (item : Known) → AreApart known → known_at known item.node ≡ None → AreApart (known ++ item ∷ [])
apart_more [] item apart none = (refl, tt)
apart_more (k ∷ known) item apart none =
    let rest = none_rest k known item.node none in
    (none_more known item k.node apart.0 (λ e. rest.0 (sym e)), apart_more known item apart.1 rest.1)

-- entries stay sound where a node is put
pub sound_held : (known more : List Known) (entries : List Entry) (item : Known) → more ≡ known ++ item ∷ [] → known_at known item.node ≡ None → IsSound known entries → IsSound more entries
sound_held known more entries item e none sound = grind (arith, apart_more, known_more)

-- one node less

none_without : (known : List Known) (gone node : ℕ) → known_at known node ≡ None → known_at (without known gone) node ≡ None
none_without [] gone node none = refl
none_without (k ∷ known) gone node none =
    let rest = none_rest k known node none in
    elim (cases_eq k.node gone) [
      | inl same ↦ rw (without_first (k ∷ known) k known gone refl same) rest.1
      | inr other ↦ rw (without_later (k ∷ known) k known gone refl other) (known_later (k ∷ without known gone) k (without known gone) node refl rest.0 ∙ none_without known gone node rest.1)
    ]

apart_without : (known : List Known) (gone : ℕ) → AreApart known → AreApart (without known gone)
apart_without [] gone apart = tt
apart_without (k ∷ known) gone apart =
    grind (arith, cases_eq, none_without, without_first, without_later, apart_without known gone apart.1)

-- without a node there are no more
pub length-without : (known : List Known) (gone : ℕ) → length (without known gone) ≤ length known
length-without [] gone = omega arith
length-without (k ∷ known) gone = grind (arith, cases_eq, without_first, without_later, length-without known gone)

-- no entries are sound whatever is out
pub sound_without : (known less : List Known) (entries : List Entry) (gone : ℕ) → less ≡ without known gone → entries ≡ [] → IsSound known entries → IsSound less entries
sound_without known less entries gone e none sound = grind (arith, apart_without, none-some)

-- without a node that isn't there
pub without_none : (known : List Known) (gone : ℕ) → known_at known gone ≡ None → without known gone ≡ known
without_none [] gone none = refl
without_none (k ∷ known) gone none =
    let rest = none_rest k known gone none in
    without_later (k ∷ known) k known gone refl rest.0 ∙ ap (λ ks. k ∷ ks) (without_none known gone rest.1)

-- present values made the known ones

abbrev pub settled_one : List Entry → Known → Known
settled_one entries k = record { node = k.node; value = value_after entries k.node k.value }

-- each node's known value is then its present one
pub settled_at : (entries : List Entry) (known : List Known) (node : ℕ) → known_at (settled entries known) node ≡ present_from entries node (known_at known node)
settled_at entries [] node = refl
settled_at entries (k ∷ known) node = grind (arith, cases_eq, known_first, known_later, settled_at entries known node)

apart_settled : (entries : List Entry) (known : List Known) → AreApart known → AreApart (settled entries known)
apart_settled entries [] apart = tt
apart_settled entries (k ∷ known) apart = (settled_at entries known k.node ∙ ap (present_from entries k.node) apart.0, apart_settled entries known apart.1)

-- as many nodes are out
pub length-settled : (entries : List Entry) (known : List Known) → length (settled entries known) ≡ length known
length-settled entries [] = refl
length-settled entries (k ∷ known) = ap suc (length-settled entries known)

-- and no entries are sound over them
pub sound_settled : (known new : List Known) (entries none : List Entry) → new ≡ settled entries known → none ≡ [] → IsSound known entries → IsSound new none
sound_settled known new entries none e empty sound = grind (arith, apart_settled, none-some)

-- no entries leave what is known
pub settled_nothing : (known : List Known) → known ≡ settled [] known
settled_nothing [] = refl
settled_nothing (k ∷ known) = ap (λ ks. k ∷ ks) (settled_nothing known)

-- one node more is settled by itself
pub settled-append : (entries : List Entry) (known : List Known) (k : Known) → settled entries (known ++ k ∷ []) ≡ settled entries known ++ settled_one entries k ∷ []
settled-append entries [] k = refl
settled-append entries (x ∷ known) k = ap (λ ks. settled_one entries x ∷ ks) (settled-append entries known k)

-- one entry more

-- one entry more changes the value that the earlier ones left
pub value_after-append : (entries : List Entry) (e : Entry) (node : ℕ) (value : ℤ)
    → value_after (entries ++ e ∷ []) node value ≡ value_after (e ∷ []) node (value_after entries node value)
value_after-append [] e node value = refl
value_after-append (x ∷ entries) e node value = value_after-append entries e node (cond (eqb x.access.node node) (stored x.access.op value) value)

-- a present value comes from a known one
pub out_value : (entries : List Entry) (node : ℕ) (o : Option ℤ) (value : ℤ) → present_from entries node o ≡ Some value → (v : ℤ) × (o ≡ Some v) × (value_after entries node v ≡ value)
out_value entries node None value at = absurd (none-some value at)
out_value entries node (Some v) value at = (v, refl, same_Some (value_after entries node v) value at)

last_item : (entry e : Entry) (j : ℕ) → slice_get (entry ∷ []) j ≡ Some e → entry ≡ e
last_item entry e zero at = same_Some entry e at
last_item entry e (suc j) at = absurd (none-some e at)

last_place : (entry e : Entry) (j : ℕ) → slice_get (entry ∷ []) j ≡ Some e → j ≡ 0
last_place entry e zero at = refl
last_place entry e (suc j) at = absurd (none-some e at)

take_all : (xs ys : List Entry) (i j : ℕ) → i ≡ length xs + j → j ≡ 0 → take i (xs ++ ys) ≡ xs
take_all xs ys i j e f = let here : i ≡ length xs = omega arith in rw here (take-append_seam xs ys)

-- entries stay sound with the reply that an access has now
pub sound_applied : (known : List Known) (entries more : List Entry) (entry : Entry) (value : ℤ) → more ≡ entries ++ entry ∷ []
    → present_from entries entry.access.node (known_at known entry.access.node) ≡ Some value → entry.reply ≡ answer entry.access.op value
    → IsSound known entries → IsSound known more
sound_applied known entries more entry value grown out answered sound =
    grind (arith, get_append_cases, grown, last_item, last_place, out_value, slice_get_within, take-append-le, take_all)

-- one item more made settled

-- the items before a place are settled, and then the one at the place
pub settle_on : (entries : List Entry) (opening now : List Known) (place : ℕ) (old new : Known) → place < length opening → now ≡ settled entries (take place opening) ++ drop place opening
    → old ≡ get_or now place old → new ≡ settled_one entries old → set now place new ≡ settled entries (take (place + 1) opening) ++ drop (place + 1) opening
settle_on entries opening now place old new lt so_far read made =
    let k : Known = get_or opening place old in
    let at : slice_get opening place ≡ Some k = slice_get-get_or opening place old lt in
    let here : length (settled entries (take place opening)) ≡ place = length-settled entries (take place opening) ∙ length-take-le place opening (omega arith) in
    let now_is : now ≡ settled entries (take place opening) ++ k ∷ drop (suc place) opening = so_far ∙ ap (λ ks. settled entries (take place opening) ++ ks) (drop_next opening place k at) in
    let was : old ≡ k = read ∙ ap (λ ks. get_or ks place old) now_is ∙ sym (ap (λ (n : ℕ). get_or (settled entries (take place opening) ++ k ∷ drop (suc place) opening) n old) here) ∙ get_or-append_seam (settled entries (take place opening)) k (drop (suc place) opening) old in
    ap (λ (ks : List Known). set ks place new) now_is
    ∙ sym (ap (λ (n : ℕ). set (settled entries (take place opening) ++ k ∷ drop (suc place) opening) n new) here)
    ∙ set-append_seam (settled entries (take place opening)) k (drop (suc place) opening) new
    ∙ sym (append_assoc (settled entries (take place opening)) (new ∷ []) (drop (suc place) opening))
    ∙ ap (λ (ks : List Known). ks ++ drop (suc place) opening)
    (ap (λ (x : Known). settled entries (take place opening) ++ x ∷ []) (made ∙ ap (λ (x : Known). settled_one entries x) was)
    ∙ sym (settled-append entries (take place opening) k) ∙ ap (λ (ks : List Known). settled entries ks) (sym (take_next opening place k at)))
    ∙ ap (λ (n : ℕ). settled entries (take n opening) ++ drop n opening) (sym (add-one place))

-- one item more
pub length-more : {A : Type 0} (xs more : List A) (x : A) → more ≡ xs ++ x ∷ [] → length more ≡ length xs + 1
length-more xs more x e = ap length e ∙ length-append xs (x ∷ [])

-- there was room for it
pub grown : (old new n most : ℕ) → new ≡ old + 1 → n ≡ old → n ≢ most → old ≤ most → new ≤ most
grown old new n most e f ne le = omega arith

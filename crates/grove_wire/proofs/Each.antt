-- Items read in turn, by a loop that has read some of them.
use Rattle.std.proofs.Common.{◌≡◌, ℕ, suc, ◌+◌, ◌<◌, ◌≤◌, List, [], ◌∷◌, ◌++◌, length, drop, get_or, cond, refl, ap}
use Rattle.std.proofs.Common.{Bool, true, false, subst, ltb-true, ltb-false, Bor, sym, ◌∙◌, add-one, append_assoc}
use Rattle.std.proofs.Common.{append-nil, drop-cons, arith}
use Rattle.std.specs.Fn.{Shared}
use Rattle.std.specs.Prelude.{nat_lt, Result, Ok, Err, IfOk, IfErr, IsErrAnd, map}
use Rattle.std.proofs.lemmas.List.{drop_all, map-id}
use Rattle.std.proofs.lemmas.Bool.{le-ltb}
use Rattle.std.proofs.lemmas.Fn.{says}
use Rattle.serde_json.specs.Data.{Data}
use Rattle.serde_json.specs.View.{view}
use Rattle.serde_json.specs.declared.value.Value.{Value}
use Rattle.grove_base.proofs.Lists.{map_length}
use Rattle.grove_wire.specs.declared.fault.WireFault.{WireFault}
use Rattle.grove_wire.specs.declared.fault.WireFault.TheVariants.{BadJson, Shape, NoPath, BadLength, Limit, Tree, Memory}
use Rattle.grove_wire.specs.declared.place.Place.{Place}
use Rattle.grove_wire.specs.Outcomes.{◌>>=◌, each_from, each_on, few_on, Fails, Gives}
use Rattle.grove_wire.specs.Arrays.{EachRead, ends, stops, goes, FewRead, ReadsAt, Stopped}
use Rattle.grove_wire.specs.Places.{item_on}

-- a call fails as is said if what is read is that fault, unless memory ran out
pub fails_unless : {A : Type 0} (fault : WireFault) (read : Result A WireFault)
    → ((fault ≡ Memory → ⊥) → read ≡ Err fault) → Fails fault read
fails_unless BadJson read is = is (λ same. absurd (cc))
fails_unless (Shape place) read is = is (λ same. absurd (cc))
fails_unless (NoPath place) read is = is (λ same. absurd (cc))
fails_unless (BadLength place) read is = is (λ same. absurd (cc))
fails_unless (Limit place) read is = is (λ same. absurd (cc))
fails_unless (Tree fault) read is = is (λ same. absurd (cc))
fails_unless Memory read is = tt

-- and the other way round
fault_of : {A : Type 0} (fault : WireFault) (read : Result A WireFault) → (fault ≡ Memory → ⊥) → Fails fault read
    → read ≡ Err fault
fault_of BadJson read other fails = fails
fault_of (Shape place) read other fails = fails
fault_of (NoPath place) read other fails = fails
fault_of (BadLength place) read other fails = fails
fault_of (Limit place) read other fails = fails
fault_of (Tree fault) read other fails = fails
fault_of Memory read other fails = absurd (other refl)

pub fails_so : {A : Type 0} (fault : WireFault) (read : Result A WireFault) → read ≡ Err fault → Fails fault read
fails_so fault read is = fails_unless fault read (λ other. is)

-- where a part's fault is that of the whole, the whole fails as the part does
pub fails_as : {A B : Type 0} (fault : WireFault) (part : Result A WireFault) (whole : Result B WireFault)
    → (part ≡ Err fault → whole ≡ Err fault) → Fails fault part → Fails fault whole
fails_as fault part whole so fails = fails_unless fault whole (λ other. so (fault_of fault part other fails))

-- a call that passes a fault on answers as is said of the fault
pub passes_on : {T A : Type 0} (seen : T → A) (result : Result T WireFault) (read : Result A WireFault) (fault : WireFault) → IsErrAnd result (λ passed. passed ≡ fault) → Fails fault read → Gives seen result read
passes_on seen (Ok x) read fault passed fails = absurd passed
passes_on seen (Err other) read fault passed fails = rw passed fails

-- what was read before, and then the rest
abbrev pub with_front : {A : Type 0} → List A → Result (List A) WireFault → Result (List A) WireFault
with_front front rest = rest >>= λ items. Ok (front ++ items)

-- one more item at the end of the front is one more before the rest
pub with_front-more : {A : Type 0} (front : List A) (x : A) (rest : Result (List A) WireFault) → with_front front (rest >>= λ others. Ok (x ∷ others)) ≡ with_front (front ++ x ∷ []) rest
with_front-more front x (Ok others) = ap Ok (sym (append_assoc front (x ∷ []) others))
with_front-more front x (Err fault) = refl

-- nothing before
pub with_front-none : {A : Type 0} (rest : Result (List A) WireFault) → with_front [] rest ≡ rest
with_front-none (Ok items) = refl
with_front-none (Err fault) = refl

-- what is left of values begins with the value at the place
drop_turn : (values : List Value) (at : ℕ) (value : Value) → at < length values → value ≡ get_or values at value → drop at values ≡ value ∷ drop (suc at) values
drop_turn values at value within is = drop-cons values at value within ∙ ap (λ (v : Value). v ∷ drop (suc at) values) (sym is)

module _ {A : Type 0} (read : ℕ → Data → Result A WireFault) (values : List Value) (at : ℕ) where
  -- what is left of the values, read
  abbrev pub rest_read : Result (List A) WireFault
  rest_read = each_from read at (map view (drop at values))

  -- the first item that isn't read is the fault
  pub rest_stops : (value : Value) (fault : WireFault) → at < length values → value ≡ get_or values at value → read at (view value) ≡ Err fault → rest_read ≡ Err fault
  rest_stops value fault within is refused = rw (drop_turn values at value within is, refused) refl

  -- after the last item nothing is left
  pub rest_ends : length values ≤ at → rest_read ≡ Ok []
  rest_ends beyond = rw (drop_all at values beyond) refl

  -- an item that is read stands before the rest
  pub rest_goes : (value : Value) (x : A) → at < length values → value ≡ get_or values at value → read at (view value) ≡ Ok x
      → rest_read ≡ (each_from read (at + 1) (map view (drop (at + 1) values)) >>= λ others. Ok (x ∷ others))
  rest_goes value x within is told = rw (add-one, drop_turn values at value within is, told) refl

-- the same after a front

pub each_stops : {A : Type 0} (read : ℕ → Data → Result A WireFault) (front : List A) (values : List Value) (at : ℕ) (value : Value) (fault : WireFault) → at < length values → value ≡ get_or values at value → read at (view value) ≡ Err fault
    → with_front front (rest_read read values at) ≡ Err fault
each_stops read front values at value fault within is refused = rw (rest_stops read values at value fault within is refused) refl

pub each_ends : {A : Type 0} (read : ℕ → Data → Result A WireFault) (front : List A) (values : List Value) (at : ℕ) → length values ≤ at → with_front front (rest_read read values at) ≡ Ok front
each_ends read front values at beyond = rw (rest_ends read values at beyond) (ap Ok (append-nil front))

pub each_goes : {A : Type 0} (read : ℕ → Data → Result A WireFault) (front : List A) (values : List Value) (at : ℕ) (value : Value) (x : A) → at < length values → value ≡ get_or values at value → read at (view value) ≡ Ok x
    → with_front front (rest_read read values at) ≡ with_front (front ++ x ∷ []) (rest_read read values (at + 1))
each_goes read front values at value x within is told = rw (rest_goes read values at value x within is told) (with_front-more front x (rest_read read values (at + 1)))

-- one more value at the end is one more read after the others

push_after : {A : Type 0} (first : Result A WireFault) (others : Result (List A) WireFault) (x : A)
    → (first >>= λ y. ((others >>= λ ys. Ok (ys ++ x ∷ [])) >>= λ ys. Ok (y ∷ ys))) ≡ ((first >>= λ y. others >>= λ ys. Ok (y ∷ ys)) >>= λ ys. Ok (ys ++ x ∷ []))
push_after (Ok y) (Ok ys) x = refl
push_after (Ok y) (Err fault) x = refl
push_after (Err fault) others x = refl

each_from-push : {A : Type 0} (read : ℕ → Data → Result A WireFault) (d : Data) (x : A) → ((at : ℕ) → read at d ≡ Ok x) → (at : ℕ) (ds : List Data)
    → each_from read at (ds ++ d ∷ []) ≡ (each_from read at ds >>= λ xs. Ok (xs ++ x ∷ []))
each_from-push read d x told at [] = rw (told at) refl
each_from-push read d x told at (e ∷ ds) = rw (each_from-push read d x told (suc at) ds) (push_after (read at e) (each_from read (suc at) ds) x)

pub each_pushed : {A : Type 0} (read : ℕ → Data → Result A WireFault) (d : Data) (x : A) (ds : List Data) (xs : List A) → ((at : ℕ) → read at d ≡ Ok x) → each_from read 0 ds ≡ Ok xs
    → each_from read 0 (ds ++ d ∷ []) ≡ Ok (xs ++ x ∷ [])
each_pushed read d x ds xs told is = each_from-push read d x told 0 ds ∙ ap (λ result. result >>= λ ys. Ok (ys ++ x ∷ [])) is

-- what items are read as is as long as they are

each_length : {A : Type 0} (read : ℕ → Data → Result A WireFault) (at : ℕ) (ds : List Data) (xs : List A)
    → each_from read at ds ≡ Ok xs → length ds ≡ length xs
each_length read at [] [] is = refl
each_length read at [] (x ∷ xs) is = absurd (cc)
each_length {A} read at (d ∷ ds) xs is =
    by_parts (read at d) (each_from read (suc at) ds) (each_length read (suc at) ds) is
  where
    by_parts : (first : Result A WireFault) (others : Result (List A) WireFault)
        → ((ys : List A) → others ≡ Ok ys → length ds ≡ length ys)
        → (first >>= λ y. others >>= λ ys. Ok (y ∷ ys)) ≡ Ok xs → length (d ∷ ds) ≡ length xs
    by_parts (Ok y) (Ok ys) rest told =
        let same : y ∷ ys ≡ xs = cc in ap suc (rest ys refl) ∙ ap length same
    by_parts (Ok y) (Err fault) rest told = absurd (cc)
    by_parts (Err fault) others rest told = absurd (cc)

-- so where that is few, they are few
pub few_read : {A : Type 0} (most : ℕ) (read : Place → Data → Result A WireFault) (place : Place) (ds : List Data)
    (xs : List A) → length xs ≤ most → each_on read place ds ≡ Ok xs → few_on most read place ds ≡ Ok xs
few_read most read place ds xs few is =
    let same : length ds ≡ length xs = each_length (λ at. read (item_on place at)) 0 ds xs is in
    let within : length ds ≤ most = omega arith in
    ap (λ test. cond test (Err (Limit place)) (each_on read place ds)) (le-ltb most (length ds) within) ∙ is

-- what a generic reader of arrays gives, by what its reader of items does

pub reads_at : {F T : Type 0} (g : Shared F (ℕ × (Bor Value × Unit {0})) (Result T WireFault)) {reader : F} {at : ℕ}
    {shown : Bor Value} {r v : Result T WireFault} → g.post reader (at, (shown, tt)) r → r ≡ v
    → ReadsAt g reader at shown.now v
reads_at g {reader} {at} {shown} may is = record { shown = shown; shows = refl; says = says g may is }

-- what is left of values begins with the value at the place
pub turn : (values : List Value) (at : ℕ) (value : Value) → at < length values → value ≡ get_or values at value
    → drop at values ≡ value ∷ drop (at + 1) values
turn values at value within is = rw add-one (drop_turn values at value within is)

-- what is read exactly so is what is given
pub exactly : {A : Type 0} (result read : Result A WireFault) → result ≡ read → Gives (λ x. x) result read
exactly (Ok x) read is = sym is
exactly (Err fault) read is = fails_so fault read (sym is)

-- a fault that is passed on is what is read
pub stopped_by : {B T : Type 0} (result : Result B WireFault) (fault : WireFault)
    (Read : Result (List T) WireFault → Type 0)
    → IsErrAnd result (λ passed. passed ≡ fault) → Read (Err fault) → IfErr result (λ told. Stopped told Read)
stopped_by (Ok x) fault Read passed read = absurd passed
stopped_by (Err other) fault Read passed read = λ known. rw passed read

module _ {F T A : Type 0} (g : Shared F (ℕ × (Bor Value × Unit {0})) (Result T WireFault)) (reader : F) (seen : T → A)
    (read : ℕ → Data → Result A WireFault)
    (one : (at : ℕ) (shown : Bor Value) (r : Result T WireFault) → g.post reader (at, (shown, tt)) r
    → Gives seen r (read at (view shown.now))) where
  one_at : (at : ℕ) (value : Value) (r : Result T WireFault) → ReadsAt g reader at value r
      → Gives seen r (read at (view value))
  one_at at value r is = subst (λ v. Gives seen r (read at (view v))) is.shows (one at is.shown r is.says.met)

  one_more : (x : T) (rest : Result (List T) WireFault) (others : Result (List A) WireFault)
      → Gives (map seen) rest others
      → Gives (map seen) (rest >>= λ xs. Ok (x ∷ xs)) (others >>= λ ys. Ok (seen x ∷ ys))
  one_more x (Ok xs) others is = rw is refl
  one_more x (Err fault) others is = fails_as fault others _ (λ refused. rw refused refl) is

  each_given : {at : ℕ} {values : List Value} {outcome : Result (List T) WireFault}
      → EachRead (ReadsAt g reader) at values outcome
      → Gives (map seen) outcome (each_from read at (map view values))
  each_given (ends at) = refl
  each_given (stops at value values fault step) =
      fails_as fault (read at (view value)) _ (λ refused. rw refused refl) (one_at at value (Err fault) step)
  each_given (goes at value values x rest step others) =
      let e : read at (view value) ≡ Ok (seen x) = one_at at value (Ok x) step in
      let given : Gives (map seen) rest (each_from read (suc at) (map view values)) =
      subst (λ n. Gives (map seen) rest (each_from read n (map view values))) (add-one at) (each_given others) in
      rw e (one_more x rest (each_from read (suc at) (map view values)) given)

  few_given : (most : ℕ) (place : Place) (values : List Value) (outcome : Result (List T) WireFault)
      → FewRead most place (ReadsAt g reader) values outcome
      → Gives (map seen) outcome
      (cond (nat_lt most (length (map view values))) (Err (Limit place)) (each_from read 0 (map view values)))
  few_given most place values outcome is = rw (map_length view values) (by_test (nat_lt most (length values)) refl)
    where
      by_test : (test : Bool) → nat_lt most (length values) ≡ test
          → Gives (map seen) outcome (cond test (Err (Limit place)) (each_from read 0 (map view values)))
      by_test true beyond = rw (is.many (ltb-true most (length values) beyond)) refl
      by_test false within = each_given (is.few (ltb-false most (length values) within))

  -- what is read of all of them
  gives_few : {V : Type 0} (items : V → List T) (most : ℕ) (place : Place) (values : List Value)
      (result : Result V WireFault)
      → IfOk result (λ all. FewRead most place (ReadsAt g reader) values (Ok (items all)))
      → IfErr result (λ fault. Stopped fault (FewRead most place (ReadsAt g reader) values))
      → Gives (λ all. map seen (items all)) result
      (cond (nat_lt most (length (map view values))) (Err (Limit place)) (each_from read 0 (map view values)))
  gives_few items most place values (Ok all) is stopped = few_given most place values (Ok (items all)) is
  gives_few items most place values (Err fault) is stopped =
      fails_unless fault _ (λ other. fault_of fault _ other (few_given most place values (Err fault) (stopped other)))

-- where items are seen as they are
unseen : {T V : Type 0} (items : V → List T) (result : Result V WireFault) (read : Result (List T) WireFault)
    → Gives (λ all. map (λ x. x) (items all)) result read → Gives items result read
unseen items (Ok all) read is = is ∙ ap Ok (map-id (items all))
unseen items (Err fault) read is = is

module _ {F T V : Type 0} (g : Shared F (ℕ × (Bor Value × Unit {0})) (Result T WireFault)) (reader : F)
    (items : V → List T) (most : ℕ) (place said : Place) (same : place ≡ said) (values : List Value)
    (result : Result V WireFault)
    (all : IfOk result (λ all. FewRead most place (ReadsAt g reader) values (Ok (items all))))
    (stopped : IfErr result (λ fault. Stopped fault (FewRead most place (ReadsAt g reader) values))) where
  -- each item at its number
  pub gives_numbered : (read : ℕ → Data → Result T WireFault)
      → ((at : ℕ) (shown : Bor Value) (r : Result T WireFault) → g.post reader (at, (shown, tt)) r
      → Gives (λ x. x) r (read at (view shown.now)))
      → Gives items result
      (cond (nat_lt most (length (map view values))) (Err (Limit said)) (each_from read 0 (map view values)))
  gives_numbered read one =
      subst (λ p. Gives items result
      (cond (nat_lt most (length (map view values))) (Err (Limit p)) (each_from read 0 (map view values)))) same
      (unseen items result _ (gives_few g reader (λ x. x) read one items most place values result all stopped))

  -- each at its place, and seen otherwise
  pub gives_seen : {A : Type 0} (seen : T → A) (read : Place → Data → Result A WireFault)
      → ((at : ℕ) (shown : Bor Value) (r : Result T WireFault) → g.post reader (at, (shown, tt)) r
      → Gives seen r (read (item_on place at) (view shown.now)))
      → Gives (λ all. map seen (items all)) result (few_on most read said (map view values))
  gives_seen seen read one =
      subst (λ p. Gives (λ all. map seen (items all)) result (few_on most read p (map view values))) same
      (gives_few g reader seen (λ at. read (item_on place at)) one items most place values result all stopped)

  pub gives_items : (read : Place → Data → Result T WireFault)
      → ((at : ℕ) (shown : Bor Value) (r : Result T WireFault) → g.post reader (at, (shown, tt)) r
      → Gives (λ x. x) r (read (item_on place at) (view shown.now)))
      → Gives items result (few_on most read said (map view values))
  gives_items read one = unseen items result _ (gives_seen (λ x. x) read one)

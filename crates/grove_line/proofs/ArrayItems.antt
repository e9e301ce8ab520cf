-- The items of an array, each read at its place, some of which are read.
use Rattle.std.proofs.Common.{◌≡◌, ℕ, suc, ◌+◌, ◌≤◌, ◌<◌, Bool, true, false, List, [], ◌∷◌, ◌++◌, length, cond, refl}
use Rattle.std.proofs.Common.{ap, sym, ◌∙◌, arith, length-append, min}
use Rattle.std.specs.Prelude.{Option, Some, None, is_some, not, Result, Ok, Err, nat_lt}
use Rattle.std.proofs.lemmas.Bool.{lt-ltb, le-ltb, ltb-true, ltb-false}
use Rattle.serde_json.specs.Data.{Data}
use Rattle.grove_wire.specs.declared.fault.WireFault.{WireFault}
use Rattle.grove_wire.specs.declared.fault.WireFault.TheVariants.{Limit}
use Rattle.grove_wire.specs.declared.place.Place.{Place}
use Rattle.grove_wire.specs.Outcomes.{◌>>=◌, each_from, each_on, few_on}
use Rattle.grove_wire.specs.Places.{item_on}
use Rattle.grove_line.specs.ArrayItems.{outcome_of, with_next, Tally}

next_after : {A : Type 0} (first next : Result A WireFault) (others : Result (List A) WireFault)
    → (first >>= λ y. with_next others next >>= λ ys. Ok (y ∷ ys))
    ≡ with_next (first >>= λ y. others >>= λ ys. Ok (y ∷ ys)) next
next_after (Err fault) next others = refl
next_after (Ok y) next (Err fault) = refl
next_after (Ok y) (Err fault) (Ok ys) = refl
next_after (Ok y) (Ok x) (Ok ys) = refl

each_next : {A : Type 0} (read : ℕ → Data → Result A WireFault) (at : ℕ) (front : List Data) (d : Data)
    → each_from read at (front ++ d ∷ []) ≡ with_next (each_from read at front) (read (at + length front) d)
each_next read at [] d = alone (read at d) ∙ ap (λ n. with_next (Ok []) (read n d)) (omega arith)
  where
    alone : {A : Type 0} (first : Result A WireFault)
        → (first >>= λ y. Ok [] >>= λ ys. Ok (y ∷ ys)) ≡ with_next (Ok []) first
    alone (Ok y) = refl
    alone (Err fault) = refl
each_next read at (e ∷ front) d =
    ap (λ rest. read at e >>= λ y. rest >>= λ ys. Ok (y ∷ ys)) (each_next read (suc at) front d)
    ∙ next_after (read at e) (read (suc at + length front) d) (each_from read (suc at) front)
    ∙ ap (λ n. with_next (each_from read at (e ∷ front)) (read n d)) (omega arith)

pub tally_begin : {A : Type 0} (read : Place → Data → Result A WireFault) (most : ℕ) (place : Place)
    → Tally read most place [] 0 (Ok [])
tally_begin read most place = record {
  bound = omega arith;
  counted = λ few. refl;
  told = λ few. refl;
  many = λ many. many;
}

module _ {A : Type 0} {read : Place → Data → Result A WireFault} {most : ℕ} {place : Place} {front : List Data}
    {count : ℕ} {before : Result (List A) WireFault} (tally : Tally read most place front count before) where
  pub tally_few : count ≤ most → few_on most read place front ≡ before
  tally_few few =
      let within : length front ≤ most = omega (arith, few, tally.counted few) in
      ap (λ test. cond test (Err (Limit place)) (each_on read place front)) (le-ltb most (length front) within)
      ∙ tally.told few

  pub tally_many : most < count → few_on most read place front ≡ Err (Limit place)
  tally_many many = ap (λ test. cond test (Err (Limit place)) (each_on read place front))
      (lt-ltb most (length front) (tally.many many))

  module _ (d : Data) {more : ℕ} (is : more ≡ min (count + 1) (most + 1)) where
    pub tally_turn : {after : Result (List A) WireFault}
        → (count < most → after ≡ with_next before (read (item_on place count) d))
        → Tally read most place (front ++ d ∷ []) more after
    tally_turn so =
        let longer : length (front ++ d ∷ []) ≡ length front + 1 = length-append front (d ∷ []) in
        record {
          bound = omega (arith, is, tally.bound);
          counted = λ few. omega (arith, is, longer, tally.counted (omega (arith, is, few)), few);
          told = λ few.
              let less : count < most = omega (arith, is, few) in
              let same : 0 + length front ≡ count = omega (arith, tally.counted (omega (arith, less))) in
              each_next (λ at. read (item_on place at)) 0 front d
              ∙ ap (λ n. with_next (each_on read place front) (read (item_on place n) d)) same
              ∙ ap (λ r. with_next r (read (item_on place count) d)) (tally.told (omega (arith, less)))
              ∙ sym (so less);
          many = λ many. by_test (nat_lt most count) refl many longer;
        }
      where
        by_test : (test : Bool) → nat_lt most count ≡ test → most < more
            → length (front ++ d ∷ []) ≡ length front + 1 → most < length (front ++ d ∷ [])
        by_test true beyond many longer = omega (arith, tally.many (ltb-true most count beyond), longer)
        by_test false within many longer =
            let few : count ≤ most = ltb-false most count within in
            omega (arith, tally.counted few, longer, many, is)

    -- an item that is passed over, behind a fault or behind as many as may be
    pub tally_past : (count < most → (fault : WireFault) × (before ≡ Err fault))
        → Tally read most place (front ++ d ∷ []) more before
    tally_past over = tally_turn (λ less.
        let fault = over less in fault.1 ∙ ap (λ r. with_next r (read (item_on place count) d)) (sym fault.1))

-- where there is a fault, it is what is told
pub fault_told : {A : Type 0} (xs : List A) (fault : Option WireFault) (none : Bool) → is_some fault ≡ not none
    → none ≡ false → (found : WireFault) × (outcome_of xs fault ≡ Err found)
fault_told xs None none is not_none = absurd (cc)
fault_told xs (Some found) none is not_none = (found, refl)

pub none_told : (fault : Option WireFault) (none : Bool) → is_some fault ≡ not none → none ≡ true → fault ≡ None
none_told None none is same = refl
none_told (Some found) none is same = absurd (cc)

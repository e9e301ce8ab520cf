-- How the slots before an access grow with its number.
use Rattle.std.proofs.Common.{◌≡◌, ℕ, zero, suc, ◌*◌, ◌<◌, ◌≤◌, List, length, Some, inl, inr, arith}
use Rattle.std.specs.Prelude.{slice_index}
use Rattle.std.specs.List.{slice_get}
use Rattle.std.proofs.lemmas.Option.{slice_get-get_or, get_or_from_slice_get}
use Rattle.std.proofs.lemmas.List.{get_or_past}
use Rattle.std.proofs.lemmas.Bool.{cases_lt, cases_order}
use Rattle.grove_access.specs.declared.access.Access.{Access}
use Rattle.grove_access.specs.Lists.{lengths_of}
use Rattle.grove_access.specs.ListFaults.{AreLengths}
use Rattle.grove_access.specs.Slots.{slots_before}
use Rattle.grove_access.proofs.Lists.{length_at}

-- the length of an access, as it is read
pub length_read : (list : List Access) (place : ℕ) (access : Access) → slice_get list place ≡ Some access → slice_index (lengths_of list) place ≡ access.length
length_read list place access at = get_or_from_slice_get (lengths_of list) place access.length 0 (length_at list place access at)

-- no slot is lost
pub slots_rise : (lengths : List ℕ) (i j : ℕ) → i ≤ j → slots_before lengths i ≤ slots_before lengths j
slots_rise lengths i zero le = let e : i ≡ 0 = omega arith in rw e (omega arith)
slots_rise lengths i (suc j) le = elim (cases_order i (suc j)) [
  | inl e ↦ rw e (omega arith)
  | inr ne ↦ elim ne [
    | inl lt ↦ let before : slots_before lengths i ≤ slots_before lengths j = slots_rise lengths i j (omega arith) in omega arith
    | inr gt ↦ absurd (omega arith)
  ]
]

-- an access of the list has a slot at least, and no access more than 1000
pub some_slots : (lengths : List ℕ) (i : ℕ) → AreLengths lengths → i < length lengths → 1 ≤ slice_index lengths i
some_slots lengths i are lt = (are i (slice_index lengths i) (slice_get-get_or lengths i 0 lt)).0

-- no access has more than 1000
pub few_slots : (lengths : List ℕ) (i : ℕ) → AreLengths lengths → slice_index lengths i ≤ 1000
few_slots lengths i are = grind (arith, cases_lt, get_or_past, slice_get-get_or)

-- so there are at most 1000 for each access before
pub slots_few : (lengths : List ℕ) (i : ℕ) → AreLengths lengths → slots_before lengths i ≤ 1000 * i
slots_few lengths zero are = omega arith
slots_few lengths (suc i) are = grind (arith, few_slots, slots_few lengths i are)

-- so a later access has more slots before it
pub slots_more : (lengths : List ℕ) (i j : ℕ) → AreLengths lengths → i < j → j ≤ length lengths → slots_before lengths i < slots_before lengths j
slots_more lengths i zero are lt le = absurd (omega arith)
slots_more lengths i (suc j) are lt le = grind (arith, slots_rise, some_slots)

-- and the slots tell the access
pub slots_back : (lengths : List ℕ) (i j : ℕ) → AreLengths lengths → i ≤ length lengths → slots_before lengths i ≤ slots_before lengths j → i ≤ j
slots_back lengths i j are within le = grind (arith, cases_lt, slots_more)

-- accesses with the same slots before them are one
pub slots_tell : (lengths : List ℕ) (i j : ℕ) → AreLengths lengths → i ≤ length lengths → j ≤ length lengths → slots_before lengths i ≡ slots_before lengths j → i ≡ j
slots_tell lengths i j are a b same = grind (arith, slots_back)

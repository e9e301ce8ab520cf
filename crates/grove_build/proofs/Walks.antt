-- The steps of the planner's loops, over plain variables.
use Rattle.std.proofs.Common.{Fits, w32, ◌≡◌, ℕ, zero, suc, ◌+◌, ◌*◌, ◌<◌, ◌≤◌, ◌&&◌, ◌||◌, Bool, true, false, eqb}
use Rattle.std.proofs.Common.{List, [], ◌∷◌, ◌++◌, map, length, take, drop, set, get_or, Some, None, ℤ, pos, ◌≤ℤ◌, refl}
use Rattle.std.proofs.Common.{sym, ◌∙◌, ap, arith, append-nil, eq-eqb, get_or-set_same, get_or-set_other}
use Rattle.std.specs.Prelude.{slice_index}
use Rattle.std.specs.List.{slice_get}
use Rattle.std.proofs.lemmas.List.{take_all, drop_all, get_or_push}
use Rattle.std.proofs.lemmas.Int.{ints}
use Rattle.std.proofs.Math.ListN.{get_or-append}
use borrow.Author.Differences.{up}
use Rattle.grove_access.specs.Slots.{slots_before}
use Rattle.grove_flow.specs.Networks.{place}
use Rattle.std.proofs.lemmas.List.Edits.{map_over_more}
use Rattle.std.proofs.lemmas.Bool.{cases_eq, and_right, and_from}
use Rattle.grove_tree.specs.Trees.{is_at}
use Rattle.grove_span.specs.declared.row.SpanRow.{SpanRow}
use Rattle.grove_build.specs.Networks.{lowered, IsGap, IsBetween}
use Rattle.grove_build.specs.Stays.{is_needed}

-- whether one more row needs the row at a place
pub needed_more : (rows : List SpanRow) (gaps : List ℕ) (k j : ℕ) (row : SpanRow) → slice_get rows k ≡ Some row
    → is_needed rows gaps (k + 1) j ≡ ((is_at j row.parent
    && eqb (slice_index gaps (2 * k)) (slice_index gaps (2 * j + 1))) || is_needed rows gaps k j)
needed_more rows gaps k j row h = grind (arith)

-- a row with no parent needs none
pub needed_none : (rows : List SpanRow) (gaps : List ℕ) (k j : ℕ) (row : SpanRow) → slice_get rows k ≡ Some row
    → row.parent ≡ None → is_needed rows gaps (k + 1) j ≡ is_needed rows gaps k j
needed_none rows gaps k j row h none = grind (arith, needed_more)

-- a row needs no row but its parent
needed_other : (rows : List SpanRow) (gaps : List ℕ) (k j p : ℕ) (row : SpanRow) → slice_get rows k ≡ Some row
    → row.parent ≡ Some p → (p ≡ j → ⊥) → is_needed rows gaps (k + 1) j ≡ is_needed rows gaps k j
needed_other rows gaps k j p row h some ne = grind (arith, needed_more)

-- nor its parent, where that is unlocked in another gap
pub needed_apart : (rows : List SpanRow) (gaps : List ℕ) (k j p : ℕ) (row : SpanRow) → slice_get rows k ≡ Some row
    → row.parent ≡ Some p → (slice_index gaps (2 * k) ≡ slice_index gaps (2 * p + 1) → ⊥)
    → is_needed rows gaps (k + 1) j ≡ is_needed rows gaps k j
needed_apart rows gaps k j p row h some apart = grind (arith, and_right, cases_eq, needed_more, needed_other)

needed_here : (rows : List SpanRow) (gaps : List ℕ) (k j p : ℕ) (row : SpanRow) → slice_get rows k ≡ Some row
    → row.parent ≡ Some p → p ≡ j
    → slice_index gaps (2 * k) ≡ slice_index gaps (2 * p + 1) → is_needed rows gaps (k + 1) j ≡ true
needed_here rows gaps k j p row h some e same = grind (arith, and_from, eq-eqb, needed_more)

-- the marks after a mark on the parent
pub needed_set : (rows : List SpanRow) (gaps : List ℕ) (needed : List Bool) (k p : ℕ) (row : SpanRow)
    → slice_get rows k ≡ Some row → row.parent ≡ Some p → p < length needed
    → slice_index gaps (2 * k) ≡ slice_index gaps (2 * p + 1) → (j : ℕ)
    → get_or needed j false ≡ is_needed rows gaps k j
    → get_or (set needed p true) j false ≡ is_needed rows gaps (k + 1) j
needed_set rows gaps needed k p row h some lt same j so_far =
    grind (arith, cases_eq, get_or-set_other, get_or-set_same, needed_here, needed_other)

-- one more place lowered
pub lower_set : (top : ℤ) (xs ys : List ℤ) (i : ℕ) (x z : ℤ) → i < length xs
    → ys ≡ map (lowered top) (take i xs) ++ drop i xs → x ≡ get_or ys i x → lowered top x ≡ z
    → set ys i z ≡ map (lowered top) (take (i + 1) xs) ++ drop (i + 1) xs
lower_set top xs ys i x z lt so_far is e =
    ap (λ v. set ys i v) (sym e) ∙ map_over_more (lowered top) xs ys i x lt so_far is

pub read_self : (ys : List ℤ) (i : ℕ) (d : ℤ) → i < length ys → get_or ys i d ≡ get_or ys i (get_or ys i d)
read_self [] i d lt = absurd (omega arith)
read_self (y ∷ ys) zero d lt = refl
read_self (y ∷ ys) (suc i) d lt = read_self ys i d (omega arith)

-- all places lowered
pub lower_done : (top : ℤ) (xs ys : List ℤ) (i : ℕ) → length xs ≤ i → ys ≡ map (lowered top) (take i xs) ++ drop i xs
    → ys ≡ map (lowered top) xs
lower_done top xs ys i le e = grind (arith, append-nil, drop_all, take_all)

-- what a write to a whole vector leaves
pub take_whole : (xs ys : List ℤ) (n : ℕ) → n ≡ length xs → length ys ≡ length xs
    → take n (xs ++ drop (length xs) ys) ≡ xs
take_whole xs ys n e f = grind (arith, append-nil, drop_all, take_all)

-- a place that is in a gap is a number of slots
pub gap_slots : (slots : List ℕ) (z : ℤ) → ((gap : ℕ) → Fits w32 (slice_index slots gap)) → IsBetween slots z
    → (pos 0 ≤ℤ z) × (z ≤ℤ pos 4294967295) × ((gap : ℕ) × (gap < length slots) × (slice_index slots gap ≡ up z))
gap_slots slots z few between = grind (arith, ints, up)

-- one more gap found
pub gaps_more : (slots : List ℕ) (places : List ℤ) (gaps : List ℕ) (i gap : ℕ) → length gaps ≡ i
    → ((v : ℕ) → v < i → IsGap slots (place places v) (slice_index gaps v)) → IsBetween slots (place places i)
    → gap < length slots → slice_index slots gap ≡ up (place places i)
    → (v : ℕ) → v < i + 1 → IsGap slots (place places v) (slice_index (gaps ++ gap ∷ []) v)
gaps_more slots places gaps i gap size so_far between lt at = grind (arith, get_or-append, get_or_push, up)

-- the slots before one more gap
pub slots_pushed : (lengths slots : List ℕ) (n after : ℕ) → length slots ≡ suc n
    → ((gap : ℕ) → gap ≤ n → slice_index slots gap ≡ slots_before lengths gap) → after ≡ slots_before lengths (suc n)
    → (gap : ℕ) → gap ≤ suc n → slice_index (slots ++ after ∷ []) gap ≡ slots_before lengths gap
slots_pushed lengths slots n after size so_far is gap le = grind (arith, cases_eq, get_or-append, get_or_push)

-- Which lines are answered together, read one after the other.
use Rattle.std.proofs.Common.{◌≡◌, ℕ, ◌+◌, ◌-◌, ◌<◌, ◌≤◌, leb, List, [], ◌∷◌, ◌++◌, length, get_or, take, drop, map, sum, Option, Some, None, refl, sym, ◌∙◌, ap, ap₂, subst, arith, append_assoc, length-append}
use Rattle.std.specs.Prelude.{option_map, option_and_then, All}
use Rattle.std.proofs.lemmas.Bool.{cond-true, le-leb}
use Rattle.std.proofs.lemmas.List.{append-nil, at_drop_more, at_drop_all, take_more, map_push, length-map, get_or-map}
use Rattle.std.proofs.lemmas.List.Sums.{sum_by-cons}
use Rattle.std.proofs.lemmas.List.Concat.{flat_map-append}
use Rattle.std.proofs.lemmas.List.Elements.{All-append}
use Rattle.std.proofs.lemmas.Option.{none-some, same_Some}
use Rattle.grove_tree.specs.Trees.{Rows}
use Rattle.grove_access.specs.declared.access.Access.{Access}
use Rattle.grove_access.specs.Lists.{nodes_of, AreNodes}
use Rattle.grove_store.specs.Rounds.{lists_in, batches_in, joined, first_fits, fitting}
use Rattle.grove_store.specs.Parts.{FitsRoom, NoneFits, HasBatches, IsRoundOf}

-- what a list of batches is made of
pub parts_of_batches : (first : Option (List (List Access))) (rest : Option (List (List (List Access)))) (batches : List (List (List Access)))
    → option_and_then (λ lists. option_map (λ others. lists ∷ others) rest) first ≡ Some batches
    → (lists : List (List Access)) × (others : List (List (List Access))) × (first ≡ Some lists) × (rest ≡ Some others) × (batches ≡ lists ∷ others)
parts_of_batches None rest batches e = absurd (none-some batches e)
parts_of_batches (Some lists) None batches e = absurd (none-some batches e)
parts_of_batches (Some lists) (Some others) batches e = (lists, others, refl, refl, sym (same_Some (lists ∷ others) batches e))

-- one line more that is a batch
one_more_batch : (rows : Rows) (lines : List (List ℕ)) (line : List ℕ) (batches : List (List (List Access))) (lists : List (List Access)) → batches_in rows lines ≡ Some batches
    → lists_in rows line ≡ Some lists → batches_in rows (lines ++ line ∷ []) ≡ Some (batches ++ lists ∷ [])
one_more_batch rows [] line batches lists so_far here =
    ap (λ (o : Option (List (List Access))). option_and_then (λ first. option_map (λ others. first ∷ others) (Some [])) o) here
    ∙ ap (λ (bs : List (List (List Access))). Some (bs ++ lists ∷ [])) (same_Some [] batches so_far)
one_more_batch rows (other ∷ lines) line batches lists so_far here =
    let (first, others, is_first, are_others, parts) = parts_of_batches (lists_in rows other) (batches_in rows lines) batches so_far in
    ap₂ (λ (o : Option (List (List Access))) (rest : Option (List (List (List Access)))). option_and_then (λ one. option_map (λ more. one ∷ more) rest) o)
    is_first (one_more_batch rows lines line others lists are_others here)
    ∙ ap (λ (bs : List (List (List Access))). Some (bs ++ lists ∷ [])) (sym parts)

joined_more : (batches : List (List (List Access))) (lists : List (List Access)) → joined (batches ++ lists ∷ []) ≡ joined batches ++ lists
joined_more batches lists = flat_map-append (λ x. x) batches (lists ∷ []) ∙ ap (λ (rest : List (List Access)). joined batches ++ rest) (append-nil lists)

-- a batch that has room is counted, and the lines after it have what is left of the room
pub counts_one : (asked : Option (List (List Access))) (room : ℕ) (lists : List (List Access)) (others : ℕ → ℕ) → FitsRoom asked room lists → first_fits asked room others ≡ 1 + others (room - length lists)
counts_one asked room lists others (is, fits) =
    ap (λ (o : Option (List (List Access))). first_fits o room others) is
    ∙ cond-true (leb (length lists) room) (1 + others (room - length lists)) 0 (le-leb (length lists) room fits)

-- and after one line more
has_one_more : (rows : Rows) (first : List (List Access)) (lines : List (List ℕ)) (i : ℕ) (counts : List ℕ) (lists : List (List Access)) (line : List ℕ) (more : List (List Access))
    → i < length lines → line ≡ get_or lines i [] → HasBatches rows first lines i counts lists → FitsRoom (lists_in rows line) (256 - length lists) more
    → All (λ list. AreNodes rows (nodes_of list)) more → HasBatches rows first lines (i + 1) (counts ++ length more ∷ []) (lists ++ more)
has_one_more rows first lines i counts lists line more lt read has (is, fits) fit =
    let few : length lists ≤ 256 = has.few in
    record {
      batches = has.batches ++ more ∷ [];
      number = let e : length has.batches ≡ i = has.number in omega (arith, length-append has.batches (more ∷ []));
      are_read =
          ap (λ (front : List (List ℕ)). batches_in rows front) (take_more lines i [] lt ∙ ap (λ (l : List ℕ). take i lines ++ l ∷ []) (sym read))
          ∙ one_more_batch rows (take i lines) line has.batches more has.are_read is;
      counted = ap (λ (ns : List ℕ). ns ++ length more ∷ []) has.counted ∙ ap (λ (ns : List ℕ). length first ∷ ns) (sym (map_push length has.batches more));
      in_order =
          ap (λ (ls : List (List Access)). ls ++ more) has.in_order ∙ append_assoc first (joined has.batches) more
          ∙ ap (λ (ls : List (List Access)). first ++ ls) (sym (joined_more has.batches more));
      few = omega (arith, length-append lists more);
      fit = All-append (λ list. AreNodes rows (nodes_of list)) lists more has.fit fit;
    }

-- how many lines fit, once one more is read
fitting_more : (rows : Rows) (lines : List (List ℕ)) (i all : ℕ) (lists : List (List Access)) (line : List ℕ) (more : List (List Access)) → i < length lines → line ≡ get_or lines i []
    → FitsRoom (lists_in rows line) (256 - length lists) more → i + fitting rows (256 - length lists) (drop i lines) ≡ all
    → (i + 1) + fitting rows (256 - length (lists ++ more)) (drop (i + 1) lines) ≡ all
fitting_more rows lines i all lists line more lt read fits so_far =
    let next : fitting rows (256 - length lists) (drop i lines) ≡ first_fits (lists_in rows (get_or lines i [])) (256 - length lists) (λ left. fitting rows left (drop (i + 1) lines)) =
    at_drop_more (fitting rows (256 - length lists)) lines i [] lt in
    let same : first_fits (lists_in rows (get_or lines i [])) (256 - length lists) (λ left. fitting rows left (drop (i + 1) lines))
    ≡ first_fits (lists_in rows line) (256 - length lists) (λ left. fitting rows left (drop (i + 1) lines)) =
    ap (λ (l : List ℕ). first_fits (lists_in rows l) (256 - length lists) (λ left. fitting rows left (drop (i + 1) lines))) (sym read) in
    let one = counts_one (lists_in rows line) (256 - length lists) more (λ left. fitting rows left (drop (i + 1) lines)) fits in
    let room : 256 - length lists - length more ≡ 256 - length (lists ++ more) = omega (arith, length-append lists more) in
    let rest : fitting rows (256 - length lists - length more) (drop (i + 1) lines) ≡ fitting rows (256 - length (lists ++ more)) (drop (i + 1) lines) =
    ap (λ (n : ℕ). fitting rows n (drop (i + 1) lines)) room in
    omega arith

-- a line that doesn't fit ends the round
fitting_stops : (rows : Rows) (lines : List (List ℕ)) (i room : ℕ) (line : List ℕ) → i < length lines → line ≡ get_or lines i [] → NoneFits (lists_in rows line) room → fitting rows room (drop i lines) ≡ 0
fitting_stops rows lines i room line lt read none =
    at_drop_more (fitting rows room) lines i [] lt
    ∙ ap (λ (l : List ℕ). first_fits (lists_in rows l) room (λ left. fitting rows left (drop (i + 1) lines))) (sym read)
    ∙ none (λ left. fitting rows left (drop (i + 1) lines))

-- and so does the last line
fitting_ends : (rows : Rows) (lines : List (List ℕ)) (i room : ℕ) → length lines ≤ i → fitting rows room (drop i lines) ≡ 0
fitting_ends rows lines i room le = at_drop_all (fitting rows room) lines i le

-- what is read then is the round
pub round_is : (rows : Rows) (first : List (List Access)) (lines : List (List ℕ)) (i rest : ℕ) (counts : List ℕ) (lists : List (List Access)) → HasBatches rows first lines i counts lists
    → i + rest ≡ fitting rows (256 - length first) lines → rest ≡ 0 → IsRoundOf rows first lines counts lists
round_is rows first lines i rest counts lists has all none =
    let e : i ≡ fitting rows (256 - length first) lines = omega arith in
    record { has = subst (λ (n : ℕ). HasBatches rows first lines n counts lists) e has }

joined_long : (batches : List (List (List Access))) → sum (map length batches) ≡ length (joined batches)
joined_long [] = refl
joined_long (lists ∷ batches) =
    let rest : sum (map length batches) ≡ length (joined batches) = joined_long batches in
    let parts : sum (map length (lists ∷ batches)) ≡ length lists + sum (map length batches) = sum_by-cons (λ x. x) (length lists) (map length batches) in
    omega (arith, length-append lists (joined batches))

-- each list is one line's
pub counts_all : (rows : Rows) (first : List (List Access)) (lines : List (List ℕ)) (counts : List ℕ) (lists : List (List Access)) → IsRoundOf rows first lines counts lists → sum counts ≡ length lists
counts_all rows first lines counts lists round = ap sum round.has.counted ∙ joined_long (first ∷ round.has.batches) ∙ sym (ap length round.has.in_order)

-- one more of the lines is read
pub read_one_more : {L : Type 0} (text : L → List ℕ) (rows : Rows) (first : List (List Access)) (lines : List L)
    (i room all : ℕ) (counts after : List ℕ) (lists joins more : List (List Access)) (d : L) → i < length lines
    → room ≡ 256 - length lists → FitsRoom (lists_in rows (text (get_or lines i d))) room more
    → All (λ list. AreNodes rows (nodes_of list)) more → after ≡ counts ++ length more ∷ [] → joins ≡ lists ++ more
    → HasBatches rows first (map text lines) i counts lists
    → i + fitting rows (256 - length lists) (drop i (map text lines)) ≡ all
    → HasBatches rows first (map text lines) (i + 1) after joins
    × ((i + 1) + fitting rows (256 - length joins) (drop (i + 1) (map text lines)) ≡ all)
read_one_more {L} text rows first lines i room all counts after lists joins more d lt is fits fit counted in_order has so_far =
    let line : List ℕ = text (get_or lines i d) in
    let texts : List (List ℕ) = map text lines in
    let here : line ≡ get_or texts i [] = sym (get_or-map text lines i d [] lt) in
    let within : i < length texts = omega (arith, length-map lines text) in
    let fits_room : FitsRoom (lists_in rows line) (256 - length lists) more =
    subst (λ (n : ℕ). FitsRoom (lists_in rows line) n more) is fits in (
      subst (λ (ls : List (List Access)). HasBatches rows first texts (i + 1) after ls) (sym in_order)
          (subst (λ (ns : List ℕ). HasBatches rows first texts (i + 1) ns (lists ++ more)) (sym counted)
          (has_one_more rows first texts i counts lists line more within here has fits_room fit)),
      subst (λ (ls : List (List Access)). (i + 1) + fitting rows (256 - length ls) (drop (i + 1) texts) ≡ all)
          (sym in_order) (fitting_more rows texts i all lists line more within here fits_room so_far),
    )

-- a line that doesn't fit ends the round
pub read_stops : {L : Type 0} (text : L → List ℕ) (rows : Rows) (lines : List L) (i left room : ℕ) (d : L)
    → i < length lines → left ≡ room → NoneFits (lists_in rows (text (get_or lines i d))) left
    → fitting rows room (drop i (map text lines)) ≡ 0
read_stops text rows lines i left room d lt is none =
    fitting_stops rows (map text lines) i room (text (get_or lines i d)) (omega (arith, length-map lines text))
    (sym (get_or-map text lines i d [] lt))
    (subst (λ (n : ℕ). NoneFits (lists_in rows (text (get_or lines i d))) n) is none)

-- and so does the last of them
pub read_ends : {L : Type 0} (text : L → List ℕ) (rows : Rows) (lines : List L) (i room : ℕ) → length lines ≤ i
    → fitting rows room (drop i (map text lines)) ≡ 0
read_ends text rows lines i room le = fitting_ends rows (map text lines) i room (omega (arith, length-map lines text))

-- lines that are some begin with one, and the others follow it
pub some_line : {L : Type 0} (text : L → List ℕ) (lines : List L) → 0 < length lines
    → (line : List ℕ) × (others : List (List ℕ)) × (map text lines ≡ line ∷ others) × (map text (drop 1 lines) ≡ others)
some_line text [] some = absurd (omega arith)
some_line text (line ∷ others) some = (text line, map text others, refl, refl)

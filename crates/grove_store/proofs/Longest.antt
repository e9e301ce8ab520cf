-- A round is as long as may be.
use Rattle.std.proofs.Common.{◌≡◌, ◌⊎◌, ℕ, zero, suc, ◌+◌, ◌-◌, ◌<◌, ◌≤◌, max, true, false, leb, List, [], ◌∷◌, ◌++◌, length, take, Option, Some, None, refl, sym, ◌∙◌, ap, ap₂, subst, inl, inr, arith, length-append}
use Rattle.std.specs.Prelude.{option_map, option_and_then}
use Rattle.std.proofs.Math.Nat.{max-eq_left, max-eq_right}
use Rattle.std.proofs.lemmas.Bool.{cond-false}
use Rattle.std.proofs.lemmas.Bool.Decides.{leb_tells}
use Rattle.grove_tree.specs.Trees.{Rows}
use Rattle.grove_access.specs.declared.access.Access.{Access}
use Rattle.grove_store.specs.Rounds.{lists_in, batches_in, joined, first_fits, fitting, round_length}
use Rattle.grove_store.specs.Longest.{FitOneRound, RoundsFit, RoundsAreLongest, OthersAreAlone, RoundsAreWithin}
use Rattle.grove_store.proofs.Together.{parts_of_batches, counts_one}

-- batches without fault, with at most `room` lists together
abbrev Fit : Rows → ℕ → List (List ℕ) → Type 0
Fit rows room lines = (batches : List (List (List Access))) × (batches_in rows lines ≡ Some batches) × (length (joined batches) ≤ room)

-- the first line is a batch with room, and counted before the others; or none is counted
abbrev First : Rows → ℕ → List ℕ → List (List ℕ) → Type 0
First rows room line lines =
    ((lists : List (List Access)) × (lists_in rows line ≡ Some lists) × (length lists ≤ room)
    × (fitting rows room (line ∷ lines) ≡ suc (fitting rows (room - length lists) lines)))
    ⊎ (fitting rows room (line ∷ lines) ≡ 0)

first : (rows : Rows) (room : ℕ) (line : List ℕ) (lines : List (List ℕ)) → First rows room line lines
first rows room line lines = by_line (lists_in rows line) refl
  where
    others : ℕ → ℕ
    others left = fitting rows left lines

    with_room : (lists : List (List Access)) → lists_in rows line ≡ Some lists
        → ((leb (length lists) room ≡ true) × (length lists ≤ room)) ⊎ ((leb (length lists) room ≡ false) × (room < length lists)) → First rows room line lines
    with_room lists is (inl (fits, le)) =
        let counted : fitting rows room (line ∷ lines) ≡ 1 + fitting rows (room - length lists) lines = counts_one (lists_in rows line) room lists others (is, le) in
        inl (lists, is, le, omega arith)
    with_room lists is (inr (unfit, lt)) =
        inr (ap (λ (asked : Option (List (List Access))). first_fits asked room others) is ∙ cond-false (leb (length lists) room) (1 + others (room - length lists)) 0 unfit)

    by_line : (asked : Option (List (List Access))) → lists_in rows line ≡ asked → First rows room line lines
    by_line None is = inr (ap (λ (asked : Option (List (List Access))). first_fits asked room others) is)
    by_line (Some lists) is = with_room lists is (leb_tells (length lists) room)

-- the lines that are counted fit
counted_fit : (rows : Rows) (room : ℕ) (lines : List (List ℕ)) → Fit rows room (take (fitting rows room lines) lines)
counted_fit rows room [] = ([], refl, omega arith)
counted_fit rows room (line ∷ lines) = by_first (first rows room line lines) (λ left. counted_fit rows left lines)
  where
    by_first : First rows room line lines → ((left : ℕ) → Fit rows left (take (fitting rows left lines) lines)) → Fit rows room (take (fitting rows room (line ∷ lines)) (line ∷ lines))
    by_first (inr none) others = subst (λ (n : ℕ). Fit rows room (take n (line ∷ lines))) (sym none) ([], refl, omega arith)
    by_first (inl (lists, is, le, counted)) others =
        let (batches, read, few) = others (room - length lists) in
        subst (λ (n : ℕ). Fit rows room (take n (line ∷ lines))) (sym counted) (
          lists ∷ batches,
          ap₂ (λ (one : Option (List (List Access))) (rest : Option (List (List (List Access)))). option_and_then (λ l. option_map (λ more. l ∷ more) rest) one) is read,
          omega (arith, length-append lists (joined batches)),
        )

-- where so many of the first lines fit, no fewer are counted
fits_counted : (rows : Rows) (room more : ℕ) (lines : List (List ℕ)) → more ≤ length lines → Fit rows room (take more lines) → more ≤ fitting rows room lines
fits_counted rows room zero lines there fit = omega arith
fits_counted rows room (suc more) [] there fit = omega arith
fits_counted rows room (suc more) (line ∷ lines) there (batches, read, few) =
    let (lists, others, is, are, parts) = parts_of_batches (lists_in rows line) (batches_in rows (take more lines)) batches read in
    let all : length (lists ++ joined others) ≤ room = subst (λ (bs : List (List (List Access))). length (joined bs) ≤ room) parts few in
    let le : length lists ≤ room = omega (arith, length-append lists (joined others)) in
    let rest : more ≤ fitting rows (room - length lists) lines =
    fits_counted rows (room - length lists) more lines (omega arith) (others, are, omega (arith, length-append lists (joined others))) in
    let counted : fitting rows room (line ∷ lines) ≡ 1 + fitting rows (room - length lists) lines =
    counts_one (lists_in rows line) room lists (λ left. fitting rows left lines) (is, le) in
    omega arith

-- no more lines are counted than there are
counted_within : (rows : Rows) (room : ℕ) (lines : List (List ℕ)) → fitting rows room lines ≤ length lines
counted_within rows room [] = omega arith
counted_within rows room (line ∷ lines) = by_first (first rows room line lines) (λ left. counted_within rows left lines)
  where
    by_first : First rows room line lines → ((left : ℕ) → fitting rows left lines ≤ length lines) → fitting rows room (line ∷ lines) ≤ length (line ∷ lines)
    by_first (inr none) others = omega arith
    by_first (inl (lists, is, le, counted)) others = let rest : fitting rows (room - length lists) lines ≤ length lines = others (room - length lists) in omega arith

-- a round is what is counted, or one line where that is none
abbrev RoundIs : Rows → List (List ℕ) → Type 0
RoundIs rows lines = ((fitting rows 256 lines ≡ 0) × (round_length rows lines ≡ 1)) ⊎ ((0 < fitting rows 256 lines) × (round_length rows lines ≡ fitting rows 256 lines))

round_is : (rows : Rows) (lines : List (List ℕ)) → RoundIs rows lines
round_is rows lines = of (fitting rows 256 lines)
  where
    of : (n : ℕ) → ((n ≡ 0) × (max 1 n ≡ 1)) ⊎ ((0 < n) × (max 1 n ≡ n))
    of zero = inl (refl, max-eq_left {n = 1} {m = 0} (omega arith))
    of (suc n) = inr (omega arith, max-eq_right {n = 1} {m = suc n} (omega arith))

pub rounds_fit : RoundsFit
rounds_fit rows lines fit = by_count (round_is rows lines)
  where
    by_count : RoundIs rows lines → FitOneRound rows (take (round_length rows lines) lines)
    by_count (inl (none, one)) = subst (λ (n : ℕ). FitOneRound rows (take n lines)) (sym one) fit
    by_count (inr (some, all)) = subst (λ (n : ℕ). FitOneRound rows (take n lines)) (sym all) (counted_fit rows 256 lines)

pub rounds_are_longest : RoundsAreLongest
rounds_are_longest rows lines more there fit =
    let counted : more ≤ fitting rows 256 lines = fits_counted rows 256 more lines there fit in
    by_count (round_is rows lines) counted
  where
    by_count : RoundIs rows lines → more ≤ fitting rows 256 lines → more ≤ round_length rows lines
    by_count (inl (none, one)) le = omega arith
    by_count (inr (some, all)) le = omega arith

pub others_are_alone : OthersAreAlone
others_are_alone rows lines unfit = by_count (round_is rows lines)
  where
    one_of : (lines : List (List ℕ)) → ¬ FitOneRound rows (take 1 lines) → 0 < fitting rows 256 lines → fitting rows 256 lines ≡ 1
    one_of [] none some = omega arith
    one_of (line ∷ rest) none some = by_first (first rows 256 line rest)
      where
        by_first : First rows 256 line rest → fitting rows 256 (line ∷ rest) ≡ 1
        by_first (inr zero_lines) = omega arith
        by_first (inl (lists, is, le, counted)) =
            absurd (none (
              lists ∷ [],
              ap (λ (one : Option (List (List Access))). option_and_then (λ l. option_map (λ more. l ∷ more) (Some [])) one) is,
              omega (arith, length-append lists []),
            ))

    by_count : RoundIs rows lines → round_length rows lines ≡ 1
    by_count (inl (none, one)) = one
    by_count (inr (some, all)) = all ∙ one_of lines unfit some

pub rounds_are_within : RoundsAreWithin
rounds_are_within rows lines some = by_count (round_is rows lines)
  where
    by_count : RoundIs rows lines → (1 ≤ round_length rows lines) × (round_length rows lines ≤ length lines)
    by_count (inl (none, one)) = (omega arith, omega arith)
    by_count (inr (counted, all)) = let within = counted_within rows 256 lines in (omega arith, omega arith)

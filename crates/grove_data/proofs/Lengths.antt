-- How long snapshots and effects are at most.
use Rattle.std.proofs.Common.{◌≡◌, ℕ, suc, ◌+◌, ◌*◌, ◌≤◌, List, [], ◌∷◌, ◌++◌, length, Option}
use Rattle.std.proofs.Common.{refl, sym, ap, arith, append-nil, ◌∙◌}
use Rattle.std.specs.Prelude.{All, ◌==◌, Bool, true, false, cond}
use Rattle.std.specs.List.{flat_map}
use Rattle.std.proofs.lemmas.List.{length-append, length-map}
use Rattle.std.proofs.lemmas.List.Elements.{All-head, All-tail}
use Rattle.grove_effects.specs.Effects.{word, half, change_at, changes_from, changes, change_bytes, effect}
use Rattle.grove_effects.specs.Snapshots.{Names, named_of, names_of, named_bytes, snapshot}
use Rattle.grove_effects.specs.declared.snapshot.NodeName.{NodeName}
use Rattle.grove_effects.proofs.Changes.{changes_none}

-- each change takes 12 bytes
changes_long : (changes : List (ℕ × ℕ)) → length (flat_map change_bytes changes) ≡ 12 * length changes
changes_long [] = refl
changes_long (change ∷ changes) = omega (arith, changes_long changes)

at_most_one : (b : Bool) (change : ℕ × ℕ) → length (cond b [] (change ∷ [])) ≤ 1
at_most_one true change = omega arith
at_most_one false change = omega arith

changes_few : (place : ℕ) (old new : List ℕ) → length (changes_from place old new) ≤ length old
changes_few place [] new = omega arith
changes_few place (before ∷ old) [] = omega arith
changes_few place (before ∷ old) (now ∷ new) =
    omega (
      arith,
      at_most_one (before == now) (place, now),
      changes_few (suc place) old new,
      length-append (change_at place before now) (changes_from (suc place) old new),
    )

pub effect_short : (old new : List ℕ) → length (effect old new) ≤ 12 * length old
unfolding effect
effect_short old new = omega (arith, changes_long (changes old new), changes_few 0 old new)

nothing : (xs : List (ℕ × ℕ)) → length xs ≡ 0 → xs ≡ []
nothing [] none = refl
nothing (x ∷ xs) none = absurd (omega arith)

-- an effect is empty only where nothing changed
unchanged : (old new : List ℕ) → length old ≡ length new → length (effect old new) ≡ 0 → old ≡ new
unfolding effect
unchanged old new long none = changes_none 0 old new long
    (nothing (changes old new) (omega (arith, changes_long (changes old new))))

-- so numbers with an empty effect are the old ones, by whatever name
pub unchanged_numbers : {kept next old new payload : List ℕ} → kept ≡ old → next ≡ new → length new ≡ length old
    → payload ≡ effect kept next → length payload ≡ 0 → new ≡ old
unchanged_numbers {kept} {next} {old} {new} {payload} are_old are_new long is empty =
    let as_long : length kept ≡ length next = omega (arith, ap length are_old, ap length are_new, long) in
    sym are_new ∙ sym (unchanged kept next as_long (sym (ap length is) ∙ empty)) ∙ are_old

-- numbers take 8 bytes
pub words_long : (numbers : List ℕ) → length (flat_map word numbers) ≡ 8 * length numbers
words_long [] = refl
words_long (number ∷ numbers) = omega (arith, words_long numbers)

-- short names take 37 bytes at most, with what stands before them
names_long : (names : Names) → All (λ named. length named.1 ≤ 32) names
    → length (flat_map named_bytes names) ≤ 37 * length names
names_long [] short = omega arith
names_long (named ∷ names) short =
    let P : Option ℕ × List ℕ → Type 0 = λ named. length named.1 ≤ 32 in
    omega (
      arith,
      names_long names (All-tail P named names short),
      All-head P named names short,
      length-append (named_bytes named) (flat_map named_bytes names),
    )

-- the names as a snapshot has them
pub snapshot_names : (names : Names) → half (length names) ++ flat_map named_bytes names ≡ snapshot names []
unfolding snapshot
snapshot_names names = sym (append-nil (half (length names) ++ flat_map named_bytes names))

pub names_short : (names : Names) → All (λ named. length named.1 ≤ 32) names
    → length (snapshot names []) ≤ 37 * length names + 4
names_short names short =
    omega (
      arith,
      ap length (snapshot_names names),
      names_long names short,
      length-append (half (length names)) (flat_map named_bytes names),
    )

-- a snapshot is that of the names alone, with the numbers behind it
pub snapshot_parts : (names : Names) (numbers : List ℕ)
    → snapshot names [] ++ flat_map word numbers ≡ snapshot names numbers
unfolding snapshot
snapshot_parts names numbers = ap (λ (l : List ℕ). l ++ flat_map word numbers)
    (append-nil (half (length names) ++ flat_map named_bytes names))

-- names that were put where nothing stood
pub names_put : (nodes : List NodeName) (out bytes : List ℕ) (names : Names) → out ≡ []
    → bytes ≡ out ++ half (length nodes) ++ flat_map named_bytes (names_of nodes) → names_of nodes ≡ names
    → bytes ≡ snapshot names []
names_put nodes out bytes names none is are =
    is ∙ ap (λ (l : List ℕ). l ++ half (length nodes) ++ flat_map named_bytes (names_of nodes)) none
    ∙ ap (λ (n : ℕ). half n ++ flat_map named_bytes (names_of nodes)) (sym (length-map nodes named_of))
    ∙ snapshot_names (names_of nodes) ∙ ap (λ (n : Names). snapshot n []) are

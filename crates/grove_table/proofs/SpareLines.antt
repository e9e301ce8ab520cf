-- Lines that no tree has room for: planted paths, and why a line is refused.
use Rattle.std.proofs.Common.{◌≡◌, ◌∙◌, ◌<◌, ◌≤◌, ◌+◌, ◌-◌, ℕ, zero, suc, Bool, true, false, List, [], ◌∷◌, ◌++◌}
use Rattle.std.proofs.Common.{length-append, Some, ap, append-nil, arith, bytes_eq, fold, inl, inr, length, map, refl}
use Rattle.std.proofs.Common.{slice_get, string_bytes, subst, sym, take}
use Rattle.std.specs.Prelude.{MatchOption, None, Option, flat_map, is_some}
use Rattle.std.specs.List.{list_any}
use Rattle.std.proofs.lemmas.Bool.{cases_Bool, cases_eq, false_from_ne_true, or_from, cond-false, cond-true}
use Rattle.std.proofs.lemmas.Bool.{or_left, or_right}
use Rattle.std.proofs.lemmas.List.{map-append}
use Rattle.std.proofs.lemmas.List.Concat.{flat_map-append}
use Rattle.std.proofs.lemmas.List.Sums.{fold-append}
use Rattle.std.proofs.lemmas.Option.{same_Some}
use Rattle.std.proofs.lemmas.Slice.Eq.{bytes_eq-Decides}
use Rattle.grove_base.specs.Numbers.{passing_below}
use Rattle.grove_base.proofs.Lists.{take_next}
use Rattle.grove_table.specs.declared.fault.Reason.{Reason}
use Rattle.grove_table.specs.declared.fault.Reason.TheVariants.{NoParent, TwiceNamed}
use Rattle.grove_table.specs.declared.fault.TableFault.{TableFault}
use Rattle.grove_table.specs.declared.fault.TableFault.TheVariants as fault
use Rattle.grove_table.specs.declared.line.Line.{Line}
use Rattle.grove_table.specs.declared.planting.Sprout.{Sprout}
use Rattle.grove_table.specs.declared.tree_making.Absent.{Absent}
use Rattle.grove_table.specs.declared.tree_making.Absent.TheVariants.{Refused}
use Rattle.grove_table.specs.Refusals.{AreLinesRefused, HasPath, IsBeyond, IsLineRefused, IsOrphan, IsRepeated}
use Rattle.grove_table.specs.Refusals.{IsSpare, ends_path, needed, parent_path, paths_to, with_path}
use Rattle.grove_table.specs.Plantings.{IsFullFault, IsNoLinesFault, IsOrphanFault, IsSpareFault, paths_of}
use Rattle.grove_table.specs.Rows.{Tells}

-- ---- paths that are planted

abbrev same_as : List ℕ → List ℕ → Bool
same_as path other = bytes_eq other path

-- none of the nodes has the path
pub none_planted : (sprouts : List Sprout) (path : List ℕ)
    → ((at : ℕ) (sprout : Sprout) → slice_get sprouts at ≡ Some sprout → sprout.path.now ≡ path → ⊥)
    → list_any (same_as path) (paths_of sprouts) ≡ false
none_planted [] path none = refl
none_planted (sprout ∷ sprouts) path none = or_from _ _
    (false_from_ne_true (bytes_eq sprout.path.now path)
    (λ same. none zero sprout refl ((bytes_eq-Decides sprout.path.now path).0 same)))
    (none_planted sprouts path (λ at other is. none (suc at) other is))

-- or one has
pub one_planted : (sprouts : List Sprout) (path : List ℕ) (at : ℕ) (sprout : Sprout)
    → slice_get sprouts at ≡ Some sprout → sprout.path.now ≡ path → list_any (same_as path) (paths_of sprouts) ≡ true
one_planted [] path at sprout is same = absurd (cc)
one_planted (first ∷ sprouts) path zero sprout is same = grind (arith, bytes_eq-Decides, or_left, same_Some)
one_planted (first ∷ sprouts) path (suc at) sprout is same = or_right _ _ (one_planted sprouts path at sprout is same)

pub with_known : (paths : List (List ℕ)) (path : List ℕ) → list_any (same_as path) paths ≡ true
    → with_path paths path ≡ paths
with_known paths path known = cond-true _ _ _ known

pub with_new : (paths : List (List ℕ)) (path : List ℕ) → list_any (same_as path) paths ≡ false
    → with_path paths path ≡ paths ++ path ∷ []
with_new paths path new = cond-false _ _ _ new

-- planting takes none away
with_grows : (paths : List (List ℕ)) (path : List ℕ) → length paths ≤ length (with_path paths path)
with_grows paths path = elim (cases_Bool (list_any (same_as path) paths)) [
  | inl known ↦ omega (arith, ap length (with_known paths path known))
  | inr new ↦
      let e : length (with_path paths path) ≡ length (paths ++ path ∷ []) = ap length (with_new paths path new) in
      omega (arith, e, length-append paths (path ∷ []))
]

-- ---- the paths at and above a line's, one after the other

abbrev pub before : List ℕ → ℕ → List (List ℕ)
before path n = map (λ place. take place path) (passing_below n (ends_path path))

before_yes : (path : List ℕ) (n : ℕ) → ends_path path n ≡ true → before path (suc n) ≡ before path n ++ take n path ∷ []
before_yes path n ends = grind (arith, map-append)

before_no : (path : List ℕ) (n : ℕ) → ends_path path n ≡ false → before path (suc n) ≡ before path n ++ []
before_no path n miss = grind (arith, map-append)

pub planted_next : (paths : List (List ℕ)) (path : List ℕ) (n : ℕ) → ends_path path n ≡ true
    → fold with_path paths (before path (suc n)) ≡ with_path (fold with_path paths (before path n)) (take n path)
planted_next paths path n ends =
    ap (fold with_path paths) (before_yes path n ends) ∙ fold-append with_path paths (before path n) (take n path ∷ [])

pub planted_same : (paths : List (List ℕ)) (path : List ℕ) (n : ℕ) → ends_path path n ≡ false
    → fold with_path paths (before path (suc n)) ≡ fold with_path paths (before path n)
planted_same paths path n miss =
    ap (fold with_path paths) (before_no path n miss) ∙ fold-append with_path paths (before path n) []

step_grows : (paths : List (List ℕ)) (path : List ℕ) (n : ℕ)
    → length (fold with_path paths (before path n)) ≤ length (fold with_path paths (before path (suc n)))
step_grows paths path n = elim (cases_Bool (ends_path path n)) [
  | inl ends ↦
      let e : length (fold with_path paths (before path (suc n)))
      ≡ length (with_path (fold with_path paths (before path n)) (take n path)) =
      ap length (planted_next paths path n ends) in
      omega (arith, e, with_grows (fold with_path paths (before path n)) (take n path))
  | inr miss ↦ omega (arith, ap length (planted_same paths path n miss))
]

pub planting_grows : (paths : List (List ℕ)) (path : List ℕ) (n more : ℕ)
    → length (fold with_path paths (before path n)) ≤ length (fold with_path paths (before path (n + more)))
planting_grows paths path n zero = grind (arith)
planting_grows paths path n (suc more) =
    let e : n + suc more ≡ suc (n + more) = omega arith in
    let here : length (fold with_path paths (before path n)) ≤ length (fold with_path paths (before path (n + more))) =
    planting_grows paths path n more in
    let next : length (fold with_path paths (before path (n + more)))
    ≤ length (fold with_path paths (before path (suc (n + more)))) = step_grows paths path (n + more) in
    subst (λ (m : ℕ). length (fold with_path paths (before path n)) ≤ length (fold with_path paths (before path m)))
    (sym e) (omega (arith, here, next))

pub full_more : (line : Line) (paths more : List (List ℕ)) (fault : TableFault) → IsFullFault line paths fault
    → length paths ≤ length more → IsFullFault line more fault
full_more line paths more fault.Memory is grows = tt
full_more line paths more (fault.Line fault) is grows = (is.0, is.1, is.2, omega (arith, is.3))
full_more line paths more fault.Empty is grows = is
full_more line paths more fault.Unlike is grows = is

-- a line's path with too many comes too early
pub full_at : (line : Line) (paths : List (List ℕ)) (path : List ℕ) (n : ℕ) (fault : TableFault) → n ≤ length path
    → ends_path path n ≡ true → IsFullFault line (with_path (fold with_path paths (before path n)) (take n path)) fault
    → IsFullFault line (fold with_path paths (paths_to path)) fault
full_at line paths path n fault within ends is =
    let e : suc n + (length path - n) ≡ suc (length path) = omega arith in
    let grows : length (fold with_path paths (before path (suc n)))
    ≤ length (fold with_path paths (before path (suc n + (length path - n)))) =
    planting_grows paths path (suc n) (length path - n) in
    full_more line _ (fold with_path paths (paths_to path)) fault
    (subst (λ (found : List (List ℕ)). IsFullFault line found fault) (sym (planted_next paths path n ends)) is)
    (subst (λ (m : ℕ). length (fold with_path paths (before path (suc n)))
    ≤ length (fold with_path paths (before path m)))
    e grows)

-- ---- lines, one after the other

abbrev line_paths : Line → List (List ℕ)
line_paths line = paths_to (string_bytes line.path)

pub needed_more : (lines : List Line) (place : ℕ) (line : Line) → slice_get lines place ≡ Some line
    → needed (take (suc place) lines) ≡ fold with_path (needed (take place lines)) (paths_to (string_bytes line.path))
needed_more lines place line at =
    let more : flat_map line_paths (take (suc place) lines)
    ≡ flat_map line_paths (take place lines) ++ (line_paths line ++ []) =
    ap (flat_map line_paths) (take_next lines place line at)
    ∙ flat_map-append line_paths (take place lines) (line ∷ []) in
    let none : line_paths line ++ [] ≡ line_paths line = append-nil (line_paths line) in
    ap (fold with_path []) (more ∙ ap (λ (paths : List (List ℕ)). flat_map line_paths (take place lines) ++ paths) none)
    ∙ fold-append with_path [] (flat_map line_paths (take place lines)) (line_paths line)

-- a line that was planted is not spare
pub not_spare : (lines : List Line) (place : ℕ) (line : Line) → slice_get lines place ≡ Some line
    → (HasPath (take place lines) (string_bytes line.path) → ⊥) → length (needed (take (suc place) lines)) ≤ 4096
    → IsSpare lines place → ⊥
not_spare lines place line at new few (inl repeated) =
    let same : repeated.0 ≡ line = same_Some repeated.0 line (sym repeated.1 ∙ at) in
    new (subst (λ (l : Line). HasPath (take place lines) (string_bytes l.path)) same repeated.2)
not_spare lines place line at new few (inr beyond) = absurd (omega (arith, few, beyond))

-- one more that isn't
pub none_more : (P : ℕ → Type 0) (place : ℕ) → ((before : ℕ) → before < place → P before → ⊥) → (P place → ⊥)
    → (before : ℕ) → before < suc place → P before → ⊥
none_more P place none here before less is = grind (arith, cases_eq)

-- the first spare line is refused
pub twice_told : (lines : List Line) (place : ℕ) (line : Line) (fault : TableFault) → slice_get lines place ≡ Some line
    → HasPath (take place lines) (string_bytes line.path) → ((before : ℕ) → before < place → IsSpare lines before → ⊥)
    → Tells line.number TwiceNamed (string_bytes line.path) fault → IsSpareFault lines fault
twice_told lines place line fault.Memory at has none tells = tt
twice_told lines place line (fault.Line fault) at has none tells =
    let repeated : IsRepeated lines place = (line, at, has) in
    (place, line, at, tells.0, tells.2, (inl repeated, none), inl (repeated, tells.1))
twice_told lines place line fault.Empty at has none tells = tells
twice_told lines place line fault.Unlike at has none tells = tells

pub full_told : (lines : List Line) (place : ℕ) (line : Line) (fault : TableFault) → slice_get lines place ≡ Some line
    → ((before : ℕ) → before < place → IsSpare lines before → ⊥)
    → IsFullFault line (fold with_path (needed (take place lines)) (paths_to (string_bytes line.path))) fault
    → IsSpareFault lines fault
full_told lines place line fault.Memory at none is = tt
full_told lines place line (fault.Line fault) at none is =
    let beyond : IsBeyond lines place =
    subst (λ (paths : List (List ℕ)). 4096 < length paths) (sym (needed_more lines place line at)) is.3 in
    (place, line, at, is.0, is.2, (inr beyond, none), inr (beyond, is.1))
full_told lines place line fault.Empty at none is = is
full_told lines place line fault.Unlike at none is = is

pub spare_refused : (absent : Absent) (lines : List Line) (fault : TableFault) → IsSpareFault lines fault
    → AreLinesRefused absent lines fault
spare_refused absent lines fault.Memory is = tt
spare_refused absent lines (fault.Line fault) is = (
  is.0,
  is.1,
  is.2,
  is.3,
  elim is.6 [
    | inl repeated ↦
        subst (λ (r : Reason). IsLineRefused absent lines is.0 r (string_bytes is.1.path) (string_bytes fault.about))
        (sym repeated.1) (repeated.0, is.5, is.4)
    | inr beyond ↦
        subst (λ (r : Reason). IsLineRefused absent lines is.0 r (string_bytes is.1.path) (string_bytes fault.about))
        (sym beyond.1) (beyond.0, is.5, is.4)
  ],
)
spare_refused absent lines fault.Empty is = absurd is
spare_refused absent lines fault.Unlike is = absurd is

-- the first orphan, where no line is spare
pub orphan_told : (lines : List Line) (place : ℕ) (line : Line) (fault : TableFault)
    → slice_get lines place ≡ Some line → (HasPath lines (parent_path (string_bytes line.path)) → ⊥)
    → ((before : ℕ) → before < place → IsOrphan lines before → ⊥)
    → Tells line.number NoParent (parent_path (string_bytes line.path)) fault → IsOrphanFault lines fault
orphan_told lines place line fault.Memory at without none tells = tt
orphan_told lines place line (fault.Line fault) at without none tells =
    (place, line, at, tells.0, tells.1, ((line, at, without), none), tells.2)
orphan_told lines place line fault.Empty at without none tells = tells
orphan_told lines place line fault.Unlike at without none tells = tells

pub not_orphan : (lines : List Line) (place : ℕ) (line : Line) → slice_get lines place ≡ Some line
    → HasPath lines (parent_path (string_bytes line.path)) → IsOrphan lines place → ⊥
not_orphan lines place line at has orphan =
    let same : line ≡ orphan.0 = same_Some line orphan.0 (sym at ∙ orphan.1) in
    orphan.2 (subst (λ (l : Line). HasPath lines (parent_path (string_bytes l.path))) same has)

pub orphan_refused : (absent : Absent) (lines : List Line) (fault : TableFault) → absent ≡ Refused
    → ((other : ℕ) → other < length lines → IsSpare lines other → ⊥) → IsOrphanFault lines fault
    → AreLinesRefused absent lines fault
orphan_refused absent lines fault.Memory refuses none is = tt
orphan_refused absent lines (fault.Line fault) refuses none is = (
  is.0,
  is.1,
  is.2,
  is.3,
  subst (λ (r : Reason). IsLineRefused absent lines is.0 r (string_bytes is.1.path) (string_bytes fault.about))
      (sym is.4) (refuses, is.5, is.6, none),
)
orphan_refused absent lines fault.Empty refuses none is = absurd is
orphan_refused absent lines fault.Unlike refuses none is = absurd is

-- a line that has the path, and lines of which none has
pub one_has : (lines : List Line) (path : List ℕ) (place : ℕ) (line : Line) → slice_get lines place ≡ Some line
    → string_bytes line.path ≡ path → HasPath lines path
one_has lines path place line at same = (place, line, at, same)

-- whether a line was found
pub was_found : (found : Option ℕ) (P : Type 0) → MatchOption found (P → ⊥) (λ _. P) → is_some found ≡ true → P
was_found (Some place) P told is = told
was_found None P told is = absurd (cc)

pub was_not_found : (found : Option ℕ) (P : Type 0) → MatchOption found (P → ⊥) (λ _. P) → is_some found ≡ false → P → ⊥
was_not_found (Some place) P told is = absurd (cc)
was_not_found None P told is = told

-- faults that no line is to blame for
pub memory_fault : (why : TableFault) → why ≡ fault.Memory → IsNoLinesFault why
memory_fault why e = subst IsNoLinesFault (sym e) tt

pub inner_refused : (absent : Absent) (lines : List Line) (fault : TableFault) → IsNoLinesFault fault
    → AreLinesRefused absent lines fault
inner_refused absent lines fault.Memory is = tt
inner_refused absent lines fault.Unlike is = tt
inner_refused absent lines (fault.Line fault) is = absurd is
inner_refused absent lines fault.Empty is = absurd is

-- Rows have no fault exactly where they are the rows of a tree within the limits.
use Rattle.std.proofs.Common.{◌≡◌, ◌≢◌, ℕ, zero, suc, ◌<◌, ◌≤◌, ◌==◌, Bool, true, false, not, if◌then◌else◌, [], length}
use Rattle.std.proofs.Common.{Option, Some, None, refl, sym, ◌∙◌, ap, inl, inr, true≢false, arith}
use Rattle.std.specs.Option.{is_none, is_some, option_and_then, option_map, unwrap_or, option_or}
use Rattle.std.specs.Prelude.{nat_lt}
use Rattle.std.proofs.lemmas.Option.{none-some, slice_get_past}
use Rattle.std.proofs.lemmas.Bool.{cases_lt, cases_order, leb-true, ltb-false, le-ltb, le-leb, ne_eqb, and_parts, false_from_ne_true}
use Rattle.std.proofs.lemmas.Slice.Eq.{bytes_eq-Decides}
use Rattle.grove_base.specs.Numbers.{any_below}
use Rattle.grove_tree.specs.Trees.{Rows, NodeRow, parent_of, name_of, weight_of, depth_of, IsTree}
use Rattle.grove_tree.specs.declared.fault.TreeFault.{TreeFault}
use Rattle.grove_tree.specs.declared.fault.TreeFault.TheVariants.{Empty, TooMany, BadParent, TooDeep, BadName, TwiceNamed, BadWeight, Memory}
use Rattle.grove_tree.specs.Rules.{is_well_placed, is_on_the_way, is_well_named, share_parent, is_twin, is_weight, row_fault, rows_fault, tree_fault_of, IsWithinLimits, AreTreeRows}
use Rattle.grove_base.proofs.Counting.{any_false, any_none}
use Rattle.grove_tree.proofs.Depths.{depth_root}
use Rattle.grove_tree.proofs.Above.{parent_within}
use Rattle.grove_tree.proofs.Tests.{is_at_true, is_at_from, is_above_from}
use Rattle.grove_tree.proofs.RowTests.{placed_way}
use Rattle.grove_base.proofs.Lists.{none_found}

-- a row that breaks no rule
pub record IsRuled (rows : Rows) (row : ℕ) : Type 0 where
  pub placed : is_well_placed rows row ≡ true
  pub shallow : nat_lt 32 (depth_of rows row) ≡ false
  pub named : is_well_named rows row ≡ true
  pub alone : any_below row (is_twin rows row) ≡ false
  pub weighed : is_weight (weight_of rows row) ≡ true

no_fault : (f : TreeFault) → Some f ≡ None → ⊥
no_fault f h = none-some f (sym h)

chain_none : (a b c d e : Bool) (f g h i j : TreeFault)
    → (if not a then Some f else if b then Some g else if not c then Some h else if d then Some i else if not e then Some j else None) ≡ None
    → (a ≡ true) × (b ≡ false) × (c ≡ true) × (d ≡ false) × (e ≡ true)
chain_none true false true false true f g h i j k = (refl, refl, refl, refl, refl)
chain_none true false true false false f g h i j k = absurd (no_fault j k)
chain_none true false true true e f g h i j k = absurd (no_fault i k)
chain_none true false false d e f g h i j k = absurd (no_fault h k)
chain_none true true c d e f g h i j k = absurd (no_fault g k)
chain_none false b c d e f g h i j k = absurd (no_fault f k)

-- a row without a fault breaks no rule
pub row_ruled : (rows : Rows) (row : ℕ) → row_fault rows row ≡ None → IsRuled rows row
row_ruled rows row h = grind (arith, chain_none)

first_none : (rows : Rows) (row : ℕ) (o : Option TreeFault) → option_or o (row_fault rows row) ≡ None → (o ≡ None) × (row_fault rows row ≡ None)
first_none rows row None h = (refl, h)
first_none rows row (Some fault) h = absurd (no_fault fault h)

-- and so do rows without a fault
pub rows_ruled : (rows : Rows) (n : ℕ) → rows_fault rows n ≡ None → (row : ℕ) → row < n → IsRuled rows row
rows_ruled rows zero h row lt = absurd (omega arith)
rows_ruled rows (suc n) h row lt =
    let (before, here) = first_none rows n (rows_fault rows n) h in
    elim (cases_lt row n) [
      | inl lower ↦ rows_ruled rows n before row lower
      | inr last ↦ let e : row ≡ n = omega arith in rw e (row_ruled rows n here)
    ]

-- the first fault of some rows is the first fault of more
pub fault_stays : (rows : Rows) (n m : ℕ) (fault : TreeFault) → n ≤ m → rows_fault rows n ≡ Some fault → rows_fault rows m ≡ Some fault
fault_stays rows n zero fault le h = let e : n ≡ zero = omega arith in rw e at h
fault_stays rows n (suc m) fault le h = elim (cases_lt m n) [
  | inl last ↦ let e : n ≡ suc m = omega arith in rw e at h
  | inr before ↦ ap (λ (o : Option TreeFault). option_or o (row_fault rows m)) (fault_stays rows n m fault before h)
]

-- the first fault, found at a row
pub fault_found : (rows : Rows) (n m : ℕ) (o : Option TreeFault) → n < m → rows_fault rows n ≡ None → o ≡ row_fault rows n → is_some o ≡ true → o ≡ rows_fault rows m
fault_found rows n m None lt none is some = absurd (cc)
fault_found rows n m (Some fault) lt none is some =
    let here : rows_fault rows (suc n) ≡ Some fault = ap (λ (o : Option TreeFault). option_or o (row_fault rows n)) none ∙ sym is in
    sym (fault_stays rows (suc n) m fault (omega arith) here)

-- none is found at a row
pub fault_not_found : (rows : Rows) (n : ℕ) (o : Option TreeFault) → rows_fault rows n ≡ None → o ≡ row_fault rows n → is_some o ≡ false → rows_fault rows (suc n) ≡ None
fault_not_found rows n None none is some = ap (λ (o : Option TreeFault). option_or o (row_fault rows n)) none ∙ sym is
fault_not_found rows n (Some fault) none is some = absurd (cc)

tree_none : (a b : Bool) (o : Option TreeFault) → (if a then Some Empty else if b then Some TooMany else o) ≡ None → (a ≡ false) × (b ≡ false) × (o ≡ None)
tree_none false false o h = (refl, refl, h)
tree_none false true o h = absurd (no_fault TooMany h)
tree_none true b o h = absurd (no_fault Empty h)

on_the_way_parent : (rows : Rows) (before : ℕ) (o : Option ℕ) → is_on_the_way rows before o ≡ true → (parent : ℕ) × (o ≡ Some parent)
on_the_way_parent rows before None h = absurd (cc)
on_the_way_parent rows before (Some parent) h = (parent, refl)

some_row : (n : ℕ) → (n == 0) ≡ false → 0 < n
some_row zero h = absurd (true≢false h)
some_row (suc n) h = omega arith

-- rows without a fault are those of a tree
pub faultless_tree : (rows : Rows) → tree_fault_of rows ≡ None → IsTree rows
faultless_tree rows h =
    let (some, few, none) = tree_none (length rows == 0) (nat_lt 4096 (length rows)) (rows_fault rows (length rows)) h in
    let ruled : (row : ℕ) → row < length rows → IsRuled rows row = rows_ruled rows (length rows) none in
    let lt : 0 < length rows = some_row (length rows) some in
    record {
      some = lt;
      root = none_found (parent_of rows 0) (ruled 0 lt).placed;
      preorder = λ node within.
          let (parent, own) = on_the_way_parent rows node (parent_of rows (suc node)) (ruled (suc node) within).placed in
          (parent, own, placed_way rows node parent (ruled (suc node) within).placed own);
    }

past_depth : (rows : Rows) (node : ℕ) → length rows ≤ node → depth_of rows node ≡ 0
past_depth rows node past = depth_root rows node (ap (λ (o : Option NodeRow). option_and_then (λ (r : NodeRow). r.parent) o) (slice_get_past rows node past))

past_weight : (rows : Rows) (node : ℕ) → length rows ≤ node → weight_of rows node ≡ 0
past_weight rows node past = ap (λ (o : Option NodeRow). unwrap_or (option_map (λ (r : NodeRow). r.weight) o) 0) (slice_get_past rows node past)

-- a row that isn't alone has a twin
twins : (rows : Rows) (first second parent : ℕ) → first < second → parent_of rows first ≡ Some parent → parent_of rows second ≡ Some parent
    → name_of rows first ≡ name_of rows second → is_twin rows second first ≡ true
twins rows first second parent lt one two same = grind (arith, bytes_eq-Decides, is_at_from)

not_twins : (rows : Rows) (n : ℕ) → ((row : ℕ) → row < n → IsRuled rows row) → n ≡ length rows → (first second parent : ℕ) → first < second
    → parent_of rows first ≡ Some parent → parent_of rows second ≡ Some parent → name_of rows first ≡ name_of rows second → ⊥
not_twins rows n ruled e first second parent lt one two same =
    let within : second < length rows = parent_within rows second parent two in
    true≢false (sym (twins rows first second parent lt one two same) ∙ any_false second (is_twin rows second) (ruled second (omega arith)).alone first lt)

-- and they are within the limits
pub faultless_within : (rows : Rows) → tree_fault_of rows ≡ None → IsWithinLimits rows
faultless_within rows h =
    let (some, few, none) = tree_none (length rows == 0) (nat_lt 4096 (length rows)) (rows_fault rows (length rows)) h in
    let ruled : (row : ℕ) → row < length rows → IsRuled rows row = rows_ruled rows (length rows) none in
    let lt : 0 < length rows = some_row (length rows) some in
    record {
      few = ltb-false 4096 (length rows) few;
      shallow = grind (arith, cases_lt, ltb-false, past_depth);
      unnamed_root = (bytes_eq-Decides (name_of rows 0) []).0 (ruled 0 lt).named;
      names = λ node within. (ruled (suc node) within).named;
      differ = λ first second parent one two same. elim (cases_order first second) [
        | inl here ↦ here
        | inr other ↦ elim other [
          | inl before ↦ absurd (not_twins rows (length rows) ruled refl first second parent before one two same)
          | inr after ↦ absurd (not_twins rows (length rows) ruled refl second first parent after two one (sym same))
        ]
      ];
      weighty = grind (arith, and_parts, leb-true);
      light = grind (arith, and_parts, cases_lt, leb-true, past_weight);
    }

-- The other way round: the rows of a tree within the limits have no fault.

placed_fits : (rows : Rows) (row : ℕ) → IsTree rows → row < length rows → is_well_placed rows row ≡ true
placed_fits rows zero tree within = ap is_none tree.root
placed_fits rows (suc before) tree within =
    let (parent, own, above) = tree.preorder before within in
    ap (is_on_the_way rows before) own ∙ is_above_from rows parent before tree above

named_fits : (rows : Rows) (row : ℕ) → IsWithinLimits rows → row < length rows → is_well_named rows row ≡ true
named_fits rows zero limits within = (bytes_eq-Decides (name_of rows 0) []).1 limits.unnamed_root
named_fits rows (suc before) limits within = limits.names before within

pub shared_parent : (own other : Option ℕ) → share_parent own other ≡ true
    → (parent : ℕ) × (own ≡ Some parent) × (other ≡ Some parent)
shared_parent None other h = absurd (cc)
shared_parent (Some parent) other h = (parent, refl, is_at_true parent other h)

-- no earlier row is a twin
alone_fits : (rows : Rows) (row : ℕ) → IsWithinLimits rows → any_below row (is_twin rows row) ≡ false
alone_fits rows row limits = grind (arith, and_parts, any_none, bytes_eq-Decides, false_from_ne_true, shared_parent)

weight_fits : (rows : Rows) (row : ℕ) → IsWithinLimits rows → row < length rows → is_weight (weight_of rows row) ≡ true
weight_fits rows row limits within = grind (arith, le-leb)

no_row_fault : (a b c d e : Bool) (f g h i j : TreeFault) → a ≡ true → b ≡ false → c ≡ true → d ≡ false → e ≡ true
    → (if not a then Some f else if b then Some g else if not c then Some h else if d then Some i else if not e then Some j else None) ≡ None
no_row_fault a b c d e f g h i j placed shallow named alone weighed = rw (placed, shallow, named, alone, weighed) refl

row_fits : (rows : Rows) (row : ℕ) → AreTreeRows rows → row < length rows → row_fault rows row ≡ None
row_fits rows row (tree, limits) within =
    grind (arith, alone_fits, le-ltb, named_fits, no_row_fault, placed_fits, weight_fits)

rows_fit : (rows : Rows) (n : ℕ) → AreTreeRows rows → n ≤ length rows → rows_fault rows n ≡ None
rows_fit rows zero fit le = refl
rows_fit rows (suc n) fit le = ap (λ (o : Option TreeFault). option_or o (row_fault rows n)) (rows_fit rows n fit (omega arith)) ∙ row_fits rows n fit (omega arith)

no_tree_fault : (a b : Bool) (o : Option TreeFault) → a ≡ false → b ≡ false → (if a then Some Empty else if b then Some TooMany else o) ≡ o
no_tree_fault a b o some few = rw (some, few) refl

tree_faultless : (rows : Rows) → AreTreeRows rows → tree_fault_of rows ≡ None
tree_faultless rows (tree, limits) = grind (arith, le-ltb, ne_eqb, no_tree_fault, rows_fit)

-- so rows with a fault are those of no tree
pub faulty_refused : (rows : Rows) (fault : TreeFault) → tree_fault_of rows ≡ Some fault → ¬ AreTreeRows rows
faulty_refused rows fault found = λ fit. none-some fault (sym (tree_faultless rows fit) ∙ found)

-- Out of memory is no fault of rows.

no_rule_is_memory : (a b c d e : Bool) (row : ℕ)
    → (if not a then Some (BadParent row) else if b then Some (TooDeep row) else if not c then Some (BadName row) else if d then Some (TwiceNamed row)
    else if not e then Some (BadWeight row) else None) ≡ Some Memory → ⊥
no_rule_is_memory true false true false true row h = absurd (cc)
no_rule_is_memory true false true false false row h = absurd (cc)
no_rule_is_memory true false true true e row h = absurd (cc)
no_rule_is_memory true false false d e row h = absurd (cc)
no_rule_is_memory true true c d e row h = absurd (cc)
no_rule_is_memory false b c d e row h = absurd (cc)

no_first_is_memory : (rows : Rows) (row : ℕ) (o : Option TreeFault) → o ≢ Some Memory → option_or o (row_fault rows row) ≡ Some Memory → ⊥
no_first_is_memory rows row None before h = grind (arith, no_rule_is_memory)
no_first_is_memory rows row (Some fault) before h = before h

no_row_is_memory : (rows : Rows) (n : ℕ) → rows_fault rows n ≢ Some Memory
no_row_is_memory rows zero = λ h. none-some Memory h
no_row_is_memory rows (suc n) = no_first_is_memory rows n (rows_fault rows n) (no_row_is_memory rows n)

no_tree_is_memory : (a b : Bool) (o : Option TreeFault) → o ≢ Some Memory → (if a then Some Empty else if b then Some TooMany else o) ≡ Some Memory → ⊥
no_tree_is_memory false false o other h = other h
no_tree_is_memory false true o other h = absurd (cc)
no_tree_is_memory true b o other h = absurd (cc)

-- no fault of rows is out of memory
pub fault_not_memory : (rows : Rows) → tree_fault_of rows ≢ Some Memory
fault_not_memory rows = no_tree_is_memory (length rows == 0) (nat_lt 4096 (length rows)) (rows_fault rows (length rows)) (no_row_is_memory rows (length rows))

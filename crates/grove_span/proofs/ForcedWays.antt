-- The forced nodes are those on the ways down from the top to the accessed nodes.
use Rattle.std.proofs.Common.{◌≡◌, ℕ, zero, suc, ◌<◌, ◌≤◌, true, false, List, [], ◌∷◌, ◌++◌, length, slice_get}
use Rattle.std.proofs.Common.{Some, refl, ◌∙◌, ap, subst, inl, inr, arith}
use Rattle.std.specs.Option.{option_and_then}
use Rattle.std.proofs.lemmas.Option.{none-some, same_Some, slice_get_within}
use Rattle.std.proofs.lemmas.Bool.{cases_eq, cases_lt, cases_Bool}
use Rattle.grove_tree.specs.Trees.{Rows, IsTree, IsAbove, parent_of, weight_of}
use Rattle.grove_tree.proofs.Above.{above_self, above_le, above_trans, above_either, above_step, above_between, parent_above, parent_lt}
use Rattle.grove_access.specs.Lists.{AreNodes}
use Rattle.grove_access.specs.Forced.{IsForcedByTree, is_forced}
use Rattle.grove_access.proofs.ForcedByTree.{forced_got, forced_get}
use Rattle.grove_span.specs.declared.row.SpanRow.{SpanRow}
use Rattle.grove_span.specs.SpanRows.{find_place, IsAccessedSo}
use Rattle.grove_span.specs.Ways.{IsLowestCommon, AreAscending, AreForcedTo, IsFirstFrom, IsUnnamed, IsListedTo}
use Rattle.grove_span.specs.Ways.{IsNextOnWay}
use Rattle.grove_span.proofs.ForcedRows.{list_hit, list_miss}
use Rattle.grove_base.proofs.Counting.{passing_few}

-- a node that isn't forced fails the test
unforced : (rows : Rows) (nodes : List ℕ) → IsTree rows → AreNodes rows nodes → (node : ℕ)
    → (IsForcedByTree rows nodes node → ⊥) → is_forced rows nodes node ≡ false
unforced rows nodes tree fits node other = grind (arith, cases_Bool, forced_got)

-- more nodes, none of which is forced
pub list_misses : (rows : Rows) (nodes lengths : List ℕ) → IsTree rows → AreNodes rows nodes
    → (low high : ℕ) (numbers : List ℕ) (items : List SpanRow) → low ≤ high
    → ((node : ℕ) → low ≤ node → node < high → IsForcedByTree rows nodes node → ⊥)
    → IsListedTo rows nodes lengths low numbers items → IsListedTo rows nodes lengths high numbers items
list_misses rows nodes lengths tree fits low zero numbers items le none so_far = grind (arith)
list_misses rows nodes lengths tree fits low (suc high) numbers items le none so_far = elim (cases_eq low (suc high)) [
  | inl e ↦ subst (λ (n : ℕ). IsListedTo rows nodes lengths n numbers items) e so_far
  | inr ne ↦ list_miss rows nodes lengths high numbers items
      (unforced rows nodes tree fits high (none high (omega arith) (omega arith)))
      (list_misses rows nodes lengths tree fits low high numbers items (omega arith)
      (λ node from to. none node from (omega arith)) so_far)
]

-- The way to a target, from its parents on

-- a parent is on the way too
pub way_up : (rows : Rows) (nodes lengths : List ℕ) (next target node parent : ℕ) (numbers : List ℕ) (items : List SpanRow)
    → parent_of rows node ≡ Some parent → next ≤ parent → IsNextOnWay rows nodes lengths next target node numbers items
    → IsNextOnWay rows nodes lengths next target parent numbers items
way_up rows nodes lengths next target node parent numbers items own le way = record {
  within = way.within;
  above = above_trans rows parent node target (parent_above rows node parent own) way.above;
  ahead = le;
  first = way.first;
  forced = way.forced;
  listed = way.listed;
}

-- and once it is listed, its child is next
pub way_back : (rows : Rows) (nodes lengths : List ℕ) (next after target node parent : ℕ) (numbers more : List ℕ)
    (items grown : List SpanRow) → IsTree rows → parent_of rows node ≡ Some parent → next ≤ parent
    → after ≡ suc parent → IsNextOnWay rows nodes lengths next target node numbers items
    → IsListedTo rows nodes lengths after more grown → IsNextOnWay rows nodes lengths after target node more grown
way_back rows nodes lengths next after target node parent numbers more items grown tree own le end way listed =
    let less : parent < node = parent_lt rows tree node parent own in
    record {
      within = way.within;
      above = way.above;
      ahead = omega arith;
      first = λ access other named from. way.first access other named (omega arith);
      forced = λ other from to. way.forced other (omega arith) to;
      listed = listed;
    }

-- a node on the way that isn't the target isn't accessed
pub unnamed_before : (rows : Rows) (nodes lengths : List ℕ) (next target node : ℕ) (numbers : List ℕ)
    (items : List SpanRow) → IsTree rows → (node ≡ target → ⊥)
    → IsNextOnWay rows nodes lengths next target node numbers items → IsUnnamed nodes node
unnamed_before rows nodes lengths next target node numbers items tree other way access named =
    let most : node ≤ target = above_le rows tree node target way.above in
    grind (arith)

pub numbers_few : (rows : Rows) (nodes lengths : List ℕ) (next target node : ℕ) (numbers : List ℕ)
    (items : List SpanRow) → IsTree rows → length rows ≤ 4096
    → IsNextOnWay rows nodes lengths next target node numbers items → length numbers ≤ 4096
numbers_few rows nodes lengths next target node numbers items tree few way =
    omega (
      arith,
      passing_few next (is_forced rows nodes),
      above_le rows tree node target way.above,
      way.ahead,
      way.within,
      ap length way.listed.counted,
    )

-- between the last number and a node on the way whose parent is listed none is forced
none_before : (rows : Rows) (nodes lengths : List ℕ) (next target node : ℕ) (numbers : List ℕ) (items : List SpanRow)
    → IsTree rows → ((parent : ℕ) → parent_of rows node ≡ Some parent → parent < next)
    → IsNextOnWay rows nodes lengths next target node numbers items
    → (other : ℕ) → next ≤ other → other < node → IsForcedByTree rows nodes other → ⊥
none_before rows nodes lengths next target node numbers items tree listed way other from to forced =
    let most : node ≤ target = above_le rows tree node target way.above in
    let over = (way.forced other from (omega arith)).0 forced in
    elim (above_either rows other node target over way.above) [
      | inr lower ↦ let le : node ≤ other = above_le rows tree node other lower in omega arith
      | inl higher ↦ elim (above_step rows other node higher) [
        | inl same ↦ omega arith
        | inr further ↦
            let (parent, own, up) = further in
            omega (arith, above_le rows tree other parent up, listed parent own)
      ]
    ]

-- so the node is listed next
pub way_lists : (rows : Rows) (nodes lengths : List ℕ) (next after target node : ℕ) (numbers more : List ℕ)
    (items grown : List SpanRow) (row : SpanRow) → IsTree rows → AreNodes rows nodes
    → ((parent : ℕ) → parent_of rows node ≡ Some parent → parent < next)
    → row.node ≡ node → row.weight ≡ weight_of rows node
    → row.parent ≡ option_and_then (λ p. find_place p numbers) (parent_of rows node)
    → IsAccessedSo nodes lengths row → after ≡ suc row.node → more ≡ numbers ++ row.node ∷ []
    → grown ≡ items ++ row ∷ [] → IsNextOnWay rows nodes lengths next target node numbers items
    → IsListedTo rows nodes lengths after more grown
way_lists rows nodes lengths next after target node numbers more items grown row tree fits listed is heavy parent
    visited past_it counted grows way =
    let most : node ≤ target = above_le rows tree node target way.above in
    let inside : target < length rows = way.within in
    let hit : is_forced rows nodes node ≡ true =
    forced_get rows nodes node tree ((way.forced node way.ahead most).1 way.above) in
    let end : after ≡ suc node = past_it ∙ ap suc is in
    let same : more ≡ numbers ++ node ∷ [] = counted ∙ ap (λ (v : ℕ). numbers ++ v ∷ []) is in
    rw (end, same, grows) (list_hit rows nodes lengths node numbers items row tree (omega arith) hit is heavy parent
    visited (list_misses rows nodes lengths tree fits next node numbers items way.ahead
    (none_before rows nodes lengths next target node numbers items tree listed way) way.listed))

-- The targets, one after the other

-- a node that was looked at and those before it
past_next : (nodes : List ℕ) (i node next : ℕ) → slice_get nodes i ≡ Some node → node < next
    → ((j other : ℕ) → j < i → slice_get nodes j ≡ Some other → other < next)
    → (j other : ℕ) → j < suc i → slice_get nodes j ≡ Some other → other < next
past_next nodes i node next at lt before j other less is = grind (arith, cases_eq, same_Some)

-- the rows so far, when i targets were looked at
pub record IsSpannedTo (rows : Rows) (nodes lengths targets : List ℕ) (top i next : ℕ) (numbers : List ℕ)
    (items : List SpanRow) : Type 0 where
  pub listed : IsListedTo rows nodes lengths next numbers items
  pub from : top ≤ next
  pub within : next ≤ length rows
  pub past : (j target : ℕ) → j < i → slice_get targets j ≡ Some target → target < next

-- above the top nothing is forced
pub span_begins : (rows : Rows) (nodes lengths targets : List ℕ) (top : ℕ) (numbers : List ℕ) (items : List SpanRow)
    → IsTree rows → AreNodes rows nodes → IsLowestCommon rows nodes top → top < length rows
    → items ≡ [] → numbers ≡ [] → IsSpannedTo rows nodes lengths targets top 0 top numbers items
span_begins rows nodes lengths targets top numbers items tree fits lowest within none unplaced = record {
  listed = list_misses rows nodes lengths tree fits 0 top numbers items (omega arith)
      (λ node from to forced. omega (arith, above_le rows tree top node (forced.below top lowest.common)))
      (rw (none, unplaced) (record {
        counted = refl;
        listed = refl;
        parents = λ i row at. absurd (none-some row at);
        weights = λ i row at. absurd (none-some row at);
        accesses = λ i row at. absurd (none-some row at);
      }));
  from = omega arith;
  within = omega arith;
  past = λ j target lt at. absurd (omega arith);
}

-- up to the next target no node is accessed
first_from : (rows : Rows) (nodes lengths targets : List ℕ) (top i next target : ℕ) (numbers : List ℕ)
    (items : List SpanRow) → AreAscending nodes targets → slice_get targets i ≡ Some target
    → IsSpannedTo rows nodes lengths targets top i next numbers items → IsFirstFrom nodes next target
first_from rows nodes lengths targets top i next target numbers items ascending at so_far access node named from =
    grind (arith, cases_lt)

-- and just the nodes above it are forced
forced_to : (rows : Rows) (nodes lengths targets : List ℕ) (top i next target : ℕ) (numbers : List ℕ)
    (items : List SpanRow) → IsTree rows → AreNodes rows nodes → IsLowestCommon rows nodes top
    → AreAscending nodes targets → slice_get targets i ≡ Some target
    → IsSpannedTo rows nodes lengths targets top i next numbers items → AreForcedTo rows nodes next target
forced_to rows nodes lengths targets top i next target numbers items tree fits lowest ascending at so_far node from to =
    let (access, named) = ascending.named i target at in
    let first : top ≤ next = so_far.from in (
      λ forced.
          let low : node ≤ forced.target = above_le rows tree node forced.target forced.covers in
          let later = first_from rows nodes lengths targets top i next target numbers items ascending at so_far
          forced.access forced.target forced.names (omega arith) in
          above_between rows tree node forced.target target
          (fits forced.access forced.target forced.names) forced.covers to later,
      λ above.
          let over : IsAbove rows top node = elim
          (above_either rows top node target (lowest.common access target named) above) [
            | inl higher ↦ higher
            | inr lower ↦
                let le : node ≤ top = above_le rows tree node top lower in
                grind (arith, above_self)
          ] in
          record {
            access = access;
            target = target;
            names = named;
            covers = above;
            below = λ common is. above_trans rows common top node (lowest.lowest common is) over;
          },
    )

-- so a target that isn't listed yet is the next one
pub next_target : (rows : Rows) (nodes lengths targets : List ℕ) (top i next target : ℕ) (numbers : List ℕ)
    (items : List SpanRow) → IsTree rows → AreNodes rows nodes → IsLowestCommon rows nodes top
    → AreAscending nodes targets → slice_get targets i ≡ Some target → next ≤ target
    → IsSpannedTo rows nodes lengths targets top i next numbers items
    → IsNextOnWay rows nodes lengths next target target numbers items
next_target rows nodes lengths targets top i next target numbers items tree fits lowest ascending at ahead so_far =
    let (access, named) = ascending.named i target at in record {
      within = fits access target named;
      above = above_self rows target;
      ahead = ahead;
      first = first_from rows nodes lengths targets top i next target numbers items ascending at so_far;
      forced = forced_to rows nodes lengths targets top i next target numbers items tree fits lowest ascending at
          so_far;
      listed = so_far.listed;
    }

-- a target whose way was listed
pub span_next : (rows : Rows) (nodes lengths targets : List ℕ) (top i next target : ℕ) (numbers more : List ℕ)
    (items grown : List SpanRow) → slice_get targets i ≡ Some target → target < length rows → next ≤ target
    → IsListedTo rows nodes lengths (suc target) more grown
    → IsSpannedTo rows nodes lengths targets top i next numbers items
    → IsSpannedTo rows nodes lengths targets top (suc i) (suc target) more grown
span_next rows nodes lengths targets top i next target numbers more items grown at within le listed so_far =
    grind (arith, past_next)

-- a target that was listed on the way to another
pub span_skips : (rows : Rows) (nodes lengths targets : List ℕ) (top i next target : ℕ) (numbers : List ℕ)
    (items : List SpanRow) → slice_get targets i ≡ Some target → target < next
    → IsSpannedTo rows nodes lengths targets top i next numbers items
    → IsSpannedTo rows nodes lengths targets top (suc i) next numbers items
span_skips rows nodes lengths targets top i next target numbers items at lt so_far = grind (arith, past_next)

-- after all targets no more nodes are forced
pub span_ends : (rows : Rows) (nodes lengths targets : List ℕ) (top i next : ℕ) (numbers : List ℕ)
    (items : List SpanRow) → IsTree rows → AreNodes rows nodes → AreAscending nodes targets → length targets ≤ i
    → IsSpannedTo rows nodes lengths targets top i next numbers items
    → IsListedTo rows nodes lengths (length rows) numbers items
span_ends rows nodes lengths targets top i next numbers items tree fits ascending all so_far =
    list_misses rows nodes lengths tree fits next (length rows) numbers items so_far.within (λ node from to forced.
    let (j, there) = ascending.all forced.access forced.target forced.names in
    let lt : j < length targets = slice_get_within targets j forced.target there in
    omega (
      arith,
      so_far.past j forced.target (omega arith) there,
      above_le rows tree node forced.target forced.covers,
    )) so_far.listed

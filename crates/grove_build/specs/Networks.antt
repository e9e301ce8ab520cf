-- For the proofs alone: the network of a list's nodes: for each row the arcs that it has, by their kinds, with what is sent
-- along them as the rows of a flow; and what each lock and each release has, in the rows' order.
use Rattle.std.specs.Prelude.{◌≡◌, ℕ, ◌<◌, ◌≤◌, length, slice_get, map, flat_map, ◌+◌, ◌*◌, suc, List, [], ◌∷◌, ◌++◌}
use Rattle.std.specs.Prelude.{slice_index, Option, Some, None, ℤ, pos, neg_ℤ, int_lt, if◌then◌else◌}
use Rattle.std.specs.List.{AllZip}
use Rattle.grove_tree.specs.Trees.{Rows, weight_of, IsTree}
use Rattle.grove_access.specs.Lists.{AreNodes}
use Rattle.grove_access.specs.ListFaults.{AreLengths}
use Rattle.grove_access.specs.Slots.{slots_before}
use Rattle.grove_access.specs.Forced.{forced_nodes}
use Rattle.grove_proof.specs.declared.flow.FlowRow.{FlowRow}
use Rattle.grove_span.specs.declared.row.SpanRow.{SpanRow}
use Rattle.grove_span.specs.SpanRows.{node_of_row, HaveParents, HaveAccesses}
use Rattle.grove_build.specs.declared.kinds.Kind.{Kind}
use Rattle.grove_build.specs.declared.kinds.Kind.TheVariants.{Above, Held, First, Last, Own}
use Rattle.grove_flow.specs.declared.network.Arc.{Arc}
use Rattle.grove_flow.specs.Networks.{IsLatest, place}
use Rattle.grove_flow.specs.Flows.{IsSolution}

abbrev pub arc : ℕ → ℕ → ℤ → Arc
arc from to least = record { from = from; to = to; least = least }

-- where a row has an arc, the number of its parent, or of the slots before what bounds it
abbrev pub bound : SpanRow → Kind → Option ℕ
bound row Above = row.parent
bound row Held = row.parent
bound row First = row.from
bound row Last = row.until
bound row Own = Some 0

-- The arc of the row at place k. The parent is locked no later than the node, and not released before the node is
-- locked. The node is locked before the slots of its first access, and not released before those of its last are over.
abbrev pub arc_to : ℕ → ℕ → Kind → ℕ → Arc
arc_to base k Above parent = arc (2 * parent) (2 * k) (pos 0)
arc_to base k Held parent = arc (2 * k) (2 * parent + 1) (pos 0)
arc_to base k First from = arc (2 * k) base (neg_ℤ (pos from))
arc_to base k Last until = arc base (2 * k + 1) (pos until)
arc_to base k Own none = arc (2 * k) (2 * k + 1) (pos 0)

-- what a row of a flow sends along an arc
abbrev pub amount_of : Kind → FlowRow → ℕ
amount_of Above flow = flow.above
amount_of Held flow = flow.held
amount_of First flow = flow.first
amount_of Last flow = flow.last
amount_of Own flow = flow.own

abbrev pub kinds : List Kind
kinds = Above ∷ (Held ∷ (First ∷ (Last ∷ (Own ∷ []))))

-- what something that may be missing gives
abbrev pub part : {A : Type 0} → Option ℕ → (ℕ → A) → List A
part None make = []
part (Some x) make = make x ∷ []

-- what the arcs of a row give, in the order of their kinds
abbrev pub by_kind : {A : Type 0} → SpanRow → (Kind → ℕ → A) → List A
by_kind row make = flat_map (λ kind. part (bound row kind) (make kind)) kinds

-- the arcs of the row at place k
abbrev pub row_arcs : ℕ → ℕ → SpanRow → List Arc
row_arcs base k row = by_kind row (arc_to base k)

-- the arcs of the rows from place k on
abbrev pub arcs_from : ℕ → ℕ → List SpanRow → List Arc
arcs_from base k [] = []
arcs_from base k (row ∷ rows) = row_arcs base k row ++ arcs_from base (suc k) rows

-- the weight of each row's node
abbrev pub weights_of : Rows → List SpanRow → List ℕ
weights_of tree rows = map (λ row. weight_of tree row.node) rows

-- what each row's lock and release have, and at the end the base, which has 0
abbrev pub pairs : {A : Type 0} → (A → ℤ) → (A → ℤ) → List A → List ℤ
pairs lock release [] = pos 0 ∷ []
pairs lock release (row ∷ rows) = lock row ∷ (release row ∷ pairs lock release rows)

-- what each variable needs: a row's lock gives its weight, and its release takes it
abbrev pub needs_from : List ℕ → List ℤ
needs_from weights = pairs (λ weight. neg_ℤ (pos weight)) (λ weight. pos weight) weights

abbrev pub needs_of : Rows → List SpanRow → List ℤ
needs_of tree rows = needs_from (weights_of tree rows)

-- the places to begin from: every lock at 0, every release after all slots
abbrev pub start_of : ℕ → List SpanRow → List ℤ
start_of slots rows = pairs (λ row. pos 0) (λ row. pos slots) rows

-- a place, or the top where that is less
abbrev pub lowered : ℤ → ℤ → ℤ
lowered top place = if int_lt top place then top else place

-- the slots before each access of m, and before the end
pub record AreSlots (lengths : List ℕ) (m : ℕ) (slots : List ℕ) : Type 0 where
  pub size : length slots ≡ suc m
  pub each : (gap : ℕ) → gap ≤ m → slice_index slots gap ≡ slots_before lengths gap

abbrev pub AreRising : List ℕ → Type 0
AreRising slots = (i j : ℕ) → i ≤ j → j < length slots → slice_index slots i ≤ slice_index slots j

-- the gap is one before which there are as many slots as before the place
pub record IsGap (slots : List ℕ) (place : ℤ) (gap : ℕ) : Type 0 where
  pub within : gap < length slots
  pub at : pos (slice_index slots gap) ≡ place

-- the place stands between two accesses
abbrev pub IsBetween : List ℕ → ℤ → Type 0
IsBetween slots place = (gap : ℕ) × IsGap slots place gap

-- the gap in which each place is: so many slots are before it
pub record AreGaps (lengths : List ℕ) (m : ℕ) (places : List ℤ) (gaps : List ℕ) : Type 0 where
  pub size : length gaps ≡ length places
  pub within : (v : ℕ) → v < length places → slice_index gaps v ≤ m
  pub at : (v : ℕ) → v < length places → pos (slots_before lengths (slice_index gaps v)) ≡ place places v

-- the number of arcs that something which may be missing has
abbrev pub width : Option ℕ → ℕ
width None = 0
width (Some x) = 1

abbrev pub row_width : SpanRow → ℕ
row_width row = width row.parent + width row.parent + width row.from + width row.until + 1

-- the amounts that a row sends, in the order of its arcs
abbrev pub row_amounts : SpanRow → FlowRow → List ℕ
row_amounts row flow = by_kind row (λ kind x. amount_of kind flow)

-- those of all rows
abbrev pub amounts_of : List SpanRow → List FlowRow → List ℕ
amounts_of [] flow = []
amounts_of (row ∷ rows) [] = []
amounts_of (row ∷ rows) (read ∷ flow) = row_amounts row read ++ amounts_of rows flow

-- a row of a flow that sends nothing where there is no arc
pub record IsReadRow (row : SpanRow) (flow : FlowRow) : Type 0 where
  pub node : flow.node ≡ row.node
  pub none : (kind : Kind) → bound row kind ≡ None → amount_of kind flow ≡ 0

-- the flow's rows are these amounts, read in the order of the rows' arcs
pub record IsRead (rows : List SpanRow) (amounts : List ℕ) (flow : List FlowRow) : Type 0 where
  pub each : AllZip IsReadRow rows flow
  pub whole : amounts_of rows flow ≡ amounts

-- what bounds a row's lock and release is no great number
abbrev pub IsBounded : SpanRow → Type 0
IsBounded row = (kind : Kind) (x : ℕ) → bound row kind ≡ Some x → x ≤ 64000

abbrev pub AreBounded : List SpanRow → Type 0
AreBounded rows = (i : ℕ) (row : SpanRow) → slice_get rows i ≡ Some row → IsBounded row

-- each row's parent is one of the rows
abbrev pub HaveOwnParents : List SpanRow → Type 0
HaveOwnParents rows = (i j : ℕ) (row : SpanRow) → slice_get rows i ≡ Some row → row.parent ≡ Some j → j < length rows

-- The rows of a list over a tree: not too many, of nodes of the tree, with parents among themselves, and bounded.
pub record AreRowsOf (tree : Rows) (rows : List SpanRow) : Type 0 where
  pub few : length rows ≤ 4096
  pub nodes : (i : ℕ) (row : SpanRow) → slice_get rows i ≡ Some row → row.node < length tree
  pub parents : HaveOwnParents rows
  pub bounds : AreBounded rows

-- the span of a list over a tree
pub record IsSpan (tree : Rows) (nodes lengths : List ℕ) (rows : List SpanRow) : Type 0 where
  pub is_tree : IsTree tree
  pub are_nodes : AreNodes tree nodes
  pub named : map node_of_row rows ≡ forced_nodes tree nodes
  pub parents : HaveParents tree nodes rows
  pub accesses : HaveAccesses nodes lengths rows
  pub are_lengths : AreLengths lengths
  pub paired : length lengths ≡ length nodes

-- Amounts that meet the needs of the rows' network, and its latest places along them, as gaps.
pub record IsSolved (tree : Rows) (lengths : List ℕ) (m : ℕ) (rows : List SpanRow) (amounts gaps : List ℕ) : Type 0
  where
    pub solved : List ℤ
    pub solution : IsSolution (needs_of tree rows) (arcs_from (2 * length rows) 0 rows) amounts solved
    pub places : List ℤ
    pub latest : IsLatest (2 * length rows + 1) (arcs_from (2 * length rows) 0 rows) amounts
        (pos (slots_before lengths m)) places
    pub are_gaps : AreGaps lengths m places gaps

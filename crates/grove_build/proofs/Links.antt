-- The arcs of the rows, each with what is sent along it.
use Rattle.std.proofs.Common.{◌≡◌, ℕ, zero, suc, ◌+◌, Bool, cond, List, [], ◌∷◌, ◌++◌, map, flat_map, length, Option, Some, None, ℤ, refl, sym, ◌∙◌, ap, ap₂, subst, arith}
use Rattle.std.specs.List.{slice_get, sum_by, All, AllZip}
use Rattle.std.proofs.lemmas.List.{map-append, length-append}
use Rattle.std.proofs.lemmas.List.Elements.{All-nil, All-cons, All-head, All-tail, All-append, All-map}
use Rattle.std.proofs.lemmas.List.Concat.{length-flat_map}
use Rattle.std.proofs.lemmas.List.Sums.{sum_by-cons, sum_by-append}
use Rattle.std.proofs.lemmas.Option.{none-some, same_Some}
use Rattle.grove_proof.specs.declared.flow.FlowRow.{FlowRow}
use Rattle.grove_span.specs.declared.row.SpanRow.{SpanRow}
use Rattle.grove_flow.specs.declared.network.Arc.{Arc}
use Rattle.grove_flow.specs.Networks.{IsLawful, AreLawful}
use Rattle.grove_flow.specs.Flows.{sent}
use Rattle.grove_build.specs.declared.kinds.Kind.{Kind}
use Rattle.grove_build.specs.declared.kinds.Kind.TheVariants.{Above, Held, First, Last, Own}
use Rattle.grove_build.specs.Networks.{bound, arc_to, amount_of, kinds, part, by_kind, row_arcs, arcs_from, width, row_width, amounts_of, IsReadRow, IsRead}
use Rattle.grove_base.proofs.Lists.{get_map}
use Rattle.grove_build.proofs.Runs.{Has, has_left, has_right, has_map}

abbrev pub Link : Type 0
Link = Arc × ℕ

abbrev pub row_links : ℕ → ℕ → SpanRow → FlowRow → List Link
row_links base k row f = by_kind row (λ kind x. (arc_to base k kind x, amount_of kind f))

abbrev pub links_from : ℕ → ℕ → List SpanRow → List FlowRow → List Link
links_from base k [] flow = []
links_from base k (row ∷ rows) [] = []
links_from base k (row ∷ rows) (f ∷ flow) = row_links base k row f ++ links_from base (suc k) rows flow

-- what the arcs of one row give

has_kind : (kind : Kind) → Has kinds kind
has_kind Above = (0, refl)
has_kind Held = (1, refl)
has_kind First = (2, refl)
has_kind Last = (3, refl)
has_kind Own = (4, refl)

-- what something that may be missing is worth
abbrev pub worth : Option ℕ → (ℕ → ℕ) → ℕ
worth None value = 0
worth (Some x) value = value x

module _ {A : Type 0} (row : SpanRow) (make : Kind → ℕ → A) where
  abbrev of_kinds : List Kind → List A
  of_kinds some = flat_map (λ kind. part (bound row kind) (make kind)) some

  part_has : (o : Option ℕ) (one : ℕ → A) (x : ℕ) → o ≡ Some x → Has (part o one) (one x)
  part_has None one x e = absurd (none-some x e)
  part_has (Some y) one x e = (0, ap (λ (n : ℕ). Some (one n)) (same_Some y x e))

  kinds_have : (some : List Kind) (kind : Kind) (x : ℕ) → Has some kind → bound row kind ≡ Some x
      → Has (of_kinds some) (make kind x)
  kinds_have [] kind x (k, h) e = absurd (none-some kind h)
  kinds_have (other ∷ some) kind x (zero, h) e = grind (arith, has_left, part_has, same_Some)
  kinds_have (other ∷ some) kind x (suc k, h) e = grind (arith, has_right, kinds_have some kind x (k, h) e)

  -- each arc that the row has gives something
  pub row_has : (kind : Kind) (x : ℕ) → bound row kind ≡ Some x → Has (by_kind row make) (make kind x)
  row_has kind x e = kinds_have kinds kind x (has_kind kind) e

  part_each : (P : A → Type 0) (o : Option ℕ) (one : ℕ → A) → ((x : ℕ) → o ≡ Some x → P (one x)) → All P (part o one)
  part_each P None one h = All-nil P
  part_each P (Some x) one h = All-cons P (one x) [] (h x refl) (All-nil P)

  -- and nothing else is given
  pub row_each : (P : A → Type 0) → ((kind : Kind) (x : ℕ) → bound row kind ≡ Some x → P (make kind x))
      → (some : List Kind) → All P (of_kinds some)
  row_each P h [] = All-nil P
  row_each P h (kind ∷ some) = grind (arith, All-append, part_each, row_each P h some)

  part_sum : (value : A → ℕ) (o : Option ℕ) (one : ℕ → A) → sum_by value (part o one) ≡ worth o (λ x. value (one x))
  part_sum value None one = refl
  part_sum value (Some x) one = omega (arith, sum_by-cons value (one x) [])

  kinds_sum : (value : A → ℕ) (some : List Kind)
      → sum_by value (of_kinds some) ≡ sum_by (λ kind. worth (bound row kind) (λ x. value (make kind x))) some
  kinds_sum value [] = refl
  kinds_sum value (kind ∷ some) =
      sum_by-append value (part (bound row kind) (make kind)) (of_kinds some)
      ∙ (ap₂ (λ a b. a + b) (part_sum value (bound row kind) (make kind)) (kinds_sum value some)
      ∙ sym (sum_by-cons (λ q. worth (bound row q) (λ x. value (make q x))) kind some))

  -- what they are worth together
  pub row_sum : (value : A → ℕ) (a b c d e : ℕ) → worth (bound row Above) (λ x. value (make Above x)) ≡ a
      → worth (bound row Held) (λ x. value (make Held x)) ≡ b → worth (bound row First) (λ x. value (make First x)) ≡ c
      → worth (bound row Last) (λ x. value (make Last x)) ≡ d → worth (bound row Own) (λ x. value (make Own x)) ≡ e
      → sum_by value (by_kind row make) ≡ a + b + c + d + e
  row_sum value a b c d e above held first last own = omega (arith, kinds_sum value kinds)

  part_map : {B : Type 0} (f : A → B) (o : Option ℕ) (one : ℕ → A) → map f (part o one) ≡ part o (λ x. f (one x))
  part_map f None one = refl
  part_map f (Some x) one = refl

  pub row_map : {B : Type 0} (f : A → B) (some : List Kind)
      → map f (of_kinds some) ≡ flat_map (λ kind. part (bound row kind) (λ x. f (make kind x))) some
  row_map f [] = refl
  row_map f (kind ∷ some) = grind (arith, map-append, part_map, row_map f some)

part_size : {A : Type 0} (o : Option ℕ) (one : ℕ → A) → length (part o one) ≡ width o
part_size None one = refl
part_size (Some x) one = refl

-- how many arcs a row has
pub row_size : {A : Type 0} (row : SpanRow) (make : Kind → ℕ → A) → length (by_kind row make) ≡ row_width row
row_size row make = grind (arith, length-flat_map, part_size)

-- and all rows
pub arcs_size : (base k : ℕ) (rows : List SpanRow) → length (arcs_from base k rows) ≡ sum_by row_width rows
arcs_size base k [] = refl
arcs_size base k (row ∷ rows) =
    omega (
      arith,
      length-append (row_arcs base k row) (arcs_from base (suc k) rows),
      row_size row (arc_to base k),
      arcs_size base (suc k) rows,
      sum_by-cons row_width row rows,
    )

-- those of all rows

pub links_have : (base k i n : ℕ) (rows : List SpanRow) (flow : List FlowRow) (row : SpanRow) (f : FlowRow) (kind : Kind) (x : ℕ)
    → n ≡ k + i → slice_get rows i ≡ Some row → slice_get flow i ≡ Some f → bound row kind ≡ Some x
    → Has (links_from base k rows flow) (arc_to base n kind x, amount_of kind f)
links_have base k i n [] flow row f kind x e g h b = absurd (none-some row g)
links_have base k i n (r ∷ rows) [] row f kind x e g h b = absurd (none-some f h)
links_have base k zero n (r ∷ rows) (s ∷ flow) row f kind x e g h b =
    let place : k ≡ n = omega arith in
    let here : Has (links_from base k (r ∷ rows) (s ∷ flow)) (arc_to base k kind x, amount_of kind s) =
    has_left (row_links base k r s) (links_from base (suc k) rows flow) (arc_to base k kind x, amount_of kind s)
    (row_has r (λ q y. (arc_to base k q y, amount_of q s)) kind x (ap (λ (t : SpanRow). bound t kind) (same_Some r row g) ∙ b)) in
    (here.0, here.1 ∙ ap₂ (λ (m : ℕ) (t : FlowRow). Some (arc_to base m kind x, amount_of kind t)) place (same_Some s f h))
links_have base k (suc i) n (r ∷ rows) (s ∷ flow) row f kind x e g h b =
    has_right (row_links base k r s) (links_from base (suc k) rows flow) (arc_to base n kind x, amount_of kind f)
    (links_have base (suc k) i n rows flow row f kind x (omega arith) g h b)

pub links_each : (P : Link → Type 0) (base k : ℕ) (rows : List SpanRow) (flow : List FlowRow)
    → ((i n : ℕ) (row : SpanRow) (f : FlowRow) (kind : Kind) (x : ℕ) → n ≡ k + i → slice_get rows i ≡ Some row
    → slice_get flow i ≡ Some f → bound row kind ≡ Some x → P (arc_to base n kind x, amount_of kind f))
    → All P (links_from base k rows flow)
links_each P base k [] flow h = All-nil P
links_each P base k (row ∷ rows) [] h = All-nil P
links_each P base k (row ∷ rows) (f ∷ flow) h =
    All-append P (row_links base k row f) (links_from base (suc k) rows flow)
    (row_each row (λ kind x. (arc_to base k kind x, amount_of kind f)) P
    (λ kind x b. h 0 k row f kind x (omega arith) refl refl b) kinds)
    (links_each P base (suc k) rows flow (λ i n r s kind x e g1 g2 b. h (suc i) n r s kind x (omega arith) g1 g2 b))

-- a sum over the arcs is one over the rows of the flow
pub links_sum : (value : Link → ℕ) (total : FlowRow → ℕ) (base k : ℕ) (rows : List SpanRow) (flow : List FlowRow)
    → AllZip IsReadRow rows flow
    → ((i n : ℕ) (row : SpanRow) (f : FlowRow) → n ≡ k + i → slice_get rows i ≡ Some row → slice_get flow i ≡ Some f
    → IsReadRow row f → sum_by value (row_links base n row f) ≡ total f)
    → sum_by value (links_from base k rows flow) ≡ sum_by total flow
links_sum value total base k [] [] each h = refl
links_sum value total base k [] (f ∷ flow) each h = absurd each
links_sum value total base k (row ∷ rows) [] each h = absurd each
links_sum value total base k (row ∷ rows) (f ∷ flow) each h =
    sum_by-append value (row_links base k row f) (links_from base (suc k) rows flow)
    ∙ (ap₂ (λ a b. a + b) (h 0 k row f (omega arith) refl refl each.0)
    (links_sum value total base (suc k) rows flow each.1 (λ i n r s e g1 g2 is. h (suc i) n r s (omega arith) g1 g2 is))
    ∙ sym (sum_by-cons total f flow))

pub links_arcs : (base k : ℕ) (rows : List SpanRow) (flow : List FlowRow) → AllZip IsReadRow rows flow
    → map (λ (link : Link). link.0) (links_from base k rows flow) ≡ arcs_from base k rows
links_arcs base k [] flow each = refl
links_arcs base k (row ∷ rows) [] each = absurd each
links_arcs base k (row ∷ rows) (f ∷ flow) each =
    grind (arith, map-append, row_map, links_arcs base (suc k) rows flow each.1)

pub links_amounts : (base k : ℕ) (rows : List SpanRow) (flow : List FlowRow)
    → map (λ (link : Link). link.1) (links_from base k rows flow) ≡ amounts_of rows flow
links_amounts base k [] flow = refl
links_amounts base k (row ∷ rows) [] = refl
links_amounts base k (row ∷ rows) (f ∷ flow) = grind (arith, map-append, row_map, links_amounts base (suc k) rows flow)

-- flows that send nothing

abbrev pub nothing_sent : SpanRow → FlowRow
nothing_sent row = record { node = row.node; above = 0; held = 0; first = 0; last = 0; own = 0 }

nothing_along : (row : SpanRow) (kind : Kind) → amount_of kind (nothing_sent row) ≡ 0
nothing_along row Above = refl
nothing_along row Held = refl
nothing_along row First = refl
nothing_along row Last = refl
nothing_along row Own = refl

pub nothing_read : (rows : List SpanRow) → AllZip IsReadRow rows (map nothing_sent rows)
nothing_read [] = tt
nothing_read (row ∷ rows) = (record { node = refl; none = λ kind e. nothing_along row kind }, nothing_read rows)

-- what holds of each arc
pub arcs_each : (P : Arc → Type 0) (base : ℕ) (rows : List SpanRow)
    → ((i : ℕ) (row : SpanRow) (kind : Kind) (x : ℕ) → slice_get rows i ≡ Some row → bound row kind ≡ Some x → P (arc_to base i kind x))
    → All P (arcs_from base 0 rows)
arcs_each P base rows h =
    subst (All P) (links_arcs base 0 rows (map nothing_sent rows) (nothing_read rows))
    (All-map P (λ (link : Link). link.0) (links_from base 0 rows (map nothing_sent rows))
    (links_each (λ link. P link.0) base 0 rows (map nothing_sent rows) (λ i n row f kind x e g1 g2 b.
    subst (λ m. P (arc_to base m kind x)) (let same : i ≡ n = omega arith in same) (h i row kind x g1 b))))

-- each arc of a row is one of the network's
pub arcs_have : (base i : ℕ) (rows : List SpanRow) (row : SpanRow) (kind : Kind) (x : ℕ) → slice_get rows i ≡ Some row → bound row kind ≡ Some x
    → Has (arcs_from base 0 rows) (arc_to base i kind x)
arcs_have base i rows row kind x g b =
    let P : List Arc → Type 0 = λ arcs. Has arcs (arc_to base i kind x) in
    let there : Has (links_from base 0 rows (map nothing_sent rows)) (arc_to base i kind x, amount_of kind (nothing_sent row)) =
    links_have base 0 i i rows (map nothing_sent rows) row (nothing_sent row) kind x (omega arith) g (get_map nothing_sent rows i row g) b in
    subst P (links_arcs base 0 rows (map nothing_sent rows) (nothing_read rows))
    (has_map (λ (link : Link). link.0) (links_from base 0 rows (map nothing_sent rows)) (arc_to base i kind x, amount_of kind (nothing_sent row)) there)

-- Places are lawful for the network exactly where they are along each link.

links_lawful : (links : List Link) (places : List ℤ) → All (λ link. IsLawful link.0 link.1 places) links
    → AreLawful (map (λ (link : Link). link.0) links) (map (λ (link : Link). link.1) links) places
links_lawful [] places h i lt = absurd (omega arith)
links_lawful (link ∷ links) places h zero lt = All-head (λ (l : Link). IsLawful l.0 l.1 places) link links h
links_lawful (link ∷ links) places h (suc i) lt =
    links_lawful links places (All-tail (λ (l : Link). IsLawful l.0 l.1 places) link links h) i (omega arith)

lawful_link : (links : List Link) (places : List ℤ) (link : Link)
    → AreLawful (map (λ (l : Link). l.0) links) (map (λ (l : Link). l.1) links) places → Has links link
    → IsLawful link.0 link.1 places
lawful_link [] places link h (i, there) = absurd (none-some link there)
lawful_link (other ∷ links) places link h (zero, there) =
    let P : Link → Type 0 = λ l. IsLawful l.0 l.1 places in subst P (same_Some other link there) (h 0 (omega arith))
lawful_link (other ∷ links) places link h (suc i, there) =
    lawful_link links places link (λ j lt. h (suc j) (omega arith)) (i, there)

abbrev pub AreRowsLawful : ℕ → List SpanRow → List FlowRow → List ℤ → Type 0
AreRowsLawful base rows flow places =
    (i : ℕ) (row : SpanRow) (f : FlowRow) (kind : Kind) (x : ℕ) → slice_get rows i ≡ Some row → slice_get flow i ≡ Some f
    → bound row kind ≡ Some x → IsLawful (arc_to base i kind x) (amount_of kind f) places

module _ (base : ℕ) (rows : List SpanRow) (amounts : List ℕ) (flow : List FlowRow) (read : IsRead rows amounts flow) where
  abbrev links : List Link
  links = links_from base 0 rows flow

  arcs_are : map (λ (link : Link). link.0) (links_from base 0 rows flow) ≡ arcs_from base 0 rows
  arcs_are = links_arcs base 0 rows flow read.each

  amounts_are : map (λ (link : Link). link.1) (links_from base 0 rows flow) ≡ amounts
  amounts_are = links_amounts base 0 rows flow ∙ read.whole

  pub lawful_rows : (places : List ℤ) → AreLawful (arcs_from base 0 rows) amounts places → AreRowsLawful base rows flow places
  lawful_rows places h i row f kind x g1 g2 b =
      lawful_link links places (arc_to base i kind x, amount_of kind f)
      (subst (λ arcs. AreLawful arcs (map (λ (link : Link). link.1) links) places) (sym arcs_are)
      (subst (λ xs. AreLawful (arcs_from base 0 rows) xs places) (sym amounts_are) h))
      (links_have base 0 i i rows flow row f kind x (omega arith) g1 g2 b)

  pub rows_lawful : (places : List ℤ) → AreRowsLawful base rows flow places → AreLawful (arcs_from base 0 rows) amounts places
  rows_lawful places h =
      subst (λ arcs. AreLawful arcs amounts places) arcs_are
      (subst (λ xs. AreLawful (map (λ (link : Link). link.0) links) xs places) amounts_are
      (links_lawful links places (links_each (λ link. IsLawful link.0 link.1 places) base 0 rows flow
      (λ i n row f kind x e g1 g2 b. subst (λ m. IsLawful (arc_to base m kind x) (amount_of kind f) places)
      (let same : i ≡ n = omega arith in same) (h i row f kind x g1 g2 b)))))

  sent_along : (test : Arc → Bool) (some : List Link)
      → sent test (map (λ (link : Link). link.0) some) (map (λ (link : Link). link.1) some)
      ≡ sum_by (λ (link : Link). cond (test link.0) link.1 0) some
  sent_along test [] = refl
  sent_along test (link ∷ some) =
      ap (λ (s : ℕ). cond (test link.0) link.1 0 + s) (sent_along test some)
      ∙ sym (sum_by-cons (λ (l : Link). cond (test l.0) l.1 0) link some)

  -- what is sent along the arcs that pass a test, row by row
  pub sent_rows : (test : Arc → Bool) (total : FlowRow → ℕ)
      → ((i : ℕ) (row : SpanRow) (f : FlowRow) → slice_get rows i ≡ Some row → slice_get flow i ≡ Some f → IsReadRow row f
      → sum_by (λ (link : Link). cond (test link.0) link.1 0) (row_links base i row f) ≡ total f)
      → sent test (arcs_from base 0 rows) amounts ≡ sum_by total flow
  sent_rows test total h = grind (arith, amounts_are, arcs_are, links_sum, sent_along)

use Rattle.std.proofs.Common.{◌≡◌, ℕ, suc, ◌+◌, ◌<◌, ◌≤◌, List, [], ◌∷◌, ◌++◌, length, get_or, drop, refl, sym, ◌∙◌, ap, subst, arith, add-one, append_assoc, append-nil, drop-cons, length-append}
use Rattle.std.specs.List.{sum_by}
use Rattle.std.proofs.lemmas.List.{drop_all}
use Rattle.std.proofs.lemmas.List.Sums.{sum_by-cons}
use Rattle.grove_proof.specs.declared.flow.FlowRow.{FlowRow}
use Rattle.grove_span.specs.declared.row.SpanRow.{SpanRow}
use Rattle.grove_build.specs.Networks.{row_width, amount_of, row_amounts, IsReadRow, IsRead}
use Rattle.grove_build.proofs.Links.{row_size}
use Rattle.grove_build.proofs.flow_rows.flow_rows.Goals as goal

left_of : (rows : List SpanRow) (i : ℕ) (row : SpanRow) → i < length rows → row ≡ get_or rows i row
    → drop i rows ≡ row ∷ drop (i + 1) rows
left_of rows i row lt is = rw add-one (drop-cons rows i row lt ∙ ap (λ y. y ∷ drop (suc i) rows) (sym is))

-- one more row is read
read_on : (rows : List SpanRow) (amounts rest behind : List ℕ) (flow : List FlowRow) (i : ℕ) (row : SpanRow) (f : FlowRow)
    → drop i rows ≡ row ∷ drop (i + 1) rows → IsReadRow row f → row_amounts row f ++ behind ≡ rest
    → ((later : List FlowRow) → IsRead (drop i rows) rest later → IsRead rows amounts (flow ++ later))
    → (later : List FlowRow) → IsRead (drop (i + 1) rows) behind later → IsRead rows amounts ((flow ++ f ∷ []) ++ later)
read_on rows amounts rest behind flow i row f left is joined goes_on later read =
    subst (IsRead rows amounts) (sym (append_assoc flow (f ∷ []) later))
    (goes_on (f ∷ later) (subst (λ some. IsRead some rest (f ∷ later)) (sym left) record {
      each = (is, read.each);
      whole = ap (λ xs. row_amounts row f ++ xs) read.whole ∙ joined;
    }))

none_left : (xs : List ℕ) → length xs ≡ 0 → [] ≡ xs
none_left [] e = refl
none_left (x ∷ xs) e = absurd (omega arith)

read_all : (rows : List SpanRow) (amounts rest : List ℕ) (flow : List FlowRow) (i : ℕ) → length rows ≤ i
    → length rest ≡ sum_by row_width (drop i rows)
    → ((later : List FlowRow) → IsRead (drop i rows) rest later → IsRead rows amounts (flow ++ later)) → IsRead rows amounts flow
read_all rows amounts rest flow i le size goes_on =
    let none : drop i rows ≡ [] = drop_all i rows le in
    subst (IsRead rows amounts) (append-nil flow)
    (goes_on [] (subst (λ some. IsRead some rest []) (sym none) record {
      each = tt;
      whole = none_left rest (size ∙ ap (sum_by row_width) none);
    }))

pub loop-row-init : goal.loop-row-init
loop-row-init c = rw c.in_ok-flow.ensures.items record { size = c.requires; goes_on = λ later read. read }

pub read_row-read-requires : goal.read_row-read-requires
read_row-read-requires c =
    let left = left_of c.args.rows.now c.loop-row.row-index c.row-item.result c.loop-row-test.true c.row-item.is in
    omega (
      arith,
      c.loop-row.invariant.size,
      ap (sum_by row_width) left,
      sum_by-cons row_width c.row-item.result (drop (c.loop-row.row-index + 1) c.args.rows.now),
    )

pub loop-row-preserved : goal.loop-row-preserved
loop-row-preserved c =
    let left = left_of c.args.rows.now c.loop-row.row-index c.row-item.result c.loop-row-test.true c.row-item.is in
    let size : length c.read_row-read.result.1.now ≡ sum_by row_width (drop (c.loop-row.row-index + 1) c.args.rows.now) = omega (
      arith,
      c.loop-row.invariant.size,
      ap (sum_by row_width) left,
      sum_by-cons row_width c.row-item.result (drop (c.loop-row.row-index + 1) c.args.rows.now),
      ap length c.read_row-read.ensures.whole,
      length-append (row_amounts c.row-item.result c.read_row-read.result.0) c.read_row-read.result.1.now,
      row_size c.row-item.result (λ kind x. amount_of kind c.read_row-read.result.0),
    ) in
    rw c.in_ok-push.ensures.items record {
      size = size;
      goes_on = read_on c.args.rows.now c.args.amounts.now c.loop-row.rest.now c.read_row-read.result.1.now c.loop-row.flow.items c.loop-row.row-index
          c.row-item.result c.read_row-read.result.0 left c.read_row-read.ensures.row c.read_row-read.ensures.whole c.loop-row.invariant.goes_on;
    }

pub returns : goal.returns
returns c = read_all c.args.rows.now c.args.amounts.now c.loop-row.rest.now c.loop-row.flow.items c.loop-row.row-index
    c.loop-row-test.false c.loop-row.invariant.size c.loop-row.invariant.goes_on

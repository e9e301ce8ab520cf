use Rattle.std.proofs.Common.{◌≡◌, ◌≢◌, ◌∙◌, Some, add-one, ap, slice_get, string_bytes, sym, arith}
use Rattle.std.proofs.lemmas.Bool.{both_ways}
use Rattle.std.proofs.lemmas.Slice.Eq.{bytes_eq-Decides}
use Rattle.grove_base.proofs.Lists.{read_at}
use Rattle.grove_table.specs.declared.line.Line.{Line}
use Rattle.grove_table.proofs.LookedAt.{kept_all, kept_more}
use Rattle.grove_table.proofs.SpareLines.{one_has}
use Rattle.grove_table.proofs.line.line_with.Goals as goal

pub loop-place-preserved : goal.loop-place-preserved
loop-place-preserved c = grind (arith, add-one, both_ways, bytes_eq-Decides, kept_more, read_at)

pub returns-then-eq : goal.returns-then-eq
returns-then-eq c =
    let lines = c.args.lines.now in
    let path = c.args.path.now in
    let line = c.index-lines-place.result in
    let at : slice_get lines c.loop-place.place ≡ Some line =
    read_at lines c.loop-place.place line c.loop-place-test.true c.index-lines-place.is in
    let read : c.as_str.result.now ≡ string_bytes line.path =
    c.as_str.ensures.value ∙ ap (λ (l : Line). string_bytes l.path) (sym c.index-lines-place.is) in
    one_has lines path c.loop-place.place line at
    (sym read ∙ (bytes_eq-Decides c.as_str.result.now path).0 (sym c.eq.ensures ∙ c.if-eq.true))

pub returns : goal.returns
returns c = λ has.
    kept_all (λ (l : Line). string_bytes l.path ≢ c.args.path.now) c.args.lines.now c.loop-place.place
    c.loop-place.invariant c.loop-place-test.false has.0 has.1 has.2 has.3

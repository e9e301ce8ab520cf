use Rattle.std.proofs.Common.{◌≡◌, ◌<◌, length, sym, ◌∙◌, arith}
use Rattle.std.proofs.lemmas.List.{length-map}
use Rattle.std.specs.List.{flat_map}
use Rattle.std.proofs.lemmas.Result.{err_from_is_err_and}
use Rattle.grove_effects.specs.Effects.{word}
use Rattle.grove_effects.specs.Snapshots.{named_of, names_of}
use Rattle.grove_effects.proofs.Reading.{names_same, snapshot_is, snapshot_long, behind_count, snapshot_once}
use Rattle.grove_effects.proofs.snapshot.read_snapshot.Goals as goal

pub returns-in_err-count-clause-only : goal.returns-in_err-count-clause-only
returns-in_err-count-clause-only c = λ names numbers is.
    let least = snapshot_long c.args.bytes.now names numbers is in
    let short : length c.args.bytes.now < 4 = c.in_err-count.ensures.front in
    absurd (omega arith)

pub returns-in_err-names-clause-only : goal.returns-in_err-names-clause-only
returns-in_err-names-clause-only c = λ names numbers is.
    let p = err_from_is_err_and c.from_residual-in_err-names.result c.from_residual-in_err-names.ensures.1 in
    let behind = behind_count c.args.bytes.now c.in_ok-count.rest.now names numbers c.in_ok-count.count
    c.in_ok-count.ensures.fits is c.in_ok-count.ensures.front in
    let said = p.2 in
    let memory = c.in_err-names.ensures.refused names (flat_map word numbers) behind.0 is.named behind.1 in
    rw p.1 cc

pub returns-in_err-numbers-clause-only : goal.returns-in_err-numbers-clause-only
returns-in_err-numbers-clause-only c = λ names numbers is.
    let p = err_from_is_err_and c.from_residual-in_err-numbers.result c.from_residual-in_err-numbers.ensures.1 in
    let behind = behind_count c.args.bytes.now c.in_ok-count.rest.now names numbers c.in_ok-count.count
    c.in_ok-count.ensures.fits is c.in_ok-count.ensures.front in
    let read = names_of c.in_ok-names.names.items in
    let long : length names ≡ length read = omega (
      arith,
      behind.0,
      c.in_ok-names.ensures.count,
      length-map c.in_ok-names.names.items named_of,
    ) in
    let both = names_same names read (flat_map word numbers) c.in_ok-names.rest.now is.named
    c.in_ok-names.ensures.named long (sym behind.1 ∙ c.in_ok-names.ensures.names) in
    let said = p.2 in
    let memory = c.in_err-numbers.ensures.refused numbers (sym both.1) in
    rw p.1 cc

pub returns-clause-read : goal.returns-clause-read
returns-clause-read c =
    snapshot_is c.args.bytes.now c.in_ok-count.rest.now c.in_ok-names.rest.now c.in_ok-names.names.items
    c.in_ok-numbers.numbers.items c.in_ok-count.count c.in_ok-count.ensures.fits c.in_ok-names.ensures.count
    c.in_ok-names.ensures.named c.in_ok-numbers.ensures.words c.in_ok-count.ensures.front
    c.in_ok-names.ensures.names c.in_ok-numbers.ensures.numbers

pub returns-clause-only : goal.returns-clause-only
returns-clause-only c = λ names numbers is.
    snapshot_once c.args.bytes.now (names_of c.in_ok-names.names.items) names c.in_ok-numbers.numbers.items numbers
    (snapshot_is c.args.bytes.now c.in_ok-count.rest.now c.in_ok-names.rest.now c.in_ok-names.names.items
    c.in_ok-numbers.numbers.items c.in_ok-count.count c.in_ok-count.ensures.fits c.in_ok-names.ensures.count
    c.in_ok-names.ensures.named c.in_ok-numbers.ensures.words c.in_ok-count.ensures.front
    c.in_ok-names.ensures.names c.in_ok-numbers.ensures.numbers) is

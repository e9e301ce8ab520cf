use Rattle.std.proofs.Common.{◌<◌, length, arith}
use Rattle.std.proofs.lemmas.List.{length-map}
use Rattle.std.proofs.lemmas.Result.{err_from_is_err_and}
use Rattle.grove_effects.specs.Snapshots.{named_of, names_of}
use Rattle.grove_effects.proofs.Reading.{name_more, names_on}
use Rattle.grove_effects.proofs.snapshot.read_names.Goals as goal

pub returns-in_err-name-clause-refused : goal.returns-in_err-name-clause-refused
returns-in_err-name-clause-refused c =
    let p = err_from_is_err_and c.from_residual.result c.from_residual.ensures.1 in
    rw p.1 (λ names tail long fits same.
    let less : length (names_of c.loop-alloc.names.items) < length names = omega (
      arith,
      length-map c.loop-alloc.names.items named_of,
      c.loop-alloc-test.true,
      c.len.ensures,
    ) in
    let more = name_more c.args.bytes.now c.loop-alloc.rest.now tail (names_of c.loop-alloc.names.items) names
    c.loop-alloc.invariant.2 c.loop-alloc.invariant.1 fits less same in
    let said = p.2 in
    let memory = c.in_err-name.ensures.refused more.0 more.1 more.2 more.3 in
    cc)

pub loop-alloc-preserved : goal.loop-alloc-preserved
loop-alloc-preserved c =
    names_on c.args.bytes.now c.loop-alloc.rest.now c.in_ok-name.behind.now c.loop-alloc.names.items
    c.push.new.self.items c.in_ok-name.name c.args.count c.in_ok-push.ensures.items
    (omega (arith, c.loop-alloc-test.true, c.len.ensures)) c.loop-alloc.invariant.1 c.in_ok-name.ensures.named
    c.loop-alloc.invariant.2 c.in_ok-name.ensures.name

use Rattle.std.proofs.Common.{◌≡◌, true, length, ap, arith}
use Rattle.std.proofs.lemmas.List.{length-map}
use Rattle.grove_effects.specs.Snapshots.{Names, named_of}
use Rattle.grove_data.specs.Parts.{HasForm}
use Rattle.grove_data.proofs.Leading.{begun}
use Rattle.grove_data.proofs.reading.read_numbers.Goals as goal

pub returns-then-not-has_form-clause-unfit : goal.returns-then-not-has_form-clause-unfit
returns-then-not-has_form-clause-unfit c = λ names numbers held are form.
    let s =
    begun c.args.payloads names numbers c.in-Some.first.now c.next_payload.new.self held are c.in-Some.ensures in
    let read = c.in_ok-snapshot.snapshot in
    let o = c.in_ok-snapshot.ensures.only names s.first s.is in
    let named = ap (λ (l : Names). length l) o.0 in
    let numbered = ap (λ l. length l) o.1 in
    let fits : HasForm (length read.names.items) (length read.numbers.items) = (
      omega (arith, named, form.0, length-map read.names.items named_of),
      omega (arith, named, numbered, form.1, s.long, length-map read.names.items named_of),
    ) in
    let has : c.has_form.result ≡ true = c.has_form.ensures.1 fits in
    absurd (cc)

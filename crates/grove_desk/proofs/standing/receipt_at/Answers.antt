use Rattle.std.proofs.Common.{◌≡◌, List, length, ap, ◌∙◌, arith}
use Rattle.std.specs.Prelude.{slice_get}
use Rattle.grove_desk.specs.Receipts.{ReceiptState}
use Rattle.grove_desk.specs.Histories.{RoundState}
use Rattle.grove_desk.proofs.Places.{copied_at, found_here, found_later}
use Rattle.grove_desk.proofs.standing.receipt_at.Goals as goal

pub returns-then-rest-count : goal.returns-then-rest-count
returns-then-rest-count c =
    let seen : length c.round.inside.receipts.items ≡ length c.round-item.result.receipts =
    ap (λ (round : RoundState). length round.receipts) c.round.view_is in
    let many : c.len-count.result ≡ length c.round-item.result.receipts = omega (arith, c.round.inside.receipts.ok.0) in
    copied_at c.get.result c.deref.result.now c.loop-round.rest c.get.ensures.lookup.3
    ∙ ap (λ (receipts : List ReceiptState). slice_get receipts c.loop-round.rest)
    (c.deref.ensures.value ∙ ap (λ (round : RoundState). round.receipts) c.round.view_is)
    ∙ found_here c.args.rounds.now c.loop-round.round-index c.round-item.result c.loop-round.rest c.len-count.result
    c.loop-round-test.true c.round-item.is many c.if-rest-count.true
    ∙ c.loop-round.invariant

pub loop-round-preserved : goal.loop-round-preserved
loop-round-preserved c =
    let seen : length c.round.inside.receipts.items ≡ length c.round-item.result.receipts =
    ap (λ (round : RoundState). length round.receipts) c.round.view_is in
    let many : c.len-count.result ≡ length c.round-item.result.receipts = omega (arith, c.round.inside.receipts.ok.0) in
    found_later c.args.rounds.now c.loop-round.round-index c.round-item.result c.loop-round.rest c.len-count.result
    c.loop-round-test.true c.round-item.is many c.if-rest-count.false
    ∙ c.loop-round.invariant

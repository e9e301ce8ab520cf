use Rattle.std.proofs.Common.{◌<◌, List, length, sym, subst}
use Rattle.std.specs.Prelude.{All}
use Rattle.std.proofs.lemmas.Bool.{false≢true}
use Rattle.grove_desk.specs.Receipts.{ReceiptState, AreNumberedFrom}
use Rattle.grove_desk.specs.Histories.{IsDeskReceipt}
use Rattle.grove_desk.proofs.Keeping.{led_names}
use Rattle.grove_desk.proofs.Turns.{accounts_more, all_answered, rounds_lead}
use Rattle.grove_desk.proofs.ledger.Ledger.answer.Goals as goal

pub answer_rounds-requires-clause-names : goal.answer_rounds-requires-clause-names
answer_rounds-requires-clause-names g c κs within = led_names _ _ c.self.invariant.account.led

pub keep-requires : goal.keep-requires
keep-requires g c =
    let turn = c.in_ok-receipts.ensures.answered in (
      c.self.inside.store,
      c.self.invariant.stands c.if-self.false,
      rounds_lead turn.rounds _ _ turn.leads turn.begins
          (subst (λ (rs : List ReceiptState). 0 < length rs) turn.told turn.some),
    )

pub invariant_of-self-in-Ok : goal.invariant_of-self-in-Ok
invariant_of-self-in-Ok g c =
    let told = c.in_ok-receipts.ensures in
    let turn = told.answered in record {
      account = accounts_more _ _ turn.rounds _ _ _ _ c.self.invariant.account turn.leads turn.begins
          (subst (AreNumberedFrom _) turn.told told.numbered) turn.noted;
      stands = λ sound. c.in-Ok.ensures.kept;
    }

pub invariant_of-self-in-Err-1 : goal.invariant_of-self-in-Err-1
invariant_of-self-in-Err-1 g c =
    let told = c.in_ok-receipts.ensures in
    let turn = told.answered in record {
      account = accounts_more _ _ turn.rounds _ _ _ _ c.self.invariant.account turn.leads turn.begins
          (subst (AreNumberedFrom _) turn.told told.numbered) turn.noted;
      stands = λ sound. absurd (false≢true (sym sound));
    }

pub returns-in-Ok-clause-receipts : goal.returns-in-Ok-clause-receipts
returns-in-Ok-clause-receipts g c =
    let told = c.in_ok-receipts.ensures in
    let turn = told.answered in
    subst (All (IsDeskReceipt g.K.Keeper.stands_for g.B.Opening.store g.B.Opening.kept)) (sym turn.told)
    (all_answered g.K.Keeper.stands_for _ _ turn.rounds _ c.answer_rounds.new.store _ c.self.invariant.account
    turn.leads turn.begins (subst (AreNumberedFrom _) turn.told told.numbered)
    (record { keeper = c.keep.new.self; stands = c.in-Ok.ensures.kept }))

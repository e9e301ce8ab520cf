use Rattle.std.proofs.Common.{List, Option, refl, sym, subst}
use Rattle.grove_desk.specs.Histories.{RoundState, IsHistory}
use Rattle.grove_desk.specs.Ledgers.{JournalState, IsJournalOf}
use Rattle.grove_desk.proofs.Places.{history_of}
use Rattle.grove_desk.proofs.desk.closing.entries_of.Goals as goal

pub returns-clause-history : goal.returns-clause-history
returns-clause-history c = λ opening last is some. subst (λ (rounds : List RoundState).
    IsHistory opening c.args.receipts.now rounds last) (sym c.into_entries.ensures)
    (history_of opening last c.args.receipts.now c.in-Some.journal
    (subst (λ (journal : Option JournalState). IsJournalOf opening journal last) c.in-Some.is is)
    (c.if-not-has.ensures.0 refl))

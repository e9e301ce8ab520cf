use Rattle.std.proofs.Common.{◌≡◌, ℕ, List, length, sym, subst, ◌∙◌}
use Rattle.grove_tree.specs.Weights.{unweighed}
use Rattle.grove_effects.specs.Snapshots.{Names, names_of}
use Rattle.grove_store.specs.StoreStates.{StoreState, IsStore}
use Rattle.grove_data.specs.Numbers.{numbers_of, Hold}
use Rattle.grove_data.specs.Files.{OpensAs}
use Rattle.grove_data.specs.Parts.{AreNames, HasForm, IsStoreOf}
use Rattle.grove_data.proofs.Counting.{passes_refused, refused_by, only_one}
use Rattle.grove_data.proofs.Named.{names_fit}
use Rattle.grove_data.proofs.Stores.{form_of, same_store}
use Rattle.grove_data.proofs.reading.read_store.Goals as goal

-- the payloads that were read stand for the store
held_in : (payloads recovered : List (List ℕ)) (names : Names) (numbers : List ℕ) → payloads ≡ recovered
    → Hold recovered names numbers → Hold payloads names numbers
held_in payloads recovered names numbers are held =
    subst (λ (ps : List (List ℕ)). Hold ps names numbers) (sym are) held

pub returns-in_err-snapshot-clause-refused : goal.returns-in_err-snapshot-clause-refused
returns-in_err-snapshot-clause-refused c =
    passes_refused c.from_residual-in_err-snapshot.result c.in_err-snapshot.field-0.0 c.args.file.now
    ((names : Names) (numbers : List ℕ) → Hold c.in_ok-payloads.payloads names numbers → AreNames names
    → HasForm (length names) (length numbers) → ⊥)
    c.from_residual-in_err-snapshot.ensures.1 c.in_err-snapshot.ensures.unfit
    (λ p store opens. p (unweighed store.rows) (numbers_of store)
    (held_in _ _ _ _ c.in_ok-payloads.ensures.1 opens.stands.numbers)
    (names_fit store.rows opens.is_store.tree opens.is_store.limits) (form_of store opens.is_store))

pub returns-clause-refused : goal.returns-clause-refused
returns-clause-refused c =
    let read = c.in_ok-snapshot.snapshot in
    refused_by c.store_of.result c.args.file.now
    ((other : StoreState) → IsStore other → unweighed other.rows ≡ names_of read.names.items
    → numbers_of other ≡ read.numbers.items → ⊥) c.store_of.ensures.unfit
    (λ p store opens.
    let o = c.in_ok-snapshot.ensures.only (unweighed store.rows) (numbers_of store)
    (held_in _ _ _ _ c.in_ok-payloads.ensures.1 opens.stands.numbers)
    (names_fit store.rows opens.is_store.tree opens.is_store.limits) (form_of store opens.is_store) in
    p store opens.is_store (sym o.0) (sym o.1))

pub returns-clause-only : goal.returns-clause-only
returns-clause-only c =
    let read = c.in_ok-snapshot.snapshot in
    only_one c.store_of.result (IsStoreOf (names_of read.names.items) read.numbers.items c.args.workers)
    (λ (store : StoreState). (other : StoreState) → OpensAs c.args.file.now other → other.workers ≡ store.workers
    → other ≡ store)
    (λ store is other opens workers.
    let o = c.in_ok-snapshot.ensures.only (unweighed other.rows) (numbers_of other)
    (held_in _ _ _ _ c.in_ok-payloads.ensures.1 opens.stands.numbers)
    (names_fit other.rows opens.is_store.tree opens.is_store.limits) (form_of other opens.is_store) in
    same_store other store opens.is_store is.is_store opens.stands.records is.fit
    (sym o.0 ∙ sym is.named) (sym o.1 ∙ sym is.numbered) workers)
    c.store_of.ensures.store

use Rattle.std.proofs.Common.{◌<◌, ◌^◌, ◌≡◌, ℕ, List, Option, sym, ap, subst, ◌∙◌}
use Rattle.std.specs.Prelude.{All}
use Rattle.std.specs.Str.{IsUtf8}
use Rattle.grove_tree.specs.Trees.{Rows}
use Rattle.grove_tree.specs.Weights.{unweighed, weights_of}
use Rattle.grove_tree.specs.Rules.{AreTreeRows}
use Rattle.grove_tree.specs.BuiltRows.{rows_of}
use Rattle.grove_tree.specs.declared.row.Row.{Row}
use Rattle.grove_effects.specs.Snapshots.{Names, names_of}
use Rattle.grove_data.specs.Parts.{tree_fault_said}
use Rattle.grove_data.proofs.Counting.{passes, for_more, tree_refused}
use Rattle.grove_data.proofs.Named.{names_text, weights_small}
use Rattle.grove_data.proofs.Stores.{same_rows}
use Rattle.grove_data.proofs.rows.tree_of.Goals as goal

pub returns-in_err-rows-clause-unfit : goal.returns-in_err-rows-clause-unfit
returns-in_err-rows-clause-unfit c =
    let names = names_of c.args.names.now in
    let weights = c.args.weights.now in
    passes c.from_residual.result c.in_err-rows.field-0.0 _ c.from_residual.ensures.1
    (for_more (All (λ (w : ℕ). w < 2 ^ 32) weights → All (λ (named : Option ℕ × List ℕ). IsUtf8 named.1) names → ⊥)
    ((rows : Rows) → AreTreeRows rows → unweighed rows ≡ names → weights_of rows ≡ weights → ⊥)
    c.in_err-rows.field-0.0
    (λ p rows are named weighed. p
    (subst (λ (l : List ℕ). All (λ (w : ℕ). w < 2 ^ 32) l) weighed (weights_small rows are.0 are.1))
    (subst (λ (l : Names). All (λ (named : Option ℕ × List ℕ). IsUtf8 named.1) l) named (names_text rows are.0 are.1)))
    c.in_err-rows.ensures.unfit)

pub returns-in_err-build-clause-unfit : goal.returns-in_err-build-clause-unfit
returns-in_err-build-clause-unfit c =
    let names = names_of c.args.names.now in
    let weights = c.args.weights.now in
    let built = c.deref.result.now in
    let fault = c.in_err-build.field-0.0 in
    let Q : Type 0 = (rows : Rows) → AreTreeRows rows → unweighed rows ≡ names → weights_of rows ≡ weights → ⊥ in
    passes c.from_residual-in_err-build.result (tree_fault_said fault) Q c.from_residual-in_err-build.ensures.1
    (tree_refused fault Q (λ other rows are named weighed. c.in_err-build.ensures.refused other
    (subst AreTreeRows (same_rows rows (rows_of built)
    (named ∙ sym (ap (λ (l : List Row). unweighed (rows_of l)) c.deref.ensures.value ∙ c.in_ok-rows.ensures.names))
    (weighed
    ∙ sym (ap (λ (l : List Row). weights_of (rows_of l)) c.deref.ensures.value ∙ c.in_ok-rows.ensures.weights)))
    are)))

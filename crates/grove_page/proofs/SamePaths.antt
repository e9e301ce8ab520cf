-- Trees whose rows are equal save for their weights have the same paths.
use Rattle.std.proofs.Common.{◌≡◌, ℕ, List, ◌++◌, length, ◌∙◌, ap}
use Rattle.std.specs.Prelude.{codes}
use Rattle.json.specs.Print.{quoted}
use Rattle.grove_tree.specs.Trees.{Rows}
use Rattle.grove_tree.specs.Weights.{unweighed}
use Rattle.grove_tree.specs.Paths.{names_within, or_slash}
use Rattle.grove_tree.proofs.SameNames.{unweighed_same}
use Rattle.grove_wire.proofs.SameNames.{names_same}
use Rattle.grove_page.specs.NodeTexts.{entry_start}

-- their entries begin the same
pub start_same : (rows others : Rows) → unweighed rows ≡ unweighed others → (node : ℕ)
    → entry_start rows node ≡ entry_start others node
start_same rows others same node =
    let long = (unweighed_same rows others same).0 in
    ap (λ (names : List ℕ). codes "{\"path\":" ++ (quoted (or_slash names) ++ codes ",\"record\":"))
    (names_same rows others same (length rows) node ∙ ap (λ (n : ℕ). names_within others n node) long)

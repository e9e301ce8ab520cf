-- Trees by the parents and the weights of their nodes alone.
use Rattle.std.specs.Prelude.{◌≡◌, ℕ, List, [], ◌∷◌, map, Option, Some, None}
use Rattle.grove_tree.specs.Trees.{Rows}

-- the first has no parent, whatever is given for it
abbrev pub told_parents : List ℕ → List (Option ℕ)
told_parents [] = []
told_parents (_ ∷ parents) = None ∷ map Some parents

-- rows with these parents and weights, whatever their names are
pub record HaveShape (parents weights : List ℕ) (rows : Rows) : Type 0 where
  pub by_parents : map (λ row. row.parent) rows ≡ told_parents parents
  pub by_weights : map (λ row. row.weight) rows ≡ weights

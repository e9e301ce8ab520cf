-- A plan laid out gap by gap, from the gap of each node's lock and unlock.
use Rattle.std.specs.Prelude.{ℕ, zero, suc, ◌==◌, nat_lt, Bool, not, ◌&&◌, List, [], ◌∷◌, ◌++◌, map, filter}
use Rattle.std.specs.List.{list_any}
use Rattle.grove_tree.specs.Trees.{Rows, parent_of, is_at}
use Rattle.grove_plan.specs.declared.step.Step.{Step}
use Rattle.grove_plan.specs.declared.step.Step.TheVariants.{Lock, Unlock, Access}

-- a node has a child that is locked in a gap
abbrev pub has_child_in : Rows → List ℕ → (ℕ → ℕ) → ℕ → ℕ → Bool
has_child_in rows list lock gap node = list_any (λ child. is_at node (parent_of rows child) && (lock child == gap)) list

-- a node's unlock comes before its gap's locks: it was locked in an earlier gap, and has no child locked in this one
abbrev pub is_early : Rows → List ℕ → (ℕ → ℕ) → (ℕ → ℕ) → ℕ → Bool
is_early rows list lock release node =
    nat_lt (lock node) (release node) && not (has_child_in rows list lock (release node) node)

-- the steps of a gap: first the early unlocks, then the locks, then the other unlocks, each in the list's order
abbrev pub gap_steps : Rows → List ℕ → (ℕ → ℕ) → (ℕ → ℕ) → ℕ → List Step
gap_steps rows list lock release gap =
    map Unlock (filter (λ node. (release node == gap) && is_early rows list lock release node) list)
    ++ (map Lock (filter (λ node. lock node == gap) list)
    ++ map Unlock (filter (λ node. (release node == gap) && not (is_early rows list lock release node)) list))

-- the gaps below a number, each with its access
abbrev pub steps_below : Rows → List ℕ → (ℕ → ℕ) → (ℕ → ℕ) → ℕ → List Step
steps_below rows list lock release zero = []
steps_below rows list lock release (suc gap) =
    steps_below rows list lock release gap ++ (gap_steps rows list lock release gap ++ Access gap ∷ [])

-- a plan of m accesses, its last gap after them all
abbrev pub laid_out : Rows → List ℕ → (ℕ → ℕ) → (ℕ → ℕ) → ℕ → List Step
laid_out rows list lock release m = steps_below rows list lock release m ++ gap_steps rows list lock release m

-- The names above and at a node.
use Rattle.std.proofs.Common.{◌≡◌, ℕ, zero, suc, ◌<◌, List, [], ◌∷◌, ◌++◌, length, Option, Some, None, refl, ap, arith}
use Rattle.grove_tree.specs.Trees.{Rows, parent_of, name_of, IsTree}
use Rattle.grove_tree.specs.Paths.{names_within}
use Rattle.grove_tree.proofs.Above.{parent_lt, parent_within}

abbrev pub names_of : Rows → ℕ → List ℕ
names_of rows node = names_within rows (length rows) node

names_enough_by : (rows : Rows) (n v : ℕ) (o : Option ℕ) → parent_of rows v ≡ o
    → ((p : ℕ) → o ≡ Some p → names_within rows (suc n) p ≡ names_within rows n p) → names_within rows (suc (suc n)) v ≡ names_within rows (suc n) v
names_enough_by rows n v None e more = rw e refl
names_enough_by rows n v (Some p) e more = rw e (ap (λ (names : List ℕ). names ++ 47 ∷ name_of rows v) (more p refl))

-- more steps than a node's number find no more names
names_enough : (rows : Rows) → IsTree rows → (n v : ℕ) → v < n → names_within rows (suc n) v ≡ names_within rows n v
names_enough rows tree zero v lt = absurd (omega arith)
names_enough rows tree (suc n) v lt = names_enough_by rows n v (parent_of rows v) refl
    (λ p e. let low : p < v = parent_lt rows tree v p e in names_enough rows tree n p (omega arith))

names_step_within : (rows : Rows) → IsTree rows → (v p n : ℕ) → v < n → parent_of rows v ≡ Some p → names_within rows n v ≡ names_within rows n p ++ 47 ∷ name_of rows v
names_step_within rows tree v p zero lt h = absurd (omega arith)
names_step_within rows tree v p (suc n) lt h = grind (arith, names_enough, parent_lt)

-- a node's names are its parent's and its own
pub names_step : (rows : Rows) → IsTree rows → (v p : ℕ) → parent_of rows v ≡ Some p → names_of rows v ≡ names_of rows p ++ 47 ∷ name_of rows v
names_step rows tree v p h = names_step_within rows tree v p (length rows) (parent_within rows v p h) h

names_root_within : (rows : Rows) (v n : ℕ) → parent_of rows v ≡ None → names_within rows n v ≡ []
names_root_within rows v zero h = refl
names_root_within rows v (suc n) h = rw h refl

-- a node without a parent has none
pub names_root : (rows : Rows) (v : ℕ) → parent_of rows v ≡ None → names_of rows v ≡ []
names_root rows v h = names_root_within rows v (length rows) h

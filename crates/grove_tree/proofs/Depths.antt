-- The depth of a node is one more than its parent's.
use Rattle.std.proofs.Common.{◌≡◌, ℕ, zero, suc, ◌+◌, ◌<◌, List, length, get_or, Option, Some, None, refl, ap, arith}
use Rattle.grove_tree.specs.Trees.{Rows, IsTree, parent_of, depth_within, depth_of}
use Rattle.grove_tree.specs.Depths.{AreDepths}
use Rattle.grove_tree.proofs.Above.{parent_within, parent_lt}

depth_enough_by : (rows : Rows) (n v : ℕ) (o : Option ℕ) → parent_of rows v ≡ o
    → ((p : ℕ) → o ≡ Some p → depth_within rows (suc n) p ≡ depth_within rows n p) → depth_within rows (suc (suc n)) v ≡ depth_within rows (suc n) v
depth_enough_by rows n v None e more = rw e refl
depth_enough_by rows n v (Some p) e more = rw e (ap suc (more p refl))

-- more steps than a node's number find no more parents
depth_enough : (rows : Rows) (bound : ℕ) → ((v p : ℕ) → v < bound → parent_of rows v ≡ Some p → p < v)
    → (n v : ℕ) → v < n → v < bound → depth_within rows (suc n) v ≡ depth_within rows n v
depth_enough rows bound less zero v lt under = absurd (omega arith)
depth_enough rows bound less (suc n) v lt under = depth_enough_by rows n v (parent_of rows v) refl
    (λ p e. let low : p < v = less v p under e in depth_enough rows bound less n p (omega arith) (omega arith))

depth_step_within : (rows : Rows) (bound : ℕ) → ((v p : ℕ) → v < bound → parent_of rows v ≡ Some p → p < v)
    → (v p n : ℕ) → v < bound → v < n → parent_of rows v ≡ Some p → depth_within rows n v ≡ suc (depth_within rows n p)
depth_step_within rows bound less v p zero under lt h = absurd (omega arith)
depth_step_within rows bound less v p (suc n) under lt h = grind (arith, depth_enough)

-- a row lies one deeper than its parent, where the parents up to it stand before their rows
pub depth_step : (rows : Rows) (bound : ℕ) → ((v p : ℕ) → v < bound → parent_of rows v ≡ Some p → p < v)
    → (v p : ℕ) → v < bound → parent_of rows v ≡ Some p → depth_of rows v ≡ suc (depth_of rows p)
depth_step rows bound less v p under h = depth_step_within rows bound less v p (length rows) under (parent_within rows v p h) h

depth_root_within : (rows : Rows) (v n : ℕ) → parent_of rows v ≡ None → depth_within rows n v ≡ 0
depth_root_within rows v zero h = refl
depth_root_within rows v (suc n) h = rw h refl

-- a row without a parent is not deep
pub depth_root : (rows : Rows) (v : ℕ) → parent_of rows v ≡ None → depth_of rows v ≡ 0
depth_root rows v h = depth_root_within rows v (length rows) h

-- a node of a tree lies one deeper than its parent, whose depth stands among those before
pub depth_below : (rows : Rows) → IsTree rows → (node : ℕ) (before : List ℕ) → AreDepths rows node before → (parent : ℕ) → parent_of rows node ≡ Some parent
    → (parent < length before) × ((other : ℕ) → get_or before parent other + 1 ≡ depth_of rows node)
depth_below rows tree node before (long, each) parent own =
    let less : parent < node = parent_lt rows tree node parent own in
    let step : depth_of rows node ≡ suc (depth_of rows parent) = depth_step rows (suc node) (λ v p lt h. parent_lt rows tree v p h) node parent (omega arith) own in
    (omega arith, λ other. let is = each parent other less in omega arith)

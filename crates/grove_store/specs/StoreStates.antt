-- A store, as its callers see it.
use Rattle.std.specs.Prelude.{◌≡◌, ℕ, ◌^◌, ◌<◌, ◌≤◌, ◌==◌, not, ℤ, List, length, replicate, All}
use Rattle.grove_base.specs.Numbers.{count_below}
use Rattle.grove_tree.specs.Trees.{Rows, IsTree, weight_of}
use Rattle.grove_tree.specs.Weights.{unweighed}
use Rattle.grove_tree.specs.Rules.{IsWithinLimits}
use Rattle.grove_meter.specs.Waits.{reweighed}

-- a tree, a record and the waits of each node, the number of workers, and how many rounds were run
pub record StoreState : Type 0 where
  pub rows : Rows
  pub records : List ℤ
  pub waits : List ℕ
  pub workers : ℕ
  pub rounds : ℕ

-- what holds of every store
pub record IsStore (store : StoreState) : Type 0 where
  pub tree : IsTree store.rows
  pub limits : IsWithinLimits store.rows
  pub recorded : length store.records ≡ length store.rows
  pub waited : length store.waits ≡ length store.rows
  pub few : All (λ waits. waits ≤ 1000) store.waits
  pub some_workers : 1 ≤ store.workers
  pub few_workers : store.workers ≤ 16
  pub counted : store.rounds < 2 ^ 64

-- what lines leave of a store: one over the same names, with as many workers
pub record IsSuccessor (before after : StoreState) : Type 0 where
  pub old : IsStore before
  pub new : IsStore after
  pub names : unweighed after.rows ≡ unweighed before.rows
  pub workers : after.workers ≡ before.workers

-- a store that has answered nothing yet
abbrev pub opened : Rows → List ℤ → ℕ → StoreState
opened rows records workers =
    record { rows = rows; records = records; waits = replicate (length rows) 0; workers = workers; rounds = 0 }

-- how many nodes have another weight in the new rows than in the old ones
abbrev pub changes : Rows → Rows → ℕ
changes old new = count_below (length old) (λ node. not (weight_of new node == weight_of old node))

-- the store whose weights have learned from its waits, which begin anew
abbrev pub reweighed_store : StoreState → StoreState
reweighed_store before =
    record before { rows = reweighed before.waits before.rows; waits = replicate (length before.rows) 0 }

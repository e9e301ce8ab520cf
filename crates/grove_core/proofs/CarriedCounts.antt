-- What a carry knows is held and apart: it has all out that its job holds where it knows as many nodes.
use Rattle.std.proofs.Common.{◌≡◌, ℕ, suc, ◌<◌, true, List, [], ◌∷◌, length, Some, is_some, refl, ◌∙◌, ap, arith}
use Rattle.std.specs.List.{slice_get}
use Rattle.grove_base.specs.Numbers.{count_below}
use Rattle.grove_base.proofs.Counting.{same_tests}
use Rattle.grove_access.specs.declared.known.Known.{Known}
use Rattle.grove_access.specs.Carries.{Carried, known_at, AreApart}
use Rattle.grove_access.proofs.CarriedNodes.{known_first, known_later}
use Rattle.grove_core.specs.Runs.{holds}
use Rattle.grove_core.specs.Kept.{CoreState, past_of}
use Rattle.grove_core.specs.CarriedTests.{KnowsAll, HasAll}
use Rattle.grove_core.proofs.CountChanges.{count_zero, count_agree, count_added, count_full}
use Rattle.grove_core.proofs.CarriedEntries.{known_item, some_true}

-- nodes that are apart are as many as are out
out_count : (n : ℕ) (known : List Known) → AreApart known → ((i : ℕ) (k : Known) → slice_get known i ≡ Some k → k.node < n) → count_below n (λ node. is_some (known_at known node)) ≡ length known
out_count n [] apart within = count_zero n (λ node. is_some (known_at [] node)) (λ node. refl)
out_count n (k ∷ known) apart within =
    count_added n k.node (λ node. is_some (known_at known node)) (λ node. is_some (known_at (k ∷ known) node)) (within 0 k refl)
    (ap is_some apart.0) (ap is_some (known_first (k ∷ known) k known k.node refl refl))
    (λ node ne. ap is_some (known_later (k ∷ known) k known node refl ne))
    ∙ ap suc (out_count n known apart.1 (λ i. within (suc i)))

module _ (core : CoreState) (carry : Carried) (n : ℕ) (apart : AreApart carry.known) (knows : KnowsAll core carry.txn carry.known)
    (within : (node : ℕ) → holds core.jobs (past_of core) carry.txn node ≡ true → node < n) where
  known_count : count_below n (λ node. is_some (known_at carry.known node)) ≡ length carry.known
  known_count = out_count n carry.known apart (λ i k at. within k.node (knows i k at).0)

  out_held : (node : ℕ) → is_some (known_at carry.known node) ≡ true → holds core.jobs (past_of core) carry.txn node ≡ true
  out_held node out = grind (arith, known_item, some_true)

  -- as many nodes as are held: all of them
  pub has_counted : length carry.known ≡ count_below n (λ node. holds core.jobs (past_of core) carry.txn node) → HasAll core carry
  has_counted same = λ node held.
      count_full n (λ v. is_some (known_at carry.known v)) (λ v. holds core.jobs (past_of core) carry.txn v) out_held (known_count ∙ same) node (within node held) held

  -- and where all are out they are as many
  pub counted_has : HasAll core carry → length carry.known ≡ count_below n (λ node. holds core.jobs (past_of core) carry.txn node)
  counted_has has = grind (arith, count_agree, known_count, out_held, same_tests)

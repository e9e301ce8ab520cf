-- What keeps copies of a desk's store, each in place of the one before.
use Rattle.std.specs.Prelude.{Bool}
use Rattle.grove_store.specs.StoreStates.{StoreState, IsStore}
use Rattle.grove_desk.specs.Histories.{Led}

-- what keeps the copies, and whether one couldn't be kept
pub record CopiesState (K : Type 0) : Type 0 where
  pub keeper : K
  pub failed : Bool

-- what keeps stores stands for one to which lawful rounds lead from the opening one
pub record KeepsLed {K : Type 0} (stands_for : K → StoreState → Type 0) (opening : StoreState) (keeper : K) : Type 0
  where
    pub last : StoreState
    pub is_store : IsStore last
    pub led : Led opening last
    pub stands : stands_for keeper last

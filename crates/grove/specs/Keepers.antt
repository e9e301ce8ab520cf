-- For the proofs alone: what keeps the rounds of a served store.
use Rattle.grove.specs.declared.round_keeper.RoundKeeper.{RoundKeeper}
use Rattle.grove.specs.declared.round_keeper.RoundKeeper.TheVariants.{InMemory, InFile}

-- where rounds are kept in a file, this holds of what keeps them there
abbrev pub of_file : {K : Type 0} → RoundKeeper K → (K → Type 0) → Type 0
of_file InMemory Holds = Unit {0}
of_file (InFile kept) Holds = Holds kept

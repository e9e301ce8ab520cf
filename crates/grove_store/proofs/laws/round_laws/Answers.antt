use Rattle.grove_store.proofs.Longest.{rounds_fit, rounds_are_longest, others_are_alone, rounds_are_within}
use Rattle.grove_store.proofs.Feedless.{replies_are_feedless}
use Rattle.grove_store.proofs.RoundsKeep.{round_keeps}
use Rattle.grove_store.proofs.laws.round_laws.Goals as goal

pub returns-clause-fit : goal.returns-clause-fit
returns-clause-fit c = rounds_fit

pub returns-clause-longest : goal.returns-clause-longest
returns-clause-longest c = rounds_are_longest

pub returns-clause-alone : goal.returns-clause-alone
returns-clause-alone c = others_are_alone

pub returns-clause-within : goal.returns-clause-within
returns-clause-within c = rounds_are_within

pub returns-clause-feedless : goal.returns-clause-feedless
returns-clause-feedless c = replies_are_feedless

pub returns-clause-successors : goal.returns-clause-successors
returns-clause-successors c = λ before after lines replies round. (round_keeps before lines replies after round).0

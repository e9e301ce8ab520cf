-- The texts made so far, and then those of the counts, places and replies that are left, are all texts.
use Rattle.std.proofs.Common.{◌≡◌, ◌++◌, ◌+◌, map, drop, sum}
use Rattle.grove_store.specs.Rounds.{round_texts}
use Rattle.grove_store.proofs.texts.round_texts.Given as goal

abbrev pub invariant-loop-count : goal.invariant-loop-count
invariant-loop-count l = record {
  all : l.texts.items ++ round_texts l.round (drop l.count-index l.counts) (drop l.at l.places)
      (drop l.at (map (λ list. list.now) l.replies))
      ≡ round_texts l.round l.counts l.places (map (λ list. list.now) l.replies);
  within : l.at + sum (drop l.count-index l.counts) ≡ sum l.counts;
}

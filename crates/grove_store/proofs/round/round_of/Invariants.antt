-- The lines so far are batches that fit, and the round is as long as it has to be.
use Rattle.std.proofs.Common.{◌≡◌, ◌+◌, ◌-◌, length, map, drop}
use Rattle.grove_store.specs.Rounds.{fitting}
use Rattle.grove_store.specs.Parts.{HasBatches}
use Rattle.grove_store.proofs.round.round_of.Given as goal

abbrev pub invariant-loop-place : goal.invariant-loop-place
invariant-loop-place g l = record {
  same : l.others ≡ l.fn.others;
  has : HasBatches l.tree l.fn.first.items (map (λ asked. asked.line) l.fn.others) l.place l.counts.items l.lists.items;
  longest : l.place + fitting l.tree (256 - length l.lists.items) (drop l.place (map (λ asked. asked.line) l.fn.others))
      ≡ fitting l.tree (256 - length l.fn.first.items) (map (λ asked. asked.line) l.fn.others);
}

use Rattle.std.proofs.Common.{◌++◌, ◌+◌, ◌∙◌, ap, refl, arith, map, drop, get_or}
use Rattle.grove_store.specs.Refusals.{is_refusal}
use Rattle.grove_store.specs.Rounds.{round_texts}
use Rattle.grove_store.proofs.Accepted.{round_accepted}
use Rattle.grove_store.proofs.Telling.{texts_more, text_told, sum_more}
use Rattle.grove_store.proofs.texts.round_texts.Goals as goal

pub accepted-requires : goal.accepted-requires
accepted-requires c = ap is_refusal c.in_ok-text.ensures ∙ round_accepted c.args.round _ _

pub loop-count-preserved : goal.loop-count-preserved
loop-count-preserved c = record {
  all =
      ap (λ texts. texts ++ round_texts c.args.round (drop (c.loop-count.count-index + 1) c.args.counts.now)
      (drop (c.loop-count.at + get_or c.args.counts.now c.loop-count.count-index 0) c.args.places.now)
      (drop (c.loop-count.at + get_or c.args.counts.now c.loop-count.count-index 0) (map (λ list. list.now) c.args.replies.now))) c.in_ok-push.ensures.items
      ∙ texts_more c.args.round c.args.counts.now c.args.places.now
      (map (λ list. list.now) c.args.replies.now) c.loop-count.texts.items _ c.loop-count.count-index c.loop-count.at _
      c.accepted.result (omega arith) refl
      (text_told c.args.round (get_or c.args.counts.now c.loop-count.count-index 0) c.loop-count.at
      (c.loop-count.at + get_or c.args.counts.now c.loop-count.count-index 0) c.args.places.now c.args.replies.now
      c.accepted.result refl (c.accepted.ensures ∙ c.in_ok-text.ensures))
      c.loop-count.invariant.all;
  within = sum_more c.args.counts.now c.loop-count.count-index c.loop-count.at _ _ (omega arith) refl c.loop-count.invariant.within;
}

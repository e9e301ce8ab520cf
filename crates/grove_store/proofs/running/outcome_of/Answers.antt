use Rattle.std.proofs.Common.{◌≡◌, length, sym, ◌∙◌, ap, arith}
use Rattle.std.proofs.lemmas.List.{length-map}
use Rattle.grove_core.specs.Kept.{CoreState}
use Rattle.grove_store.proofs.Telling.{mapped_long}
use Rattle.grove_store.proofs.running.outcome_of.Goals as goal

pub round_texts-requires-clause-places : goal.round_texts-requires-clause-places
round_texts-requires-clause-places c =
    let long : length c.deref.result.now ≡ length c.args.finished.core.jobs = ap length c.deref.ensures.value ∙ ap length c.in_ok-places.ensures ∙ mapped_long _ _ in
    omega (arith, c.requires.jobs)

pub round_texts-requires-clause-replies : goal.round_texts-requires-clause-replies
round_texts-requires-clause-replies c =
    let long : length c.deref-2.result.now ≡ length c.args.finished.core.jobs =
    ap length c.deref-2.ensures.value ∙ sym (length-map c.in_ok-replies.replies.items (λ list. list.now)) ∙ ap length c.in_ok-replies.ensures ∙ mapped_long _ _
    ∙ ap (λ (core : CoreState). length core.jobs) c.core.ensures.core in
    omega (arith, c.requires.jobs)

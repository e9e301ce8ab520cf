use Rattle.std.proofs.Common.{◌≡◌, length, sym, ◌∙◌, ap, arith}
use Rattle.std.proofs.lemmas.List.{length-map}
use Rattle.grove_store.proofs.Telling.{mapped_long}
use Rattle.grove_store.proofs.running.alone_texts.Goals as goal

pub round_texts-requires-clause-places : goal.round_texts-requires-clause-places
round_texts-requires-clause-places c =
    let long : length c.deref-2.result.now ≡ length c.args.jobs.now =
    ap length c.deref-2.ensures.value ∙ ap length c.in_ok-places.ensures ∙ mapped_long _ _ in
    omega (arith, c.requires.jobs)

pub round_texts-requires-clause-replies : goal.round_texts-requires-clause-replies
round_texts-requires-clause-replies c =
    let long : length c.deref-3.result.now ≡ length c.args.jobs.now =
    ap length c.deref-3.ensures.value ∙ sym (length-map c.in_ok-replies.replies.items (λ list. list.now))
    ∙ ap length c.in_ok-replies.ensures ∙ mapped_long _ _ in
    omega (arith, c.requires.jobs)

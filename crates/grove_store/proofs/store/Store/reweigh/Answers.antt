use Rattle.std.proofs.Common.{◌≡◌, ℕ, List, ◌∙◌, sym, ap, subst, length, replicate, arith, vec_len}
use Rattle.std.specs.Prelude.{All}
use Rattle.std.proofs.lemmas.List.Elements.{All-nil}
use Rattle.grove_tree.specs.Trees.{Rows}
use Rattle.grove_meter.specs.Waits.{reweighed}
use Rattle.grove_build.specs.KeptPlans.{AreSettledFor}
use Rattle.grove_store.specs.StoreStates.{StoreState}
use Rattle.grove_store.specs.KeptTexts.{KeptText, RepliesFor}
use Rattle.grove_store.specs.Parts.{AnswersReweigh}
use Rattle.grove_build.proofs.NothingKept.{nothing_kept}
use Rattle.grove_store.proofs.Telling.{text_made}
use Rattle.grove_store.proofs.Reweighing.{reweighed_is, reweigh_answers}
use Rattle.grove_store.proofs.store.Store.reweigh.Goals as goal

pub invariant_of-self : goal.invariant_of-self
invariant_of-self g c =
    let waits = c.self.inside.waits in
    let waited : length waits.items ≡ length c.self.inside.tree = c.self.invariant.0.waited in
    let long : vec_len waits ≡ length c.self.inside.tree = omega (arith, waits.ok.0) in (
      reweighed_is _ c.reweigh-changed.new.tree c.fill.new.self.items c.self.invariant.0
          (c.reweigh-changed.ensures.rows ∙ ap (λ (ws : List ℕ). reweighed ws c.in_ok-tree.tree) c.deref.ensures.value ∙ ap (λ (rows : Rows). reweighed waits.items rows) c.in_ok-tree.ensures)
          (c.fill.ensures.items (λ y e. e) ∙ ap (λ (n : ℕ). replicate n 0) long),
      subst (AreSettledFor c.reweigh-changed.new.tree) (sym c.forget.ensures) (nothing_kept c.reweigh-changed.new.tree),
      subst (λ (texts : List KeptText). All (RepliesFor c.reweigh-changed.new.tree) texts) (sym c.forget-2.ensures) (All-nil (RepliesFor c.reweigh-changed.new.tree)),
    )

pub returns-clause-reply : goal.returns-clause-reply
returns-clause-reply g c =
    let waits = c.self.inside.waits in
    let waited : length waits.items ≡ length c.self.inside.tree = c.self.invariant.0.waited in
    let long : vec_len waits ≡ length c.self.inside.tree = omega (arith, waits.ok.0) in
    let made = text_made c.changed_text.result c.in_ok-replies.replies.items c.changed_text.ensures
    c.in_ok-replies.ensures in
    let before : StoreState = record { rows = c.self.inside.tree; records = c.self.inside.records; waits = waits.items; workers = c.self.inside.workers; rounds = c.self.inside.rounds } in
    subst (λ (store : StoreState). AnswersReweigh store c.in_ok-replies.replies.items
    (record before { rows = c.reweigh-changed.new.tree; waits = c.fill.new.self.items })) c.self.view_is
    (reweigh_answers before c.in_ok-tree.tree c.reweigh-changed.new.tree c.deref.result.now c.fill.new.self.items made.0
    c.reweigh-changed.result _
    c.in_ok-tree.ensures c.deref.ensures.value c.reweigh-changed.ensures.rows c.reweigh-changed.ensures.count (c.fill.ensures.items (λ y e. e) ∙ ap (λ (n : ℕ). replicate n 0) long)
    made.1 made.2)

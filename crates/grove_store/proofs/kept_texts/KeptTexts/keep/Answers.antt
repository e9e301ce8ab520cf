use Rattle.std.proofs.Common.{List, sym, subst, ◌∙◌}
use Rattle.std.specs.Prelude.{All}
use Rattle.std.proofs.lemmas.List.Elements.{All-nil}
use Rattle.grove_store.specs.KeptTexts.{KeptText, RepliesFor}
use Rattle.grove_store.proofs.kept_texts.KeptTexts.keep.Goals as goal
use Rattle.grove_store.proofs.kept_texts.KeptTexts.keep.Goals.{then-not-has_room, else-not-has_room}

pub returns : goal.returns
returns c =
    λ rows before own.
    let room : All (RepliesFor rows) c.if-not-has_room.self =
    elim c.if-not-has_room.branch [
      | then-not-has_room w ↦
          subst (λ (texts : List KeptText). All (RepliesFor rows) texts) (sym (w.self-is ∙ w.forget.ensures)) (All-nil (RepliesFor rows))
      | else-not-has_room w ↦ subst (λ (texts : List KeptText). All (RepliesFor rows) texts) (sym w.self-is) before
    ] in
    c.add.ensures rows room own

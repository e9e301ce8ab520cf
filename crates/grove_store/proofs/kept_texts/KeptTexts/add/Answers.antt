use Rattle.std.proofs.Common.{◌≡◌, List, length, sym, subst, ◌∙◌, map, arith}
use Rattle.std.specs.Prelude.{All}
use Rattle.std.proofs.lemmas.List.Elements.{All-push}
use Rattle.grove_store.specs.KeptTexts.{KeptText, kept_text, RepliesFor}
use Rattle.grove_store.proofs.TextEntries.{kept_at, added_last, last_fits}
use Rattle.grove_store.proofs.kept_texts.KeptTexts.add.Goals as goal

pub invariant_of-self-2 : goal.invariant_of-self-2
invariant_of-self-2 c =
    let count : c.len-bytes.result ≡ length c.args.text.items = omega (arith, c.args.text.ok.0) in
    last_fits (λ key. key.items) (λ text. text.items) c.self.inside.texts.entries c.insert.new.self.entries (kept_text c.args.targets.items c.args.text.items)
    c.self.inside.bytes c.len-bytes.result
    (added_last (λ key. key.items) (λ text. text.items) _ c.self.inside.texts c.args.targets c.args.text c.insert.new.self.entries (sym c.contains_key.ensures ∙ c.if-contains_key.false) c.in_ok-insert.ensures.entries)
    (rw c.self.view_is c.requires.few) (rw c.self.view_is c.requires.room) c.self.invariant.2 count

pub returns : goal.returns
returns c =
    λ rows before own.
    let all : List KeptText = map (kept_at (λ key. key.items) (λ text. text.items)) c.self.inside.texts.entries in
    let kept : All (RepliesFor rows) all = subst (λ (texts : List KeptText). All (RepliesFor rows) texts) (sym c.self.view_is) before in
    subst (λ (texts : List KeptText). All (RepliesFor rows) texts)
    (sym (added_last (λ key. key.items) (λ text. text.items) _ c.self.inside.texts c.args.targets c.args.text c.insert.new.self.entries (sym c.contains_key.ensures ∙ c.if-contains_key.false) c.in_ok-insert.ensures.entries))
    (All-push (RepliesFor rows) all (kept_text c.args.targets.items c.args.text.items) kept own)

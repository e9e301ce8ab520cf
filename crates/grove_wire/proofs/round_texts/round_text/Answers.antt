use Rattle.std.proofs.Common.{◌++◌, map, ap, ◌∙◌}
use Rattle.json.specs.Print.{print}
use Rattle.grove_wire.proofs.RoundTexts.{round_written}
use Rattle.grove_wire.proofs.round_texts.round_text.Goals as goal

pub returns : goal.returns
returns c =
    c.into_inner.ensures.items
    ∙ ap (λ before. before ++ print c.end_object.new.self.tokens)
    (c.in_ok-end_object.ensures.room.0 ∙ c.in_ok-u64.ensures.room.0 ∙ c.in_ok-key-3.ensures.room.0
    ∙ c.in_ok-write_lists.ensures.before ∙ c.in_ok-key-2.ensures.room.0 ∙ c.in_ok-write_counts.ensures.before
    ∙ c.in_ok-key.ensures.room.0 ∙ c.in_ok-begin_object.ensures.room.0 ∙ c.new-writer.ensures.before
    ∙ c.in_ok-with_capacity.ensures.items)
    ∙ round_written c.args.round c.args.places.now (map (λ list. list.now) c.args.replies.now) _ _ _ _ _ _ _ _ _
    c.new-writer.ensures.tokens c.in_ok-begin_object.ensures.ok c.in_ok-key.ensures.ok
    c.in_ok-write_counts.ensures.tokens c.in_ok-key-2.ensures.ok c.in_ok-write_lists.ensures.tokens
    c.in_ok-key-3.ensures.ok c.in_ok-u64.ensures.ok c.in_ok-end_object.ensures.ok

use Rattle.std.proofs.Common.{refl, sym, ap, ◌∙◌, ◌++◌}
use Rattle.std.proofs.lemmas.Simd.{map-map}
use Rattle.json.specs.Tree.{json_tokens}
use Rattle.serde_json.specs.Data.{array}
use Rattle.serde_json.specs.View.{items_of}
use Rattle.serde_json.specs.Written.{outline}
use Rattle.grove_wire.specs.Writing.{array_of, reply_data}
use Rattle.grove_wire.proofs.Tokens.{all_written, array_told}
use Rattle.grove_wire.proofs.round_texts.write_lists.Goals as goal

pub returns-clause-tokens : goal.returns-clause-tokens
returns-clause-tokens c =
    let old = c.args.writer.now.tokens in
    array_told (λ list. array_of reply_data list.now) c.args.replies.now old _ _ _ refl
    (all_written (λ list. array_of reply_data list.now) _ _ _ _ c.loop-list-test.false c.loop-list.invariant.tokens)
    c.in_ok-end_array.ensures.ok
    ∙ ap (λ ds. old ++ json_tokens (outline (array (items_of ds))))
    (sym (map-map (array_of reply_data) (λ list. list.now) c.args.replies.now))

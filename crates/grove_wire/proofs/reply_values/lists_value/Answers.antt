use Rattle.std.proofs.Common.{◌∙◌, ap, sym}
use Rattle.std.proofs.lemmas.Simd.{map-map}
use Rattle.serde_json.specs.Data.{array}
use Rattle.serde_json.specs.View.{items_of}
use Rattle.grove_wire.specs.Writing.{array_of, reply_data}
use Rattle.grove_wire.proofs.Written.{written_all}
use Rattle.grove_wire.proofs.reply_values.lists_value.Goals as goal

pub returns : goal.returns
returns c = written_all c.loop-list.items c.args.replies.now c.loop-list.list-index
    (λ list. array_of reply_data list.now) c.loop-list-test.false c.loop-list.invariant
    ∙ ap (λ ds. array (items_of ds)) (sym (map-map (array_of reply_data) (λ list. list.now) c.args.replies.now))

use Rattle.std.specs.Prelude.{string_bytes}
use Rattle.std.proofs.lemmas.Str.{IsUtf8-string_bytes}
use Rattle.serde_json.specs.View.{view}
use Rattle.grove_wire.proofs.Documents.{value_read}
use Rattle.grove_answer.proofs.documents.line_of.Goals as goal

pub returns : goal.returns
returns c =
    let d = view c.args.value.now in
    let text = string_bytes c.in_ok-line.line in
    let is_utf8 = IsUtf8-string_bytes c.in_ok-line.line in
    let reads = value_read text d is_utf8 (c.in_ok-line.ensures.reads_back c.requires) in
    (text, reads, c.in_ok-push_str.ensures.bytes)

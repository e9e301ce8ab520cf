use Rattle.std.proofs.Common.{◌≡◌}
use Rattle.std.specs.Prelude.{string_bytes}
use Rattle.std.proofs.lemmas.Str.{IsUtf8-string_bytes}
use Rattle.serde_json.specs.View.{view}
use Rattle.grove_wire.specs.Documents.{document_data}
use Rattle.grove_wire.proofs.DocumentTexts.{document_has_no_float, document_opens}
use Rattle.grove_wire.proofs.tree_values.document_text.Goals as goal

pub returns-clause-opens : goal.returns-clause-opens
returns-clause-opens c =
    let rows = c.args.tree.now in
    let records = c.args.records.now in
    let value : view c.in_ok-document.document ≡ document_data rows records = c.in_ok-document.ensures.value in
    let text = rw value at c.in_ok-to_string.ensures.text in
    let short = rw value at c.in_ok-document.ensures.short in
    let reads = rw value at c.in_ok-to_string.ensures.reads_back in
    let s = c.in_ok-to_string.field-0 in
    document_opens rows records (string_bytes s) (IsUtf8-string_bytes s) (text (document_has_no_float rows records)) short reads

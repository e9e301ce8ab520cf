use Rattle.std.proofs.Common.{◌≡◌, ◌++◌, ◌∷◌, [], rules, string_bytes}
use Rattle.grove_wire.specs.Documents.{document_text}
use Rattle.grove.proofs.tables.document_of.Goals as goal

pub returns : goal.returns
returns c =
    let read = rw c.as_bytes.ensures.value at c.in_ok-lines.ensures.read in
    let made = rw c.deref.ensures.value at c.in_ok-tree.ensures.made in
    let text : string_bytes c.in_ok-format.field-0 ≡ document_text c.in_ok-tree.tree c.in_ok-tree.records ++ 10 ∷ [] = search rules in
    (c.in_ok-lines.lines.items, read, c.in_ok-tree.tree, c.in_ok-tree.records, made, text)

use Rattle.std.proofs.Common.{◌≡◌, ◌++◌, ◌∙◌, ap, w64, rules}
use Rattle.std.proofs.lemmas.Int.{to_z-of_z}
use Rattle.std.specs.Prelude.{slice_index, FitsSigned}
use Rattle.grove_access.specs.Effects.{record_at}
use Rattle.grove_tree.specs.Trees.{weight_of}
use Rattle.grove_page.specs.NodeTexts.{entry_end}
use Rattle.grove_page.proofs.NodeTexts.{entry_written}
use Rattle.grove_page.proofs.nodes.Listing.write_node.Goals as goal

pub returns : goal.returns
returns c =
    let waited : c.from-waited.result ≡ slice_index c.args.self.now.waits c.args.node = search rules in
    let weight : c.from-weight.result ≡ weight_of c.args.self.now.rows c.args.node = search rules in
    let records : c.records.result.now ≡ c.args.self.now.records = search rules in
    let fits : FitsSigned w64 c.get-value.result = search rules in
    let ends : c.write_end.new.line.items ≡ c.write_start.new.line.items
    ++ entry_end c.get-value.result c.from-waited.result c.from-weight.result =
    c.in_ok-write_end.ensures
    ∙ ap (λ n. c.write_start.new.line.items ++ entry_end n c.from-waited.result c.from-weight.result)
    (to_z-of_z w64 c.get-value.result fits) in
    entry_written c.args.self.now.rows c.args.self.now.records c.args.self.now.waits c.args.node c.args.line.now.items
    c.write_start.new.line.items c.write_end.new.line.items c.get-value.result c.from-waited.result c.from-weight.result
    c.in_ok-write_start.ensures ends (c.get-value.ensures ∙ ap (λ rs. record_at rs c.args.node) records) waited weight

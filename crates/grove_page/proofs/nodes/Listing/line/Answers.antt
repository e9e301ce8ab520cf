use Rattle.std.proofs.Common.{◌≡◌, ◌++◌, codes, decimal, false, length, ap, sym, ◌∙◌, rules}
use Rattle.grove_base.specs.Numbers.{passing_below}
use Rattle.grove_page.specs.NodeLines.{is_told}
use Rattle.grove_page.specs.NodeTexts.{entries_text}
use Rattle.grove_page.proofs.NodeTexts.{all_written, whole_text}
use Rattle.grove_page.proofs.nodes.Listing.line.Goals as goal

pub returns : goal.returns
returns c =
    let round : c.rounds.result ≡ c.args.self.now.rounds = search rules in
    let nodes = passing_below (length c.args.self.now.rows) (is_told c.args.self.now.rows c.args.part.now) in
    let told = entries_text c.args.self.now.rows c.args.self.now.records c.args.self.now.waits false nodes in
    all_written c.in_ok-line.line.items c.extend_from_slice.new.self.items c.write_nodes.new.line.items
    c.extend_from_slice-2.new.self.items
    c.write_number.new.line.items c.extend_from_slice-3.new.self.items
    (codes "{\"nodes\":[") told (codes "],\"round\":") (decimal c.args.self.now.rounds) (codes "}\n")
    c.in_ok-line.ensures.items c.in_ok-extend_from_slice.ensures.items c.in_ok-write_nodes.ensures
    c.in_ok-extend_from_slice-2.ensures.items
    (c.in_ok-write_number.ensures ∙ ap (λ n. c.extend_from_slice-2.new.self.items ++ decimal n) round)
    c.in_ok-extend_from_slice-3.ensures.items
    ∙ sym (whole_text c.args.self.now.rows c.args.self.now.records c.args.self.now.waits nodes c.args.self.now.rounds)

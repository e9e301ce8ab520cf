use Rattle.std.proofs.Common.{ℕ, List, ◌∷◌, ◌++◌, [], codes, decimal}
use Rattle.json.specs.Token.{Token, begin_object, key, string, number}
use Rattle.grove_tree.specs.Paths.{path_of}
use Rattle.grove_wire.proofs.Tokens.{then_more}
use Rattle.grove_wire.proofs.flow_texts.write_row.Goals as goal

-- a member that is a count
counted : List ℕ → ℕ → List Token
counted name count = key name ∷ number (decimal count) ∷ []

pub returns-clause-tokens : goal.returns-clause-tokens
unfolding counted
returns-clause-tokens c =
    let old = c.args.writer.now.tokens in
    let row = c.args.row.now in
    let path = path_of c.args.paths.now row.node in
    let opening = begin_object ∷ [] in
    let above = opening ++ counted (codes "above") row.above in
    let first = above ++ counted (codes "first") row.first in
    let held = first ++ counted (codes "held") row.held in
    let last = held ++ counted (codes "last") row.last in
    let node = last ++ key (codes "node") ∷ [] in
    let whose = node ++ string path ∷ [] in
    let own = whose ++ counted (codes "own") row.own in
    let to_above = then_more old opening _ _ _ c.in_ok-begin_object.ensures.ok c.in_ok-write_count.ensures.tokens in
    let to_first = then_more old above _ _ _ to_above c.in_ok-write_count-2.ensures.tokens in
    let to_held = then_more old first _ _ _ to_first c.in_ok-write_count-3.ensures.tokens in
    let to_last = then_more old held _ _ _ to_held c.in_ok-write_count-4.ensures.tokens in
    let to_node = then_more old last _ _ _ to_last c.in_ok-key.ensures.ok in
    let to_path = then_more old node _ _ _ to_node c.in_ok-write.ensures.tokens in
    let to_own = then_more old whose _ _ _ to_path c.in_ok-write_count-5.ensures.tokens in
    then_more old own _ _ _ to_own c.in_ok-end_object.ensures.ok

use Rattle.std.proofs.Common.{◌++◌, ap, ◌∙◌, refl}
use Rattle.json.specs.Tree.{json_tokens}
use Rattle.serde_json.specs.Written.{outline}
use Rattle.grove_tree.specs.Trees.{Rows}
use Rattle.grove_wire.specs.Writing.{flow_row_data}
use Rattle.grove_wire.proofs.Tokens.{one_more, all_written, array_told}
use Rattle.grove_wire.proofs.flow_texts.write_flow.Goals as goal

pub loop-row-preserved : goal.loop-row-preserved
loop-row-preserved c =
    let rows = c.args.paths.now in
    let same = c.loop-row.invariant.tree in
    let here = λ (rows : Rows).
    c.loop-row.writer.tokens ++ json_tokens (outline (flow_row_data rows c.row-item.result)) in
    let written = c.in_ok-write_row.ensures.tokens ∙ ap here same in
    record {
      tokens = one_more (flow_row_data rows) _ _ _ _ _ _ c.loop-row-test.true c.row-item.is
          c.loop-row.invariant.tokens written;
      before = c.in_ok-write_row.ensures.before ∙ c.loop-row.invariant.before;
      tree = c.in_ok-write_row.ensures.tree ∙ same;
    }

pub returns-clause-tokens : goal.returns-clause-tokens
returns-clause-tokens c =
    let data_of = flow_row_data c.args.paths.now in
    array_told data_of c.args.rows.now c.args.writer.now.tokens _ _ _ refl
    (all_written data_of _ _ _ _ c.loop-row-test.false c.loop-row.invariant.tokens) c.in_ok-end_array.ensures.ok

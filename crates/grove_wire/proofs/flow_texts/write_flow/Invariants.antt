use Rattle.std.proofs.Common.{◌≡◌, ◌∷◌, [], ◌++◌, take}
use Rattle.json.specs.Token.{begin_array}
use Rattle.grove_wire.specs.Writing.{flow_row_data}
use Rattle.grove_wire.specs.Tokens.{tokens_of}
use Rattle.grove_wire.proofs.flow_texts.write_flow.Given as goal

-- the tokens of the rows so far
abbrev pub invariant-loop-row : goal.invariant-loop-row
invariant-loop-row l = record {
  tokens : l.writer.tokens
      ≡ (l.fn.writer.tokens ++ begin_array ∷ [])
      ++ tokens_of (flow_row_data l.fn.paths) (take l.row-index l.rows);
  before : l.writer.before ≡ l.fn.writer.before;
  tree : l.paths ≡ l.fn.paths;
}

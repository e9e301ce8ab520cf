use Rattle.std.proofs.Common.{◌≡◌, ◌∷◌, [], ◌++◌, take}
use Rattle.json.specs.Token.{begin_array}
use Rattle.grove_wire.specs.Writing.{count_data}
use Rattle.grove_wire.specs.Tokens.{tokens_of}
use Rattle.grove_wire.proofs.round_texts.write_counts.Given as goal

-- the tokens of the items so far
abbrev pub invariant-loop-count : goal.invariant-loop-count
invariant-loop-count l = record {
  tokens : l.writer.tokens
      ≡ (l.fn.writer.tokens ++ begin_array ∷ [])
      ++ tokens_of count_data (take l.count-index l.counts);
  before : l.writer.before ≡ l.fn.writer.before;
}

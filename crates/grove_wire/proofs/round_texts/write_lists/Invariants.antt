use Rattle.std.proofs.Common.{◌≡◌, ◌∷◌, [], ◌++◌, take}
use Rattle.json.specs.Token.{begin_array}
use Rattle.grove_wire.specs.Writing.{array_of, reply_data}
use Rattle.grove_wire.specs.Tokens.{tokens_of}
use Rattle.grove_wire.proofs.round_texts.write_lists.Given as goal

-- the tokens of the items so far
abbrev pub invariant-loop-list : goal.invariant-loop-list
invariant-loop-list l = record {
  tokens : l.writer.tokens
      ≡ (l.fn.writer.tokens ++ begin_array ∷ [])
      ++ tokens_of (λ list. array_of reply_data list.now) (take l.list-index l.replies);
  before : l.writer.before ≡ l.fn.writer.before;
}

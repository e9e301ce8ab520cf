use Rattle.std.proofs.Common.{◌≡◌, ◌∷◌, [], ◌++◌, take}
use Rattle.json.specs.Token.{begin_array}
use Rattle.grove_wire.specs.Writing.{reply_data}
use Rattle.grove_wire.specs.Tokens.{tokens_of}
use Rattle.grove_wire.proofs.round_texts.write_replies.Given as goal

-- the tokens of the items so far
abbrev pub invariant-loop-reply : goal.invariant-loop-reply
invariant-loop-reply l = record {
  tokens : l.writer.tokens
      ≡ (l.fn.writer.tokens ++ begin_array ∷ [])
      ++ tokens_of reply_data (take l.reply-index l.replies);
  before : l.writer.before ≡ l.fn.writer.before;
}

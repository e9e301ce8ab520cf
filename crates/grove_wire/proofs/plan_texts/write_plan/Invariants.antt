use Rattle.std.proofs.Common.{◌≡◌, ◌∷◌, [], ◌++◌, take}
use Rattle.json.specs.Token.{begin_array}
use Rattle.grove_wire.specs.Writing.{step_data}
use Rattle.grove_wire.specs.Tokens.{tokens_of}
use Rattle.grove_wire.proofs.plan_texts.write_plan.Given as goal

-- the tokens of the steps so far
abbrev pub invariant-loop-step : goal.invariant-loop-step
invariant-loop-step l = record {
  tokens : l.writer.tokens
      ≡ (l.fn.writer.tokens ++ begin_array ∷ [])
      ++ tokens_of (step_data l.fn.paths) (take l.step-index l.steps);
  before : l.writer.before ≡ l.fn.writer.before;
  tree : l.paths ≡ l.fn.paths;
}

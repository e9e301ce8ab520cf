-- For the proofs alone: the tokens of what is written.
use Rattle.std.specs.Prelude.{List}
use Rattle.std.specs.List.{flat_map}
use Rattle.json.specs.Token.{Token}
use Rattle.json.specs.Tree.{json_tokens}
use Rattle.serde_json.specs.Data.{Data}
use Rattle.serde_json.specs.Written.{outline}

-- those of each item, one's after the other
abbrev pub tokens_of : {A : Type 0} → (A → Data) → List A → List Token
tokens_of data_of xs = flat_map (λ x. json_tokens (outline (data_of x))) xs

use Rattle.std.proofs.Common.{◌≡◌, ◌≢◌, ℕ, List, [], ◌∷◌, ◌++◌}
use Rattle.std.proofs.lemmas.Result.{IfOk-weaker}
use Rattle.grove_words.proofs.no_order.lines_of.Goals as goal

has_end : (text tip said : List ℕ) → said ≡ text ++ (10 ∷ tip) → said ≢ []
has_end [] tip said is none = cc
has_end (byte ∷ text) tip said is none = cc

pub returns : goal.returns
returns c = IfOk-weaker c.format-2.result _ _ (λ lines is. has_end _ _ _ is) c.format-2.ensures.ok

-- For the proofs alone: the texts of replies to plan requests that are kept, each for the lists with some targets.
use Rattle.std.specs.Prelude.{ℕ, List, length}
use Rattle.std.specs.List.{sum_by}
use Rattle.grove_tree.specs.Trees.{Rows}
use Rattle.grove_access.specs.declared.access.Access.{Access}
use Rattle.grove_build.specs.declared.targets.Target.{Target}
use Rattle.grove_build.specs.Keeping.{AreTargetsOf}
use Rattle.grove_store.specs.Alone.{TellsPlan}
use Rattle.grove_store.specs.Parts.{IsTextOfReply}

-- a text, and the targets of the lists for which it is kept
pub record KeptText : Type 0 where
  pub targets : List Target
  pub text : List ℕ

abbrev pub kept_text : List Target → List ℕ → KeptText
kept_text targets text = record { targets = targets; text = text }

-- how many bytes the texts have together
abbrev pub bytes_of : List KeptText → ℕ
bytes_of texts = sum_by (λ (kept : KeptText). length kept.text) texts

-- it tells the plan of each of these lists
abbrev pub RepliesFor : Rows → KeptText → Type 0
RepliesFor rows kept = (list : List Access) → AreTargetsOf list kept.targets
    → IsTextOfReply (TellsPlan rows list) kept.text

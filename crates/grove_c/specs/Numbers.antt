-- How calls over numbers end, by the handle that they are given.
use Rattle.std.specs.Prelude.{◌≡◌, ℕ, List, Option, Some, None}
use Rattle.grove_tree.specs.Rules.{AreTreeRows}
use Rattle.grove_tree.specs.Trees.{Rows}
use Rattle.grove_nodes.specs.declared.status.Status.{Status}
use Rattle.grove_nodes.specs.declared.status.Status.TheVariants as status
use Rattle.grove_nodes.specs.Shapes.{HaveShape}
use Rattle.grove_nodes.specs.Statuses.{number_of}
use Rattle.grove_nodes.specs.Weighing.{Reweighs, WeightBuffer}
use Rattle.grove_c.specs.declared.kept.Kept.{Kept}
use Rattle.grove_c.specs.declared.kept.Kept.TheVariants.{Tree, Store}

-- a call ends in a way that its status's number tells
abbrev pub Ends : (Status → Type 0) → ℕ → Type 0
Ends EndsAs number = (status : Status) × (number ≡ number_of status) × EndsAs status

-- the handle holds a tree of these parents and weights; if there is none, or memory runs out, it holds what it held
abbrev pub Builds : List ℕ → List ℕ → Option Kept → Option Kept → Status → Type 0
Builds parents weights old new status.Done =
    (rows : Rows) × (new ≡ Some (Tree rows)) × AreTreeRows rows × HaveShape parents weights rows
Builds parents weights old new status.Refused =
    ((rows : Rows) → HaveShape parents weights rows → ¬ AreTreeRows rows) × (new ≡ old)
Builds parents weights old new status.Memory = new ≡ old
Builds parents weights old new _ = ⊥

-- a call about the tree that is held, if that is one
abbrev pub OfTreeNodes : (Rows → Status → Type 0) → Type 0 → Kept → Status → Type 0
OfTreeNodes EndsOver Stays (Tree rows) status = EndsOver rows status
OfTreeNodes EndsOver Stays (Store kept) ended = (ended ≡ status.Closed) × Stays

-- the same by a handle; what is held stays
abbrev pub AsksNodes : (Rows → Status → Type 0) → Type 0 → Option Kept → Option Kept → ℕ → Type 0
AsksNodes EndsOver Stays None new number = (new ≡ None) × (number ≡ number_of status.Closed) × Stays
AsksNodes EndsOver Stays (Some kept) new number = (new ≡ Some kept) × Ends (OfTreeNodes EndsOver Stays kept) number

-- nothing is weighed, and nothing is told
pub record AreUnweighed (buffer : WeightBuffer) : Type 0 where
  pub weights : buffer.after ≡ buffer.before
  pub count : buffer.count_after ≡ buffer.count_before

-- the tree that is held is weighed anew, if that is one
abbrev pub ReweighsKept : List ℕ → WeightBuffer → Kept → Kept → Status → Type 0
ReweighsKept waits buffer (Tree rows) new status = (weighed : Rows) × (new ≡ Tree weighed)
    × Reweighs waits rows weighed buffer status
ReweighsKept waits buffer (Store kept) new ended = (new ≡ Store kept) × (ended ≡ status.Closed) × AreUnweighed buffer

abbrev pub ReweighsHeld : List ℕ → WeightBuffer → Option Kept → Option Kept → ℕ → Type 0
ReweighsHeld waits buffer None new number =
    (new ≡ None) × (number ≡ number_of status.Closed) × AreUnweighed buffer
ReweighsHeld waits buffer (Some old) new number = (kept : Kept) × (new ≡ Some kept)
    × Ends (ReweighsKept waits buffer old kept) number

-- Replies to a visitor of a desk, whose refusals have hints if it asks for them.
use Rattle.std.specs.Prelude.{◌≡◌, ◌⊎◌, ◌++◌, ℕ, Bool, true, false, List, codes}
use Rattle.serde_json.specs.Data.{Data, string, object, no_members, member}
use Rattle.serde_json.specs.Written.{compact_text}
use Rattle.grove_base.specs.Hints.{IsHint}
use Rattle.grove_tree.specs.Weights.{unweighed}
use Rattle.grove_wire.specs.Replies.{error_text}
use Rattle.grove_store.specs.StoreStates.{StoreState}
use Rattle.grove_desk.specs.declared.told.Told.TheVariants.{Nothing}
use Rattle.grove_desk.specs.Desks.{VisitState, IsShared}

-- a refusal by the name of its fault, with one member more: a hint
abbrev pub hinted_data : List ℕ → List ℕ → Data
hinted_data name hint = object (member (codes "error") (string name) (member (codes "hint") (string hint) no_members))

-- a lawful reply that is a refusal, and the same with a hint
pub record IsHinted (lawful reply : List ℕ) : Type 0 where
  pub name : List ℕ
  pub hint : List ℕ
  pub refused : lawful ≡ error_text name
  pub said : IsHint (codes "hint: " ++ hint)
  pub replied : reply ≡ compact_text (hinted_data name hint)

-- the lawful reply itself, or, only if hints are asked for, a refusal with a hint
abbrev pub MayHint : Bool → List ℕ → List ℕ → Type 0
MayHint false lawful reply = reply ≡ lawful
MayHint true lawful reply = (reply ≡ lawful) ⊎ IsHinted lawful reply

-- a visitor of a desk, and whether it asks for hints
pub record CallerState : Type 0 where
  pub visit : VisitState
  pub hints : Bool

-- one who has seen nothing yet
abbrev pub caller : Bool → StoreState → CallerState
caller hints opening =
    record { visit = record { names = unweighed opening.rows; rounds = 0; told = Nothing }; hints = hints }

-- a reply to a caller's line: lawful among those of others, or such a refusal with a hint
pub record IsCallerReply (old : CallerState) (line reply : List ℕ) (new : CallerState) : Type 0 where
  pub lawful : List ℕ
  pub shared : IsShared old.visit line lawful new.visit
  pub hinted : MayHint old.hints lawful reply
  pub same : new.hints ≡ old.hints

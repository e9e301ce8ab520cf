-- What a call that may say something leaves in its caller's buffer, and what it tells of that.
use Rattle.std.specs.Prelude.{◌≡◌, ℕ, ◌<◌, ◌≤◌, List, ◌++◌, length, drop, Ok, Err}
use Rattle.grove_answer.specs.Outcomes.{Outcome}
use Rattle.grove_c.specs.declared.telling.Told.{Told}

-- the whole text is in the buffer, and behind it the buffer is as it was
pub record Holds (text before after : List ℕ) (told : Told) : Type 0 where
  pub whole : told.length ≡ length text
  pub begins : after ≡ text ++ drop (length text) before

abbrev pub text_of : Outcome → List ℕ
text_of (Ok lines) = lines
text_of (Err fault) = fault

pub record Tells (MaySay : Outcome → Type 0) (before after : List ℕ) (told : Told) : Type 0 where
  pub done : told.status ≡ 0 → (lines : List ℕ) × MaySay (Ok lines) × Holds lines before after told
  pub refused : told.status ≡ 1 → (fault : List ℕ) × MaySay (Err fault) × Holds fault before after told
  -- the buffer has no room for a text of so many bytes
  pub room : told.status ≡ 2 → (outcome : Outcome) × MaySay outcome × (told.length ≡ length (text_of outcome))
      × (length before < told.length) × (after ≡ before)
  pub memory : told.status ≡ 3 → (told.length ≡ 0) × (after ≡ before)
  pub known : told.status ≤ 3

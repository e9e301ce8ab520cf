-- What the visits of a node tell of its slots.
use Rattle.std.proofs.Common.{◌≡◌, ℕ, ◌+◌, Bool, true, false, cond, List, length, Option, Some, None}
use Rattle.std.proofs.Common.{refl, unwrap_or, arith}
use Rattle.std.specs.Prelude.{option_map}
use Rattle.std.proofs.lemmas.Bool.{cases_Bool}
use Rattle.grove_base.proofs.Counting.{last_is}
use Rattle.grove_access.specs.Forced.{is_accessed, first_access}
use Rattle.grove_access.specs.Slots.{slots_before}
use Rattle.grove_span.specs.declared.visit.Visits.{Visits}
use Rattle.grove_span.specs.SpanRows.{from_of, until_of}
use Rattle.grove_span.specs.Ways.{first_below, last_below_of, HaveSlots}

mapped : (b : Bool) (x : ℕ) (f : ℕ → ℕ) → option_map f (cond b (Some x) None) ≡ cond b (Some (f x)) None
mapped true x f = refl
mapped false x f = refl

-- the slots before the first access are those that a row is to tell
pub first_told : (nodes lengths : List ℕ) (node : ℕ)
    → option_map (slots_before lengths) (first_below nodes (length nodes) node) ≡ from_of nodes lengths node
first_told nodes lengths node = mapped (is_accessed nodes node) (first_access nodes node) (slots_before lengths)

-- and so are those before the end of the last one
pub last_told : (nodes lengths : List ℕ) (node : ℕ) → option_map (λ access. slots_before lengths (access + 1))
    (last_below_of nodes (length nodes) node) ≡ until_of nodes lengths node
last_told nodes lengths node = grind (arith, cases_Bool, last_is, mapped)

-- one more access: its slots are the first where it is the first
first_slots : (f : ℕ → ℕ) (first : Option ℕ) (access : ℕ)
    → unwrap_or (option_map f first) (f access) ≡ f (unwrap_or first access)
first_slots f None access = refl
first_slots f (Some earlier) access = refl

pub slots_hit : (lengths : List ℕ) (access before after : ℕ) (old new : Visits) → HaveSlots lengths old
    → before ≡ slots_before lengths access
    → after ≡ slots_before lengths (access + 1) → new.first ≡ Some (unwrap_or old.first access) → new.last ≡ Some access
    → new.from ≡ Some (unwrap_or old.from before) → new.until ≡ Some after → HaveSlots lengths new
slots_hit lengths access before after old new so_far begin end first last from until = grind (arith, first_slots)

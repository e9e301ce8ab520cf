-- For the proofs alone: what words that are no order are told.
use Rattle.std.specs.Prelude.{◌≢◌, [], string_bytes}
use Rattle.grove_words.specs.declared.no_order.NoOrder.{NoOrder}
use Rattle.grove_words.specs.declared.no_order.NoOrder.TheVariants.{Shown, Wrong, Memory}

-- what they are told has a text
abbrev pub HasText : NoOrder → Type 0
HasText (Shown text) = string_bytes text ≢ []
HasText (Wrong text) = string_bytes text ≢ []
HasText Memory = Unit {0}

-- and it says what is wrong with them, if memory is there
abbrev pub TellsWrong : NoOrder → Type 0
TellsWrong (Shown text) = ⊥
TellsWrong wrong = HasText wrong

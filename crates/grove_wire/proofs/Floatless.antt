-- What is written has no float in it, so its text is the compact one.
use Rattle.std.proofs.Common.{◌≡◌, ℕ, ℤ, pos, negsuc, List, [], ◌∷◌, false, refl}
use Rattle.std.specs.Prelude.{map}
use Rattle.serde_json.specs.Data.{Data, array}
use Rattle.serde_json.specs.View.{items_of}
use Rattle.serde_json.specs.Written.{has_float}
use Rattle.grove_access.specs.declared.reply.Reply.{Reply}
use Rattle.grove_access.specs.declared.reply.Reply.TheVariants.{Value, Done, Range, Short}
use Rattle.grove_wire.specs.Writing.{number_data, reply_data, count_data, array_of}
use Rattle.grove_wire.specs.Replies.{weights_data}

-- an array has none where no item has one
pub array_has_no_float : {A : Type 0} (data_of : A → Data) → ((x : A) → has_float (data_of x) ≡ false) → (xs : List A) → has_float (array (items_of (map data_of xs))) ≡ false
array_has_no_float data_of none [] = refl
array_has_no_float data_of none (x ∷ xs) = rw (none x) (array_has_no_float data_of none xs)

number_is_no_float : (n : ℤ) → has_float (number_data n) ≡ false
number_is_no_float (pos n) = refl
number_is_no_float (negsuc n) = refl

reply_is_no_float : (reply : Reply) → has_float (reply_data reply) ≡ false
reply_is_no_float (Value n) = number_is_no_float n
reply_is_no_float Done = refl
reply_is_no_float Range = refl
reply_is_no_float Short = refl

pub numbers_have_no_float : (numbers : List ℤ) → has_float (array_of number_data numbers) ≡ false
numbers_have_no_float numbers = array_has_no_float number_data number_is_no_float numbers

pub replies_have_no_float : (replies : List Reply) → has_float (array_of reply_data replies) ≡ false
replies_have_no_float replies = array_has_no_float reply_data reply_is_no_float replies

pub counts_have_no_float : (counts : List ℕ) → has_float (array_of count_data counts) ≡ false
counts_have_no_float counts = array_has_no_float count_data (λ count. refl) counts

pub lists_have_no_float : (replies : List (List Reply)) → has_float (array_of (array_of reply_data) replies) ≡ false
lists_have_no_float replies = array_has_no_float (array_of reply_data) replies_have_no_float replies

-- replies to lines

pub weights_have_no_float : (waits weights : List ℕ) → has_float (weights_data waits weights) ≡ false
weights_have_no_float waits weights = rw (counts_have_no_float waits, counts_have_no_float weights) refl

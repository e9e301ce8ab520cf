-- A list done alone, as far as it has come.
use Rattle.std.proofs.Common.{◌≡◌, ℕ, suc, ◌+◌, ◌≤◌, ℤ, List, [], ◌∷◌, ◌++◌, length, drop, slice_get, Some, refl, ap, ◌∙◌, append_assoc, add-one, arith}
use Rattle.std.proofs.lemmas.List.{length-set, length-append}
use Rattle.grove_access.specs.declared.access.Access.{Access}
use Rattle.grove_access.specs.declared.reply.Reply.{Reply}
use Rattle.grove_access.specs.Effects.{changed_by, reply_to, records_after, replies_to}
use Rattle.grove_access.proofs.Lists.{drop_next}

-- What is left to do leads from the records and replies so far to those of the whole list, and there is room for its replies.
pub record IsDoneTo (list : List Access) (opening : List ℤ) (place : ℕ) (records : List ℤ) (replies : List Reply) (room : ℕ) : Type 0 where
  pub records_left : records_after (drop place list) records ≡ records_after list opening
  pub replies_left : replies ++ replies_to (drop place list) records ≡ replies_to list opening
  pub same_length : length records ≡ length opening
  pub count : length replies ≡ place
  pub room_left : length list ≤ room

-- an access that stands first does its part, and the rest is left
do_first : (left : List Access) (access : Access) (rest : List Access) (records : List ℤ) → left ≡ access ∷ rest
    → records_after rest (changed_by access records) ≡ records_after left records
do_first left access rest records e = rw e refl

reply_first : (left : List Access) (access : Access) (rest : List Access) (records : List ℤ) → left ≡ access ∷ rest
    → reply_to access records ∷ replies_to rest (changed_by access records) ≡ replies_to left records
reply_first left access rest records e = rw e refl

-- doing the next access goes on by one place
pub do_next : (list : List Access) (opening : List ℤ) (place : ℕ) (access : Access) (records after : List ℤ) (replies more : List Reply) (room space : ℕ)
    → slice_get list place ≡ Some access → after ≡ changed_by access records → more ≡ replies ++ reply_to access records ∷ [] → room ≤ space
    → IsDoneTo list opening place records replies room → IsDoneTo list opening (place + 1) after more space
do_next list opening place access records after replies more room space at changed added grown so_far =
    let next : drop place list ≡ access ∷ drop (suc place) list = drop_next list place access at in
    record {
      records_left = rw (add-one, changed) (do_first (drop place list) access (drop (suc place) list) records next ∙ so_far.records_left);
      replies_left = rw (add-one, changed, added) (append_assoc replies (reply_to access records ∷ []) (replies_to (drop (suc place) list) (changed_by access records)) ∙ ap (λ (r : List Reply). replies ++ r) (reply_first (drop place list) access (drop (suc place) list) records next) ∙ so_far.replies_left);
      same_length = rw changed (length-set records access.node _ ∙ so_far.same_length);
      count = let counted : length replies ≡ place = so_far.count in rw added (omega (arith, length-append replies (reply_to access records ∷ [])));
      room_left = let fits : length list ≤ room = so_far.room_left in omega arith;
    }

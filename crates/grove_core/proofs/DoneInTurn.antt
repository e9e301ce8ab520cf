-- Accesses done one after the other: what they leave and reply, and how what they overwrote is put back.
use Rattle.std.proofs.Common.{◌≡◌, ℕ, suc, ◌+◌, ◌<◌, ◌≤◌, ℤ, List, [], ◌∷◌, ◌++◌, length, take, get_or, set, refl}
use Rattle.std.proofs.Common.{sym, ◌∙◌, ap, subst, inl, inr, arith, zero, add-one, zero-add, reverse, Some}
use Rattle.std.proofs.lemmas.Bool.{cases_eq}
use Rattle.std.specs.List.{slice_get}
use Rattle.std.specs.Vec.{vec_capacity}
use Rattle.std.proofs.lemmas.List.{append_assoc, append-nil, length-append, length-set, length-take-le, map-append}
use Rattle.std.proofs.lemmas.List.{reverse-append}
use Rattle.std.proofs.lemmas.Option.{slice_get_within}
use Rattle.std.proofs.Math.Seq.{take-length}
use Rattle.grove_base.proofs.Lists.{take_next, read_at, get_append_left, get_last}
use Rattle.grove_access.specs.declared.access.Access.{Access}
use Rattle.grove_access.specs.declared.access.Op.TheVariants.{Set}
use Rattle.grove_access.specs.declared.reply.Reply.{Reply}
use Rattle.grove_access.specs.Effects.{record_at, changed_by, reply_to, records_after, replies_to}
use Rattle.grove_access.specs.Lists.{nodes_of, AreBelow}
use Rattle.grove_core.specs.declared.job.Job.{Job}
use Rattle.grove_core.specs.declared.alone.DoneAlone.{DoneAlone}
use Rattle.grove_core.specs.Runs.{list_of}
use Rattle.grove_core.specs.Alone.{accesses_below}
use Rattle.grove_core.specs.Doing.{HasRoomFor, Does}
use Rattle.grove_core.proofs.RunSteps.{list_of_at}

-- Accesses one after the other

pub records_append : (xs ys : List Access) (records : List ℤ)
    → records_after (xs ++ ys) records ≡ records_after ys (records_after xs records)
records_append [] ys records = refl
records_append (x ∷ xs) ys records = records_append xs ys (changed_by x records)

pub replies_append : (xs ys : List Access) (records : List ℤ)
    → replies_to (xs ++ ys) records ≡ replies_to xs records ++ replies_to ys (records_after xs records)
replies_append [] ys records = refl
replies_append (x ∷ xs) ys records = grind (arith, replies_append xs ys (changed_by x records))

pub replies_length : (xs : List Access) (records : List ℤ) → length (replies_to xs records) ≡ length xs
replies_length [] records = refl
replies_length (x ∷ xs) records = ap suc (replies_length xs (changed_by x records))

after_length : (xs : List Access) (records : List ℤ) → length (records_after xs records) ≡ length records
after_length [] records = refl
after_length (x ∷ xs) records = grind (arith, length-set, after_length xs (changed_by x records))

-- What was overwritten is put back

set_back : (xs : List ℤ) (i : ℕ) (v d : ℤ) → set (set xs i v) i (get_or xs i d) ≡ xs
set_back [] i v d = refl
set_back (x ∷ xs) zero v d = refl
set_back (x ∷ xs) (suc i) v d = ap (λ (ys : List ℤ). x ∷ ys) (set_back xs i v d)

-- an access that stores what stood in the record undoes the one that overwrote it
put_back : (records : List ℤ) (access back : Access) → back.node ≡ access.node
    → back.op ≡ Set (record_at records access.node) → changed_by back (changed_by access records) ≡ records
put_back records access back node op = grind (arith, set_back)

-- the last one first
pub undo_next : (items rest : List Access) (access : Access) (records after : List ℤ) → items ≡ rest ++ access ∷ []
    → after ≡ changed_by access records → records_after (reverse rest) after ≡ records_after (reverse items) records
undo_next items rest access records after is changed = grind (arith, reverse-append)

-- Nodes below a bound

-- the last of some nodes below a bound, and those before it
pub last_below : (n : ℕ) (items rest : List Access) (access : Access) → items ≡ rest ++ access ∷ []
    → AreBelow n (nodes_of items) → access.node < n
last_below n items rest access is below =
    below (length (nodes_of rest)) access.node
    (ap (λ (visits : List Access). slice_get (nodes_of visits) (length (nodes_of rest))) is
    ∙ ap (λ (ns : List ℕ). slice_get ns (length (nodes_of rest)))
    (map-append (λ (a : Access). a.node) rest (access ∷ [])) ∙ get_last (nodes_of rest) access.node)

rest_below : (n : ℕ) (items rest : List Access) (access : Access) → items ≡ rest ++ access ∷ []
    → AreBelow n (nodes_of items) → AreBelow n (nodes_of rest)
rest_below n items rest access is below =
    λ i node at. below i node
    (ap (λ (visits : List Access). slice_get (nodes_of visits) i) is
    ∙ ap (λ (ns : List ℕ). slice_get ns i) (map-append (λ (a : Access). a.node) rest (access ∷ []))
    ∙ get_append_left (nodes_of rest) (access.node ∷ []) i (slice_get_within (nodes_of rest) i node at) ∙ at)

pub undo_within : (items rest : List Access) (access : Access) (records after : List ℤ) → items ≡ rest ++ access ∷ []
    → after ≡ changed_by access records
    → AreBelow (length records) (nodes_of items) → AreBelow (length after) (nodes_of rest)
undo_within items rest access records after is changed below =
    rest_below (length after) items rest access is
    (subst (λ (n : ℕ). AreBelow n (nodes_of items)) (sym (ap length changed ∙ after_length (access ∷ []) records))
    below)

-- Accesses done, with what is kept of them

pub does_none : (records : List ℤ) (done : DoneAlone) → Does [] records records done done
does_none records done = grind (arith, append-nil, zero-add)

-- one more reply, or one more access that puts back
one_less : {A : Type 0} (xs more : List A) (x : A) (n room space : ℕ) → more ≡ xs ++ x ∷ [] → space ≡ room
    → length xs + (1 + n) ≤ room → length more + n ≤ space
one_less xs more x n room space is same has = grind (arith, length-append)

pub does_one : (before after : List ℤ) (access back : Access) (reply : Reply) (done more : DoneAlone)
    → after ≡ changed_by access before → reply ≡ reply_to access before → back.node ≡ access.node
    → back.op ≡ Set (record_at before access.node)
    → more.replies.items ≡ done.replies.items ++ reply ∷ [] → vec_capacity more.replies ≡ vec_capacity done.replies
    → more.overwritten.items ≡ done.overwritten.items ++ back ∷ []
    → vec_capacity more.overwritten ≡ vec_capacity done.overwritten
    → more.order ≡ done.order → Does (access ∷ []) before after done more
does_one before after access back reply done more changed replied node op answered space kept place order = record {
  records = changed;
  replies = answered ∙ ap (λ (r : Reply). done.replies.items ++ r ∷ []) replied;
  nodes = grind (arith, map-append);
  back = grind (arith, put_back, undo_next);
  room = λ n has. record {
    replies =
        one_less done.replies.items more.replies.items reply n (vec_capacity done.replies) (vec_capacity more.replies)
        answered space has.replies;
    overwritten =
        one_less done.overwritten.items more.overwritten.items back n (vec_capacity done.overwritten)
        (vec_capacity more.overwritten) kept place has.overwritten;
  };
  order = order;
}

does_more : (xs ys : List Access) (a b c : List ℤ) (d e f : DoneAlone) → Does xs a b d e → Does ys b c e f
    → Does (xs ++ ys) a c d f
does_more xs ys a b c d e f first second = record {
  records = second.records ∙ ap (records_after ys) first.records ∙ sym (records_append xs ys a);
  replies =
      second.replies ∙ ap (λ (rs : List Reply). rs ++ replies_to ys b) first.replies
      ∙ append_assoc d.replies.items (replies_to xs a) (replies_to ys b)
      ∙ ap (λ (rs : List Reply). d.replies.items ++ rs)
      (ap (λ (rs : List ℤ). replies_to xs a ++ replies_to ys rs) first.records ∙ sym (replies_append xs ys a));
  nodes = grind (arith, append_assoc, map-append);
  back = second.back ∙ first.back;
  room = λ n has.
      let size : length (xs ++ ys) ≡ length xs + length ys = length-append xs ys in
      let same : length (xs ++ ys) + n ≡ length xs + (length ys + n) = omega arith in
      second.room n (first.room (length ys + n) (subst (λ (k : ℕ). HasRoomFor k d) same has));
  order = second.order ∙ first.order;
}

-- the next access of a list
pub does_next : (list : List Access) (place : ℕ) (access : Access) (a b c : List ℤ) (d e f : DoneAlone)
    → slice_get list place ≡ Some access
    → Does (take place list) a b d e → Does (access ∷ []) b c e f → Does (take (place + 1) list) a c d f
does_next list place access a b c d e f at so_far next =
    subst (λ (xs : List Access). Does xs a c d f)
    (sym (ap (λ (k : ℕ). take k list) (add-one place) ∙ take_next list place access at))
    (does_more (take place list) (access ∷ []) a b c d e f so_far next)

pub does_whole : (list : List Access) (place : ℕ) (a b : List ℤ) (d e : DoneAlone) → place ≡ length list
    → Does (take place list) a b d e → Does list a b d e
does_whole list place a b d e end so_far = grind (arith, take-length)

-- the next list
pub does_below : (lists : ℕ → List Access) (k : ℕ) (list : List Access) (a b c : List ℤ) (d e f : DoneAlone)
    → list ≡ lists k → Does (accesses_below lists k) a b d e
    → Does list b c e f → Does (accesses_below lists (k + 1)) a c d f
does_below lists k list a b c d e f is so_far next =
    subst (λ (n : ℕ). Does (accesses_below lists n) a c d f) (sym (add-one k))
    (does_more (accesses_below lists k) (lists k) a b c d e f so_far
    (subst (λ (xs : List Access). Does xs b c e f) is next))

pub does_length : (xs : List Access) (a b : List ℤ) (d e : DoneAlone) → Does xs a b d e → length b ≡ length a
does_length xs a b d e does = ap length does.records ∙ after_length xs a

-- Room

room_less : (m n : ℕ) (done : DoneAlone) → m ≤ n → HasRoomFor n done → HasRoomFor m done
room_less m n done le has = grind (arith)

-- for the next access of a list
pub room_next : (list : List Access) (place : ℕ) (a b : List ℤ) (d e : DoneAlone) → place < length list
    → HasRoomFor (length list) d → Does (take place list) a b d e → HasRoomFor 1 e
room_next list place a b d e lt has so_far =
    let size : length (take place list) ≡ place = length-take-le place list (omega arith) in
    so_far.room 1 (room_less (length (take place list) + 1) (length list) d (omega arith) has)

pub below_more : (lists : ℕ → List Access) (k n : ℕ) → k < n
    → length (accesses_below lists k) + length (lists k) ≤ length (accesses_below lists n)
below_more lists k zero lt = absurd (omega arith)
below_more lists k (suc n) lt =
    let size : length (accesses_below lists (suc n)) ≡ length (accesses_below lists n) + length (lists n) =
    length-append (accesses_below lists n) (lists n) in
    elim (cases_eq n k) [
      | inl e ↦ grind (arith)
      | inr ne ↦ omega (arith, below_more lists k n (omega arith))
    ]

-- for the next list
pub room_list : (lists : ℕ → List Access) (k n : ℕ) (list : List Access) (a b : List ℤ) (d e : DoneAlone) → k < n
    → list ≡ lists k → HasRoomFor (length (accesses_below lists n)) d → Does (accesses_below lists k) a b d e
    → HasRoomFor (length list) e
room_list lists k n list a b d e lt is has so_far =
    let size : length list ≡ length (lists k) = ap length is in
    let le : length (accesses_below lists k) + length (lists k) ≤ length (accesses_below lists n) =
    below_more lists k n lt in
    so_far.room (length list)
    (room_less (length (accesses_below lists k) + length list) (length (accesses_below lists n)) d (omega arith) has)

-- The list that is read of a job

pub list_read : (jobs : List Job) (t : ℕ) (job : Job) → t < length jobs → job ≡ get_or jobs t job
    → (get_or jobs t job).list ≡ list_of jobs t
list_read jobs t job lt is = ap (λ (j : Job). j.list) (sym is) ∙ sym (list_of_at jobs t job (read_at jobs t job lt is))

pub fit_read : (jobs : List Job) (t : ℕ) (job : Job) (n m : ℕ) → t < length jobs → job ≡ get_or jobs t job → m ≡ n
    → ((u : ℕ) → u < length jobs → AreBelow n (nodes_of (list_of jobs u)))
    → AreBelow m (nodes_of (get_or jobs t job).list)
fit_read jobs t job n m lt is same fit = grind (arith, list_read)

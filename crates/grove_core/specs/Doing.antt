-- For the proofs alone: accesses done one after the other, with their replies and what they overwrote.
use Rattle.std.specs.Prelude.{◌≡◌, ℕ, ◌+◌, ◌≤◌, ℤ, List, [], ◌++◌, length, reverse, vec_capacity}
use Rattle.grove_access.specs.declared.access.Access.{Access}
use Rattle.grove_access.specs.Effects.{records_after, replies_to}
use Rattle.grove_access.specs.Lists.{nodes_of}
use Rattle.grove_core.specs.declared.job.Job.{Job}
use Rattle.grove_core.specs.declared.alone.DoneAlone.{DoneAlone}
use Rattle.grove_core.specs.Runs.{list_of}
use Rattle.grove_core.specs.Alone.{accesses_below}

-- there is room for so many accesses more
pub record HasRoomFor (n : ℕ) (done : DoneAlone) : Type 0 where
  pub replies : length done.replies.items + n ≤ vec_capacity done.replies
  pub overwritten : length done.overwritten.items + n ≤ vec_capacity done.overwritten

-- nothing is done, and there is room for all that the jobs come to
pub record IsReadyFor (jobs : List Job) (done : DoneAlone) : Type 0 where
  pub unplaced : done.order.items ≡ []
  pub places : length jobs ≤ vec_capacity done.order
  pub silent : done.replies.items ≡ []
  pub whole : done.overwritten.items ≡ []
  pub room : HasRoomFor (length (accesses_below (list_of jobs) (length jobs))) done

-- what accesses make of the records, and of what was done before them
pub record Does (list : List Access) (before after : List ℤ) (done more : DoneAlone) : Type 0 where
  pub records : after ≡ records_after list before
  pub replies : more.replies.items ≡ done.replies.items ++ replies_to list before
  pub nodes : nodes_of more.overwritten.items ≡ nodes_of done.overwritten.items ++ nodes_of list
  pub back : records_after (reverse more.overwritten.items) after
      ≡ records_after (reverse done.overwritten.items) before
  pub room : (n : ℕ) → HasRoomFor (length list + n) done → HasRoomFor n more
  pub order : more.order ≡ done.order

-- What is told of jobs that were done alone.
use Rattle.std.specs.Prelude.{◌≡◌, ℕ, suc, ◌≤◌, ℤ, List, length, map, reverse, slice_range}
use Rattle.grove_base.specs.Numbers.{numbers_below}
use Rattle.grove_tree.specs.Trees.{Rows}
use Rattle.grove_access.specs.declared.reply.Reply.{Reply}
use Rattle.grove_access.specs.Effects.{records_after}
use Rattle.grove_access.specs.Lists.{nodes_of, AreBelow}
use Rattle.grove_core.specs.declared.job.Job.{Job}
use Rattle.grove_core.specs.declared.alone.DoneAlone.{DoneAlone}
use Rattle.grove_core.specs.Runs.{list_of, run_records, replies_of}
use Rattle.grove_core.specs.Orders.{placement_order}
use Rattle.grove_core.specs.Laws.{IsEachOnce}
use Rattle.grove_core.specs.Alone.{alone, accesses_below}

-- where the replies of a job begin, in those of all jobs one after the other
abbrev pub start_of : List Job → ℕ → ℕ
start_of jobs t = length (accesses_below (list_of jobs) t)

-- the replies of each job, from those of all jobs one after the other
abbrev pub own_replies : List Job → List Reply → List (List Reply)
own_replies jobs replies =
    map (λ t. slice_range replies (start_of jobs t) (start_of jobs (suc t))) (numbers_below (length jobs))

-- what jobs done alone leave of the records before, and what is told of it
pub record IsDoneFrom (rows : Rows) (jobs : List Job) (before after : List ℤ) (done : DoneAlone) : Type 0 where
  pub records : after ≡ run_records jobs before (alone jobs)
  pub replies : own_replies jobs done.replies.items ≡ replies_of jobs before (alone jobs)
  pub all_replies : length done.replies.items ≡ start_of jobs (length jobs)
  pub order : done.order.items ≡ placement_order rows jobs (alone jobs)
  pub once : IsEachOnce done.order.items (length jobs)
  pub few : length done.order.items ≤ length jobs
  pub back : records_after (reverse done.overwritten.items) after ≡ before
  pub within : AreBelow (length after) (nodes_of done.overwritten.items)

-- What jobs done alone leave is what their run leaves, and what is told of it is what the run tells.
use Rattle.std.proofs.Common.{◌≡◌, ℕ, zero, suc, ◌+◌, ◌-◌, ◌<◌, ℤ, List, [], ◌∷◌, ◌++◌, length, take, drop, map}
use Rattle.std.proofs.Common.{refl, sym, ◌∙◌, ap, subst, inl, inr, arith, add-one, reverse, Some}
use Rattle.std.specs.List.{slice_get, slice_range}
use Rattle.std.proofs.lemmas.List.{append_assoc, append-nil, length-append, map-append}
use Rattle.std.proofs.lemmas.Option.{slice_get_within}
use Rattle.std.proofs.lemmas.Bool.{cases_eq}
use Rattle.std.proofs.Math.Seq.{drop-append_seam, take-append_seam}
use Rattle.grove_base.specs.Numbers.{numbers_below}
use Rattle.grove_base.proofs.Lists.{get_append_cases}
use Rattle.grove_base.proofs.Counting.{numbers_get}
use Rattle.grove_tree.specs.Trees.{Rows}
use Rattle.grove_access.specs.declared.access.Access.{Access}
use Rattle.grove_access.specs.declared.reply.Reply.{Reply}
use Rattle.grove_access.specs.Effects.{records_after, replies_to}
use Rattle.grove_access.specs.Lists.{nodes_of, AreBelow, AreNodes}
use Rattle.grove_plan.specs.declared.step.Step.{Step}
use Rattle.grove_plan.specs.Plans.{accesses_of, IsLegal}
use Rattle.grove_plan.proofs.Held.{HeldAt, held_at, find_access}
use Rattle.grove_core.specs.declared.job.Job.{Job}
use Rattle.grove_core.specs.declared.alone.DoneAlone.{DoneAlone}
use Rattle.grove_core.specs.Serial.{serial_records}
use Rattle.grove_core.specs.Runs.{list_of, plan_of, AllLegal, run_replies}
use Rattle.grove_core.specs.Orders.{order_by}
use Rattle.grove_core.specs.Laws.{IsEachOnce}
use Rattle.grove_core.specs.Alone.{alone, comes_after, accesses_below}
use Rattle.grove_core.specs.DoneAlone.{start_of, IsDoneFrom}
use Rattle.grove_core.specs.Doing.{Does}
use Rattle.grove_core.proofs.OrderByLevels.{order_length}
use Rattle.grove_core.proofs.AloneRuns.{jobs_alone}
use Rattle.grove_core.proofs.AloneSerial.{serial_last, alone_reply}
use Rattle.grove_core.proofs.DoneInTurn.{records_append, replies_append, replies_length, does_length}

-- a legal plan's list names nodes of the tree
pub legal_fits : (rows : Rows) (nodes : List ℕ) (plan : List Step) → IsLegal rows nodes plan → AreNodes rows nodes
legal_fits rows nodes plan legal = λ access node at.
    let listed : slice_get (accesses_of plan) access ≡ Some access =
    ap (λ (ns : List ℕ). slice_get ns access) legal.performs.in_order
    ∙ numbers_get (length nodes) access (slice_get_within nodes access node at) in
    let found = find_access plan access access listed in
    let held : HeldAt plan node found.0 =
    held_at plan node found.0 (legal.performs.while_held found.0 access node found.1 at) in
    legal.obeys.locks_nodes held.at node held.is_lock

-- nodes below a bound, one list after the other
below_append : (n : ℕ) (xs ys : List ℕ) → AreBelow n xs → AreBelow n ys → AreBelow n (xs ++ ys)
below_append n xs ys first second = grind (arith, get_append_cases)

lists_below : (lists : ℕ → List Access) (m n : ℕ) → ((t : ℕ) → t < n → AreBelow m (nodes_of (lists t)))
    → AreBelow m (nodes_of (accesses_below lists n))
lists_below lists m zero fit = λ i node at. absurd (cc)
lists_below lists m (suc n) fit =
    subst (λ (ns : List ℕ). AreBelow m ns)
    (sym (map-append (λ (a : Access). a.node) (accesses_below lists n) (lists n)))
    (below_append m (nodes_of (accesses_below lists n)) (nodes_of (lists n))
    (lists_below lists m n (λ t lt. fit t (omega arith))) (fit n (omega arith)))

-- the lists done one after the other leave what the serial run leaves
in_turn_records : (lists : ℕ → List Access) (k : ℕ) (records : List ℤ)
    → records_after (accesses_below lists k) records ≡ serial_records lists (numbers_below k) records
in_turn_records lists zero records = refl
in_turn_records lists (suc k) records = grind (arith, records_append, serial_last, in_turn_records lists k records)

-- The replies of a job among those of all

-- a list's replies stand after those of the lists before it
replies_stand : (lists : ℕ → List Access) (n t : ℕ) → t < n → (records : List ℤ)
    → (rest : List Reply) × (replies_to (accesses_below lists n) records
    ≡ (replies_to (accesses_below lists t) records ++ replies_to (lists t)
    (records_after (accesses_below lists t) records)) ++ rest)
replies_stand lists zero t lt records = absurd (omega arith)
replies_stand lists (suc n) t lt records = elim (cases_eq n t) [
  | inl e ↦ grind (arith, append-nil, replies_append)
  | inr ne ↦
      let before = replies_stand lists n t (omega arith) records in (
        before.0 ++ replies_to (lists n) (records_after (accesses_below lists n) records),
        replies_append (accesses_below lists n) (lists n) records
            ∙ ap (λ (rs : List Reply). rs ++ replies_to (lists n) (records_after (accesses_below lists n) records)) before.1
            ∙ append_assoc
            (replies_to (accesses_below lists t) records ++ replies_to (lists t)
            (records_after (accesses_below lists t) records)) before.0
            (replies_to (lists n) (records_after (accesses_below lists n) records)),
      )
]

cut_out : (xs ys zs : List Reply) (i j : ℕ) → i ≡ length xs → j ≡ length xs + length ys
    → slice_range ((xs ++ ys) ++ zs) i j ≡ ys
cut_out xs ys zs i j from to =
    let long : j - i ≡ length ys = omega arith in
    ap (λ (n : ℕ). take n (drop i ((xs ++ ys) ++ zs))) long
    ∙ ap (λ (n : ℕ). take (length ys) (drop n ((xs ++ ys) ++ zs))) from
    ∙ ap (λ (rs : List Reply). take (length ys) (drop (length xs) rs)) (append_assoc xs ys zs)
    ∙ ap (λ (rs : List Reply). take (length ys) rs) (drop-append_seam xs (ys ++ zs)) ∙ take-append_seam ys zs

own_reply : (lists : ℕ → List Access) (n t : ℕ) → t < n → (records : List ℤ)
    → slice_range (replies_to (accesses_below lists n) records) (length (accesses_below lists t))
    (length (accesses_below lists (suc t)))
    ≡ replies_to (lists t) (records_after (accesses_below lists t) records)
own_reply lists n t lt records =
    let stand = replies_stand lists n t lt records in
    grind (arith, cut_out, length-append, replies_length)

-- functions that agree below a bound list the same
map_same : {A : Type 0} (f g : ℕ → A) (n : ℕ) → ((k : ℕ) → k < n → f k ≡ g k)
    → map f (numbers_below n) ≡ map g (numbers_below n)
map_same f g zero h = refl
map_same f g (suc n) h =
    map-append f (numbers_below n) (n ∷ []) ∙ ap (λ zs. zs ++ f n ∷ []) (map_same f g n (λ k lt. h k (omega arith)))
    ∙ ap (λ z. map g (numbers_below n) ++ z ∷ []) (h n (omega arith)) ∙ sym (map-append g (numbers_below n) (n ∷ []))

-- where the next job's replies begin
pub start_next : (jobs : List Job) (t : ℕ) → start_of jobs (t + 1) ≡ start_of jobs t + length (list_of jobs t)
start_next jobs t = ap (start_of jobs) (add-one t) ∙ length-append (accesses_below (list_of jobs) t) (list_of jobs t)

-- one part more
pub parts_more : (f : ℕ → List Reply) (k : ℕ) (parts more : List (List Reply)) (one : List Reply)
    → more ≡ parts ++ one ∷ [] → parts ≡ map f (numbers_below k) → one ≡ f k → more ≡ map f (numbers_below (k + 1))
parts_more f k parts more one grown so_far is = grind (arith, add-one, map-append)

-- jobs done one after the other, in an order that was made beforehand
pub done_from : (rows : Rows) (jobs : List Job) → AllLegal rows jobs → (before after : List ℤ) (done more : DoneAlone)
    → length before ≡ length rows
    → done.replies.items ≡ [] → done.overwritten.items ≡ [] → done.order.items ≡ order_by rows jobs (comes_after jobs)
    → IsEachOnce done.order.items (length jobs)
    → Does (accesses_below (list_of jobs) (length jobs)) before after done more → IsDoneFrom rows jobs before after more
done_from rows jobs legal before after done more size silent whole placed once does =
    let told : more.replies.items ≡ replies_to (accesses_below (list_of jobs) (length jobs)) before =
    does.replies
    ∙ ap (λ (rs : List Reply). rs ++ replies_to (accesses_below (list_of jobs) (length jobs)) before) silent in
    let order : more.order.items ≡ done.order.items = ap (λ o. o.items) does.order in
    let long : length rows ≡ length after =
    sym (does_length (accesses_below (list_of jobs) (length jobs)) before after done more does ∙ size) in
    record {
      records =
          does.records ∙ in_turn_records (list_of jobs) (length jobs) before
          ∙ sym ((jobs_alone rows jobs legal).records before);
      replies =
          map_same (λ t. slice_range more.replies.items (start_of jobs t) (start_of jobs (suc t)))
          (run_replies jobs before (alone jobs)) (length jobs)
          (λ t lt. ap (λ (rs : List Reply). slice_range rs (start_of jobs t) (start_of jobs (suc t))) told
          ∙ own_reply (list_of jobs) (length jobs) t lt before
          ∙ ap (replies_to (list_of jobs t)) (in_turn_records (list_of jobs) t before)
          ∙ sym (alone_reply rows jobs legal before t lt));
      all_replies = ap length told ∙ replies_length (accesses_below (list_of jobs) (length jobs)) before;
      order = order ∙ placed ∙ sym (jobs_alone rows jobs legal).order;
      once = subst (λ (os : List ℕ). IsEachOnce os (length jobs)) (sym order) once;
      few = grind (arith, order_length);
      back = does.back ∙ ap (λ (visits : List Access). records_after (reverse visits) before) whole;
      within = subst (λ (m : ℕ). AreBelow m (nodes_of more.overwritten.items)) long
          (subst (λ (ns : List ℕ). AreBelow (length rows) ns)
          (sym (does.nodes
          ∙ ap (λ (visits : List Access). nodes_of visits ++ nodes_of (accesses_below (list_of jobs) (length jobs)))
          whole))
          (lists_below (list_of jobs) (length rows) (length jobs)
          (λ t lt. legal_fits rows (nodes_of (list_of jobs t)) (plan_of jobs t) (legal t lt))));
    }

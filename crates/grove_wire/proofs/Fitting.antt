-- What a reading answers is within its limits and of the tree; and no reading is out of memory.
use Rattle.std.proofs.Common.{◌≡◌, ℕ, zero, suc, ◌<◌, ◌≤◌, Bool, true, false, cond, List, [], ◌∷◌, length, Option, Some, None, IfSome, refl, ap, subst, arith, Vec, Global, bytes_eq, codes}
use Rattle.std.specs.Prelude.{Result, Ok, Err, IfOk, is_some, nat_lt, slice_get}
use Rattle.std.specs.List.{All, find}
use Rattle.std.specs.Option.{option_or}
use Rattle.std.proofs.lemmas.Bool.{ltb-false, leb-true, and_parts}
use Rattle.std.proofs.lemmas.Option.{same_Some}
use Rattle.std.proofs.lemmas.List.Elements.{All-nil, All-cons, All-head, All-tail, All-weaker}
use Rattle.std.proofs.lemmas.List.Folds.{find-append}
use Rattle.serde_json.specs.Data.{Data}
use Rattle.serde_json.specs.Find.{get, as_object, as_str}
use Rattle.grove_base.specs.Numbers.{numbers_below}
use Rattle.grove_tree.specs.Trees.{Rows}
use Rattle.grove_tree.specs.Paths.{path_of, node_at}
use Rattle.grove_access.specs.declared.access.Access.{Access}
use Rattle.grove_access.specs.Lists.{nodes_of, lengths_of, is_length, AreNodes}
use Rattle.grove_access.specs.ListFaults.{AreLengths, AreListed}
use Rattle.grove_plan.specs.declared.step.Step.TheVariants as step
use Rattle.grove_core.specs.declared.job.Job.{Job}
use Rattle.grove_core.specs.Openings.{AllFit}
use Rattle.grove_proof.specs.declared.flow.FlowRow.{FlowRow}
use Rattle.grove_wire.specs.declared.fault.WireFault.{WireFault}
use Rattle.grove_wire.specs.declared.fault.WireFault.TheVariants.{Shape, NoPath, BadLength, Limit, Memory}
use Rattle.grove_wire.specs.declared.place.Part.{Part}
use Rattle.grove_wire.specs.declared.place.Part.TheVariants as part
use Rattle.grove_wire.specs.declared.place.Place.{Place}
use Rattle.grove_wire.specs.declared.versions.Version.{Version}
use Rattle.grove_wire.specs.Outcomes.{◌>>=◌, or_fault, each_from, few_on, Gives}
use Rattle.grove_wire.specs.Places.{whole_of, item_of, item_on, part_word}
use Rattle.grove_wire.specs.Forms.{as_list, as_short, items_of, version_of, access_form, flow_form, is_word}
use Rattle.grove_wire.specs.Histories.{job_at, jobs_of}
use Rattle.grove_wire.specs.Reading.{object_at, node_on, length_on, access_at, list_of, list_in, list_on, lists_of}
use Rattle.grove_wire.specs.Reading.{version_in, items_at, items_in, path_at, step_of, step_on, step_at, plan_in}
use Rattle.grove_wire.specs.Reading.{flow_row_at, flow_in}
use Rattle.grove_wire.proofs.Turns.{access_in, nth_list, step_in, flow_row_in}
use Rattle.grove_wire.specs.Writing.{StepFits, PlanFits, FlowFits}

-- a fault that isn't out of memory
abbrev pub Refuses : WireFault → Type 0
Refuses Memory = ⊥
Refuses fault = Unit {0}

-- a reading answers what has a property, or such a fault
abbrev pub Reads : {A : Type 0} → (A → Type 0) → Result A WireFault → Type 0
Reads P (Ok x) = P x
Reads P (Err fault) = Refuses fault

-- so does a call that gives what is read
pub given_reads : {T A : Type 0} (seen : T → A) (P : A → Type 0) (result : Result T WireFault) (read : Result A WireFault) → Gives seen result read → Reads P read → IfOk result (λ x. P (seen x))
given_reads seen P (Ok x) read gives reads = subst (Reads P) gives reads
given_reads seen P (Err fault) read gives reads = tt

-- a reading, and then another of what it answers
pub then_reads : {A B : Type 0} (P : A → Type 0) (Q : B → Type 0) (read : Result A WireFault) (next : A → Result B WireFault) → Reads P read → ((x : A) → P x → Reads Q (next x)) → Reads Q (read >>= next)
then_reads P Q (Ok x) next here there = there x here
then_reads P Q (Err fault) next here there = here

-- what is there, or else a fault
pub or_reads : {A : Type 0} (P : A → Type 0) (fault : WireFault) (o : Option A) → Reads P (Err fault) → IfSome o P → Reads P (or_fault fault o)
or_reads P fault None told is = told
or_reads P fault (Some x) told is = is

-- of what is there nothing is asked
pub any_reads : {A : Type 0} (fault : WireFault) (o : Option A) → Reads {A = A} (λ x. Unit {0}) (Err fault) → Reads (λ x. Unit {0}) (or_fault fault o)
any_reads fault None told = told
any_reads fault (Some x) told = tt

-- items, each read at its number
pub each_reads : {A : Type 0} (P : A → Type 0) (read : ℕ → Data → Result A WireFault) → ((at : ℕ) (d : Data) → Reads P (read at d)) → (at : ℕ) (ds : List Data)
    → Reads (λ xs. (length xs ≡ length ds) × All P xs) (each_from read at ds)
each_reads P read reads at [] = (refl, All-nil P)
each_reads P read reads at (d ∷ ds) =
    then_reads P (λ xs. (length xs ≡ length (d ∷ ds)) × All P xs) (read at d) (λ x. each_from read (suc at) ds >>= λ xs. Ok (x ∷ xs)) (reads at d) (λ x here.
    then_reads (λ xs. (length xs ≡ length ds) × All P xs) (λ xs. (length xs ≡ length (d ∷ ds)) × All P xs) (each_from read (suc at) ds) (λ xs. Ok (x ∷ xs))
    (each_reads P read reads (suc at) ds) (λ xs there. (ap suc there.0, All-cons P x xs here there.1)))

-- what is read has a property that follows
weaker_reads : {A : Type 0} (P Q : A → Type 0) (read : Result A WireFault) → ((x : A) → P x → Q x) → Reads P read → Reads Q read
weaker_reads P Q (Ok x) weaker here = weaker x here
weaker_reads P Q (Err fault) weaker here = here

-- few items, and each of them read
few_reads : {A : Type 0} (P : A → Type 0) (most : ℕ) (place : Place) (read : ℕ → Data → Result A WireFault) (ds : List Data) (test : Bool) → (test ≡ false → length ds ≤ most)
    → ((at : ℕ) (d : Data) → Reads P (read at d)) → Reads (λ xs. (length xs ≤ most) × All P xs) (cond test (Err (Limit place)) (each_from read 0 ds))
few_reads P most place read ds true few reads = tt
few_reads P most place read ds false few reads =
    let small : length ds ≤ most = few refl in
    weaker_reads (λ xs. (length xs ≡ length ds) × All P xs) (λ xs. (length xs ≤ most) × All P xs) (each_from read 0 ds) (λ xs here. (rw here.0 small, here.1)) (each_reads P read reads 0 ds)

-- ---- nodes

-- the first of two, where there is one, or else the second
or_else_some : (P : ℕ → Type 0) (one other : Option ℕ) → IfSome one P → IfSome other P → IfSome (option_or one other) P
or_else_some P None other here there = there
or_else_some P (Some k) other here there = here

one_found : (P : ℕ → Type 0) (test : ℕ → Bool) (k : ℕ) → P k → (passes : Bool) → IfSome (cond passes (Some k) None) P
one_found P test k here true = here
one_found P test k here false = tt

some_weaker : (P Q : ℕ → Type 0) (o : Option ℕ) → ((k : ℕ) → P k → Q k) → IfSome o P → IfSome o Q
some_weaker P Q None weaker here = tt
some_weaker P Q (Some k) weaker here = weaker k here

-- a number found below another is below it
find_below : (n : ℕ) (test : ℕ → Bool) → IfSome (find test (numbers_below n)) (λ k. k < n)
find_below zero test = tt
find_below (suc n) test = rw (find-append test (numbers_below n) (n ∷ []))
    (or_else_some (λ k. k < suc n) (find test (numbers_below n)) (find test (n ∷ []))
    (some_weaker (λ k. k < n) (λ k. k < suc n) (find test (numbers_below n)) (λ k less. omega arith) (find_below n test))
    (one_found (λ k. k < suc n) test n (omega arith) (test n)))

node_reads : (rows : Rows) (place : Place) (path : List ℕ) → Reads (λ node. node < length rows) (node_on rows place path)
node_reads rows place path = or_reads (λ node. node < length rows) (NoPath place) (node_at rows path) tt (find_below (length rows) (λ node. bytes_eq (path_of rows node) path))

-- ---- lists

length_reads : (place : Place) (told : Option ℕ) → Reads (λ length. is_length length ≡ true) (length_on place told)
length_reads place None = refl
length_reads place (Some slots) = by_test (is_length slots) (λ fits. fits)
  where
    by_test : (test : Bool) → (test ≡ true → is_length slots ≡ true) → Reads (λ length. is_length length ≡ true) (cond test (Ok slots) (Err (BadLength place)))
    by_test true fits = fits refl
    by_test false fits = tt

-- an access of a node of the tree, and of a length that there is
record IsAccess (rows : Rows) (access : Access) : Type 0 where
  node : access.node < length rows
  length_is : is_length access.length ≡ true

access_reads : (rows : Rows) (version : Version) (place : Place) (d : Data) → Reads (IsAccess rows) (access_at rows version place d)
unfolding access_at
access_reads rows version place d =
    then_reads (λ form. Unit {0}) (IsAccess rows) (or_fault (Shape place) (access_form version d)) _ (any_reads (Shape place) (access_form version d) tt) (λ form told.
    then_reads (λ node. node < length rows) (IsAccess rows) (node_on rows place form.0) _ (node_reads rows place form.0)
    (λ node within.
    then_reads (λ slots. is_length slots ≡ true) (IsAccess rows) (length_on place form.2) _ (length_reads place form.2)
    (λ slots fits. record { node = within; length_is = fits })))

-- the nodes of such accesses, and their lengths
are_nodes : (rows : Rows) (list : List Access) → All (IsAccess rows) list → AreNodes rows (nodes_of list)
are_nodes rows [] all place node at = absurd (cc)
are_nodes rows (access ∷ list) all zero node at = rw (← same_Some access.node node at) (All-head (IsAccess rows) access list all).node
are_nodes rows (access ∷ list) all (suc place) node at = are_nodes rows list (All-tail (IsAccess rows) access list all) place node at

are_lengths : (list : List Access) (rows : Rows) → All (IsAccess rows) list → AreLengths (lengths_of list)
are_lengths [] rows all place slots at = absurd (cc)
are_lengths (access ∷ list) rows all zero slots at =
    let (low, high) = and_parts _ _ (All-head (IsAccess rows) access list all).length_is in
    rw (← same_Some access.length slots at) (leb-true 1 access.length low, leb-true access.length 1000 high)
are_lengths (access ∷ list) rows all (suc place) slots at = are_lengths list rows (All-tail (IsAccess rows) access list all) place slots at

list_reads : (rows : Rows) (version : Version) (place : Place) (ds : List Data) → Reads (AreListed rows) (list_of rows version place ds)
list_reads rows version place ds =
    weaker_reads (λ list. (length list ≤ 64) × All (IsAccess rows) list) (AreListed rows) (list_of rows version place ds) (λ list here. (here.0, are_nodes rows list here.1, are_lengths list rows here.1))
    (few_reads (IsAccess rows) 64 place (access_in rows version place) ds (nat_lt 64 (length ds)) (ltb-false 64 (length ds)) (λ at d. access_reads rows version (item_on place at) d))

pub accesses_fit : (rows : Rows) (version : Version) (place : Place) (ds : List Data) (list : List Access)
    → list_of rows version place ds ≡ Ok list → AreListed rows list
accesses_fit rows version place ds list is = subst (Reads (AreListed rows)) is (list_reads rows version place ds)

-- a list that stands by itself
pub list_on_reads : (rows : Rows) (version : Version) (place : Place) (d : Data) → Reads (AreListed rows) (list_on rows version place d)
unfolding list_on
list_on_reads rows version place d =
    then_reads (λ ds. Unit {0}) (AreListed rows) (or_fault (Shape place) (as_list d)) _ (any_reads (Shape place) (as_list d) tt) (λ ds told. list_reads rows version place ds)

-- the lists of a batch
pub lists_read : (rows : Rows) (version : Version) (ds : List Data) → Reads (λ lists. (length lists ≤ 256) × All (AreListed rows) lists) (lists_of rows version ds)
lists_read rows version ds =
    few_reads (AreListed rows) 256 (whole_of part.Lists) (nth_list rows version) ds (nat_lt 256 (length ds)) (ltb-false 256 (length ds)) (λ at d. list_on_reads rows version (item_of part.Lists at) d)

-- what a call gives for them are so few lists of the tree
pub lists_few : (rows : Rows) (version : Version) (ds : List Data) (result : Result (Vec (List Access) Global) WireFault) → Gives (λ lists. lists.items) result (lists_of rows version ds)
    → IfOk result (λ lists. length lists.items ≤ 256)
lists_few rows version ds result gives =
    given_reads (λ lists. lists.items) (λ lists. length lists ≤ 256) result (lists_of rows version ds) gives
    (weaker_reads (λ lists. (length lists ≤ 256) × All (AreListed rows) lists) (λ lists. length lists ≤ 256) (lists_of rows version ds) (λ lists here. here.0) (lists_read rows version ds))

pub lists_fit : (rows : Rows) (version : Version) (ds : List Data) (result : Result (Vec (List Access) Global) WireFault) → Gives (λ lists. lists.items) result (lists_of rows version ds)
    → IfOk result (λ lists. All (λ list. AreNodes rows (nodes_of list)) lists.items)
lists_fit rows version ds result gives =
    given_reads (λ lists. lists.items) (All (λ list. AreNodes rows (nodes_of list))) result (lists_of rows version ds) gives
    (weaker_reads (λ lists. (length lists ≤ 256) × All (AreListed rows) lists) (All (λ list. AreNodes rows (nodes_of list))) (lists_of rows version ds)
    (λ lists here. All-weaker (AreListed rows) (λ list. AreNodes rows (nodes_of list)) (λ list listed. listed.1) lists here.1) (lists_read rows version ds))

-- ---- members of an object

-- the items of a part
items_read : (part : Part) (d : Data) → Reads (λ ds. Unit {0}) (items_in part d)
unfolding items_in
items_read part d = any_reads (Shape (whole_of part)) (items_of (part_word part) d) tt

version_reads : (d : Data) → Reads (λ version. Unit {0}) (version_in d)
unfolding version_in
version_reads d = any_reads (Shape (whole_of part.Whole)) (version_of (get (codes "version") d)) tt

pub list_in_reads : (rows : Rows) (d : Data) → Reads (AreListed rows) (list_in rows d)
unfolding list_in
list_in_reads rows d =
    then_reads (λ version. Unit {0}) (AreListed rows) (version_in d) _ (version_reads d) (λ version told.
    then_reads (λ ds. Unit {0}) (AreListed rows) (items_in part.List d) _ (items_read part.List d) (λ ds told. list_reads rows version (whole_of part.List) ds))

-- ---- plans

path_reads : (rows : Rows) (place : Place) (d : Data) → Reads (λ node. node < length rows) (path_at rows place d)
path_reads rows place d =
    then_reads (λ path. Unit {0}) (λ node. node < length rows) (or_fault (Shape place) (as_str d)) _ (any_reads (Shape place) (as_str d) tt) (λ path told. node_reads rows place path)

-- one reading or another
pub either_reads : {A : Type 0} (P : A → Type 0) (test : Bool) (one other : Result A WireFault) → Reads P one → Reads P other → Reads P (cond test one other)
either_reads P true one other here there = here
either_reads P false one other here there = there

step_of_reads : (rows : Rows) (place : Place) (word operand : Data) → Reads (StepFits rows) (step_of rows place word operand)
unfolding step_of
step_of_reads rows place word operand =
    either_reads (StepFits rows) (is_word (codes "lock") word) _ _
    (then_reads (λ node. node < length rows) (StepFits rows) (path_at rows place operand) (λ node. Ok (step.Lock node)) (path_reads rows place operand) (λ node within. within))
    (either_reads (StepFits rows) (is_word (codes "unlock") word) _ _
    (then_reads (λ node. node < length rows) (StepFits rows) (path_at rows place operand) (λ node. Ok (step.Unlock node)) (path_reads rows place operand) (λ node within. within))
    (either_reads (StepFits rows) (is_word (codes "access") word) _ _
    (then_reads (λ access. Unit {0}) (StepFits rows) (or_fault (Shape place) (as_short operand)) (λ access. Ok (step.Access access)) (any_reads (Shape place) (as_short operand) tt) (λ access told. tt))
    tt))

step_on_reads : (rows : Rows) (place : Place) (ds : List Data) → Reads (StepFits rows) (step_on rows place ds)
step_on_reads rows place [] = tt
step_on_reads rows place (word ∷ []) = tt
step_on_reads rows place (word ∷ operand ∷ []) = step_of_reads rows place word operand
step_on_reads rows place (word ∷ operand ∷ other ∷ others) = tt

step_reads : (rows : Rows) (place : Place) (d : Data) → Reads (StepFits rows) (step_at rows place d)
unfolding step_at
step_reads rows place d = then_reads (λ ds. Unit {0}) (StepFits rows) (or_fault (Shape place) (as_list d)) _ (any_reads (Shape place) (as_list d) tt) (λ ds told. step_on_reads rows place ds)

-- what all of a list have, its item at a place has
all_at : {A : Type 0} (P : A → Type 0) (xs : List A) → All P xs → (place : ℕ) (x : A) → slice_get xs place ≡ Some x → P x
all_at P [] all place x at = absurd (cc)
all_at P (y ∷ xs) all zero x at = subst P (same_Some y x at) (All-head P y xs all)
all_at P (y ∷ xs) all (suc place) x at = all_at P xs (All-tail P y xs all) place x at

-- the steps of a plan that stands at a place
pub steps_read : (rows : Rows) (place : Place) (ds : List Data)
    → Reads (PlanFits rows) (few_on 4294967295 (step_at rows) place ds)
steps_read rows place ds =
    weaker_reads (λ plan. (length plan ≤ 4294967295) × All (StepFits rows) plan) (PlanFits rows)
    (few_on 4294967295 (step_at rows) place ds) (λ plan here. all_at (StepFits rows) plan here.1)
    (few_reads (StepFits rows) 4294967295 place (step_in rows place) ds (nat_lt 4294967295 (length ds))
    (ltb-false 4294967295 (length ds)) (λ at d. step_reads rows (item_on place at) d))

pub plan_reads : (rows : Rows) (d : Data) → Reads (PlanFits rows) (plan_in rows d)
unfolding plan_in
plan_reads rows d =
    then_reads (λ ds. Unit {0}) (PlanFits rows) (items_in part.Plan d) _ (items_read part.Plan d) (λ ds told. steps_read rows (whole_of part.Plan) ds)

-- ---- jobs

-- a job whose list is a list of the tree
abbrev JobFits : Rows → Job → Type 0
JobFits rows job = AreListed rows job.list

job_reads : (rows : Rows) (version : Version) (at : ℕ) (d : Data) → Reads (JobFits rows) (job_at rows version at d)
unfolding job_at
job_reads rows version at d =
    then_reads (λ object. Unit {0}) (JobFits rows) (object_at (item_of part.Jobs at) d) _ (either_reads (λ object. Unit {0}) (is_some (as_object d)) _ _ tt tt) (λ object told.
    then_reads (λ ds. Unit {0}) (JobFits rows) (items_at (item_of part.JobList at) (codes "list") object) _ (any_reads _ (items_of (codes "list") object) tt) (λ accesses told.
    then_reads (AreListed rows) (JobFits rows) (list_of rows version (item_of part.JobList at) accesses) _ (list_reads rows version (item_of part.JobList at) accesses) (λ list listed.
    then_reads (λ ds. Unit {0}) (JobFits rows) (items_at (item_of part.JobPlan at) (codes "plan") object) _ (any_reads _ (items_of (codes "plan") object) tt) (λ steps told.
    then_reads (PlanFits rows) (JobFits rows) (few_on 4294967295 (step_at rows) (item_of part.JobPlan at) steps) _
    (steps_read rows (item_of part.JobPlan at) steps) (λ plan fits. listed)))))

jobs_read : (rows : Rows) (version : Version) (ds : List Data) → Reads (λ jobs. (length jobs ≤ 256) × All (JobFits rows) jobs) (jobs_of rows version ds)
jobs_read rows version ds = few_reads (JobFits rows) 256 (whole_of part.Jobs) (job_at rows version) ds (nat_lt 256 (length ds)) (ltb-false 256 (length ds)) (job_reads rows version)

-- so each job by its number
all_fit : (rows : Rows) (jobs : List Job) → All (JobFits rows) jobs → AllFit rows jobs
all_fit rows [] all t within = absurd (omega arith)
all_fit rows (job ∷ jobs) all zero within = (All-head (JobFits rows) job jobs all).1
all_fit rows (job ∷ jobs) all (suc t) within = all_fit rows jobs (All-tail (JobFits rows) job jobs all) t (omega arith)

-- what a call gives for them are so few jobs with lists of the tree
pub jobs_few : (rows : Rows) (version : Version) (ds : List Data) (result : Result (Vec Job Global) WireFault) → Gives (λ jobs. jobs.items) result (jobs_of rows version ds)
    → IfOk result (λ jobs. length jobs.items ≤ 256)
jobs_few rows version ds result gives =
    given_reads (λ jobs. jobs.items) (λ jobs. length jobs ≤ 256) result (jobs_of rows version ds) gives
    (weaker_reads (λ jobs. (length jobs ≤ 256) × All (JobFits rows) jobs) (λ jobs. length jobs ≤ 256) (jobs_of rows version ds) (λ jobs here. here.0) (jobs_read rows version ds))

pub jobs_fit : (rows : Rows) (version : Version) (ds : List Data) (result : Result (Vec Job Global) WireFault) → Gives (λ jobs. jobs.items) result (jobs_of rows version ds)
    → IfOk result (λ jobs. AllFit rows jobs.items)
jobs_fit rows version ds result gives =
    given_reads (λ jobs. jobs.items) (AllFit rows) result (jobs_of rows version ds) gives
    (weaker_reads (λ jobs. (length jobs ≤ 256) × All (JobFits rows) jobs) (AllFit rows) (jobs_of rows version ds) (λ jobs here. all_fit rows jobs here.1) (jobs_read rows version ds))

-- ---- flows

abbrev RowFits : Rows → FlowRow → Type 0
RowFits rows row = row.node < length rows

flow_row_reads : (rows : Rows) (place : Place) (d : Data) → Reads (RowFits rows) (flow_row_at rows place d)
unfolding flow_row_at
flow_row_reads rows place d =
    then_reads (λ form. Unit {0}) (RowFits rows) (or_fault (Shape place) (flow_form d)) _ (any_reads (Shape place) (flow_form d) tt) (λ form told.
    then_reads (λ node. node < length rows) (RowFits rows) (node_on rows place form.0)
    (λ node. Ok (record form.1 { node = node })) (node_reads rows place form.0) (λ node within. within))

pub flow_reads : (rows : Rows) (d : Data) → Reads (FlowFits rows) (flow_in rows d)
unfolding flow_in
flow_reads rows d =
    then_reads (λ ds. Unit {0}) (FlowFits rows) (items_in part.Flow d) _ (items_read part.Flow d) (λ ds told.
    weaker_reads (λ flow. (length flow ≤ 4294967295) × All (RowFits rows) flow) (FlowFits rows)
    (few_on 4294967295 (flow_row_at rows) (whole_of part.Flow) ds) (λ flow here. all_at (RowFits rows) flow here.1)
    (few_reads (RowFits rows) 4294967295 (whole_of part.Flow) (flow_row_in rows) ds (nat_lt 4294967295 (length ds))
    (ltb-false 4294967295 (length ds)) (λ at d. flow_row_reads rows (item_of part.Flow at) d)))

-- Reading goes by the names of the tree's nodes alone: over rows that are equal save for their weights a line asks for
-- the same, or has the same fault.
use Rattle.std.proofs.Common.{◌≡◌, ℕ, zero, suc, Bool, true, false, cond, List, [], ◌∷◌, ◌++◌, length, Option, Some, None}
use Rattle.std.proofs.Common.{refl, ◌∙◌, ap, bytes_eq, codes}
use Rattle.std.specs.Prelude.{Result, Ok, Err, nat_lt, find}
use Rattle.serde_json.specs.Data.{Data}
use Rattle.grove_base.specs.Numbers.{numbers_below}
use Rattle.grove_tree.specs.Trees.{Rows, parent_of, name_of}
use Rattle.grove_tree.specs.Weights.{unweighed}
use Rattle.grove_tree.specs.Paths.{name_below, names_within, or_slash, path_of, node_at}
use Rattle.grove_tree.proofs.SameNames.{unweighed_same}
use Rattle.grove_plan.specs.declared.step.Step.TheVariants as step
use Rattle.grove_wire.specs.declared.fault.WireFault.{WireFault}
use Rattle.grove_wire.specs.declared.fault.WireFault.TheVariants.{BadJson, NoPath, Limit}
use Rattle.grove_wire.specs.declared.place.Part.TheVariants as part
use Rattle.grove_wire.specs.declared.place.Place.{Place}
use Rattle.grove_wire.specs.declared.versions.Version.{Version}
use Rattle.grove_wire.specs.declared.versions.Version.TheVariants.{Second}
use Rattle.grove_wire.specs.Outcomes.{◌>>=◌, or_fault, of_form, each_from, few_on}
use Rattle.grove_wire.specs.Places.{whole_of, item_on}
use Rattle.grove_wire.specs.Forms.{as_list, access_form, flow_form, is_word}
use Rattle.grove_wire.specs.Reading.{value_of, object_at, version_in, items_in, node_on, length_on, access_at, list_of}
use Rattle.grove_wire.specs.Reading.{list_in, list_on, path_at, step_of, step_on, step_at, plan_in, flow_row_at}
use Rattle.grove_wire.specs.Reading.{flow_in}
use Rattle.grove_wire.specs.Requests.{Plan, Check, Batch, only_member, plan_of, check_of, batch_of, named_of}
use Rattle.grove_wire.specs.Requests.{request_of}
use Rattle.grove_wire.specs.RequestLaws.{ReadingGoesByNames}

-- ---- paths

below_same : (names others : ℕ → List ℕ) → ((node : ℕ) → names node ≡ others node) → (name : List ℕ) (parent : Option ℕ)
    → name_below names name parent ≡ name_below others name parent
below_same names others same name None = refl
below_same names others same name (Some parent) = ap (λ (front : List ℕ). front ++ 47 ∷ name) (same parent)

-- the names above and at each node
pub names_same : (rows others : Rows) → unweighed rows ≡ unweighed others → (n node : ℕ)
    → names_within rows n node ≡ names_within others n node
names_same rows others same zero node = refl
names_same rows others same (suc n) node =
    let (parent, name) = (unweighed_same rows others same).1 node in
    below_same (names_within rows n) (names_within others n) (names_same rows others same n) (name_of rows node)
    (parent_of rows node)
    ∙ ap (λ (bytes : List ℕ). name_below (names_within others n) bytes (parent_of rows node)) name
    ∙ ap (λ (above : Option ℕ). name_below (names_within others n) (name_of others node) above) parent

path_same : (rows others : Rows) → unweighed rows ≡ unweighed others → (node : ℕ)
    → path_of rows node ≡ path_of others node
path_same rows others same node =
    let long = (unweighed_same rows others same).0 in
    ap or_slash (names_same rows others same (length rows) node ∙ ap (λ (n : ℕ). names_within others n node) long)

found_same : (test other : ℕ → Bool) → ((node : ℕ) → test node ≡ other node) → (nodes : List ℕ)
    → find test nodes ≡ find other nodes
found_same test other same [] = refl
found_same test other same (node ∷ nodes) =
    ap (λ (is : Bool). cond is (Some node) (find test nodes)) (same node)
    ∙ ap (cond (other node) (Some node)) (found_same test other same nodes)

node_same : (rows others : Rows) → unweighed rows ≡ unweighed others → (path : List ℕ)
    → node_at rows path ≡ node_at others path
node_same rows others same path =
    let long = (unweighed_same rows others same).0 in
    found_same (λ node. bytes_eq (path_of rows node) path) (λ node. bytes_eq (path_of others node) path)
    (λ node. ap (λ (bytes : List ℕ). bytes_eq bytes path) (path_same rows others same node))
    (numbers_below (length rows))
    ∙ ap (λ (n : ℕ). find (λ node. bytes_eq (path_of others node) path) (numbers_below n)) long

-- ---- readings that agree one by one agree together

then_same : {A B : Type 0} (read : Result A WireFault) (next other : A → Result B WireFault)
    → ((x : A) → next x ≡ other x) → (read >>= next) ≡ (read >>= other)
then_same (Ok x) next other same = same x
then_same (Err fault) next other same = refl

each_same : {A : Type 0} (read other : ℕ → Data → Result A WireFault) → ((at : ℕ) (d : Data) → read at d ≡ other at d)
    → (at : ℕ) (ds : List Data) → each_from read at ds ≡ each_from other at ds
each_same read other same at [] = refl
each_same {A} read other same at (d ∷ ds) =
    ap (λ (first : Result A WireFault). first >>= λ x. (each_from read (suc at) ds >>= λ xs. Ok (x ∷ xs))) (same at d)
    ∙ ap (λ (rest : Result (List A) WireFault). other at d >>= λ x. (rest >>= λ xs. Ok (x ∷ xs)))
    (each_same read other same (suc at) ds)

few_same : {A : Type 0} (most : ℕ) (read other : Place → Data → Result A WireFault)
    → ((place : Place) (d : Data) → read place d ≡ other place d) → (place : Place) (ds : List Data)
    → few_on most read place ds ≡ few_on most other place ds
few_same {A} most read other same place ds =
    ap (λ (rest : Result (List A) WireFault). cond (nat_lt most (length ds)) (Err (Limit place)) rest)
    (each_same (λ at. read (item_on place at)) (λ at. other (item_on place at)) (λ at d. same (item_on place at) d) 0 ds)

either_same : {A : Type 0} (is : Bool) (x y other : A) → x ≡ y → (z : A) → z ≡ other → cond is x z ≡ cond is y other
either_same true x y other first z rest = first
either_same false x y other first z rest = rest

-- ---- what is read of a tree's paths

node_on_same : (rows others : Rows) → unweighed rows ≡ unweighed others → (place : Place) (path : List ℕ)
    → node_on rows place path ≡ node_on others place path
node_on_same rows others same place path = ap (or_fault (NoPath place)) (node_same rows others same path)

access_same : (rows others : Rows) → unweighed rows ≡ unweighed others → (version : Version) (place : Place) (d : Data)
    → access_at rows version place d ≡ access_at others version place d
unfolding access_at
access_same rows others same version place d =
    then_same (of_form (access_form version) place d) _ _ (λ form.
    ap (λ (found : Result ℕ WireFault). found >>= λ node. (length_on place form.2 >>= λ slots.
    Ok (record { node = node; op = form.1; length = slots }))) (node_on_same rows others same place form.0))

list_of_same : (rows others : Rows) → unweighed rows ≡ unweighed others → (version : Version) (place : Place)
    (ds : List Data) → list_of rows version place ds ≡ list_of others version place ds
list_of_same rows others same version place ds =
    few_same 64 (access_at rows version) (access_at others version) (access_same rows others same version) place ds

list_in_same : (rows others : Rows) → unweighed rows ≡ unweighed others → (d : Data)
    → list_in rows d ≡ list_in others d
unfolding list_in
list_in_same rows others same d =
    then_same (version_in d) _ _ (λ version. then_same (items_in part.List d) _ _ (λ ds.
    list_of_same rows others same version (whole_of part.List) ds))

list_on_same : (rows others : Rows) → unweighed rows ≡ unweighed others → (version : Version) (place : Place)
    (d : Data) → list_on rows version place d ≡ list_on others version place d
unfolding list_on
list_on_same rows others same version place d =
    then_same (of_form as_list place d) _ _ (list_of_same rows others same version place)

path_at_same : (rows others : Rows) → unweighed rows ≡ unweighed others → (place : Place) (d : Data)
    → path_at rows place d ≡ path_at others place d
path_at_same rows others same place d = then_same _ _ _ (node_on_same rows others same place)

step_of_same : (rows others : Rows) → unweighed rows ≡ unweighed others → (place : Place) (word operand : Data)
    → step_of rows place word operand ≡ step_of others place word operand
unfolding step_of
step_of_same rows others same place word operand =
    let path = path_at_same rows others same place operand in
    either_same (is_word (codes "lock") word) _ _ _
    (ap (λ (node : Result ℕ WireFault). node >>= λ node. Ok (step.Lock node)) path) _
    (either_same (is_word (codes "unlock") word) _ _ _
    (ap (λ (node : Result ℕ WireFault). node >>= λ node. Ok (step.Unlock node)) path) _ refl)

step_on_same : (rows others : Rows) → unweighed rows ≡ unweighed others → (place : Place) (ds : List Data)
    → step_on rows place ds ≡ step_on others place ds
step_on_same rows others same place [] = refl
step_on_same rows others same place (word ∷ []) = refl
step_on_same rows others same place (word ∷ operand ∷ []) = step_of_same rows others same place word operand
step_on_same rows others same place (word ∷ operand ∷ d ∷ ds) = refl

step_same : (rows others : Rows) → unweighed rows ≡ unweighed others → (place : Place) (d : Data)
    → step_at rows place d ≡ step_at others place d
unfolding step_at
step_same rows others same place d = then_same (of_form as_list place d) _ _ (step_on_same rows others same place)

plan_same : (rows others : Rows) → unweighed rows ≡ unweighed others → (d : Data) → plan_in rows d ≡ plan_in others d
unfolding plan_in
plan_same rows others same d =
    then_same (items_in part.Plan d) _ _
    (few_same 4294967295 (step_at rows) (step_at others) (step_same rows others same) (whole_of part.Plan))

flow_row_same : (rows others : Rows) → unweighed rows ≡ unweighed others → (place : Place) (d : Data)
    → flow_row_at rows place d ≡ flow_row_at others place d
unfolding flow_row_at
flow_row_same rows others same place d =
    then_same (of_form flow_form place d) _ _ (λ form. ap (λ (found : Result ℕ WireFault). found >>= λ node.
    Ok (record form.1 { node = node })) (node_on_same rows others same place form.0))

flow_same : (rows others : Rows) → unweighed rows ≡ unweighed others → (d : Data) → flow_in rows d ≡ flow_in others d
unfolding flow_in
flow_same rows others same d =
    then_same (items_in part.Flow d) _ _
    (few_same 4294967295 (flow_row_at rows) (flow_row_at others) (flow_row_same rows others same) (whole_of part.Flow))

-- ---- requests

plan_of_same : (rows others : Rows) → unweighed rows ≡ unweighed others → (d : Data) → plan_of rows d ≡ plan_of others d
unfolding plan_of
plan_of_same rows others same d =
    ap (λ (list : Result _ WireFault). list >>= λ list. Ok (Plan list))
    (list_on_same rows others same Second (whole_of part.List) d)

check_of_same : (rows others : Rows) → unweighed rows ≡ unweighed others → (d : Data)
    → check_of rows d ≡ check_of others d
unfolding check_of
check_of_same rows others same d =
    then_same (object_at (whole_of part.Whole) d) _ _ (λ object.
    ap (λ (list : Result _ WireFault). list >>= λ list. (plan_in rows object >>= λ plan. (flow_in rows object >>= λ flow.
    Ok (Check list plan flow)))) (list_in_same rows others same object)
    ∙ then_same (list_in others object) _ _ (λ list.
    ap (λ (plan : Result _ WireFault). plan >>= λ plan. (flow_in rows object >>= λ flow. Ok (Check list plan flow)))
    (plan_same rows others same object)
    ∙ then_same (plan_in others object) _ _ (λ plan.
    ap (λ (flow : Result _ WireFault). flow >>= λ flow. Ok (Check list plan flow)) (flow_same rows others same object))))

batch_of_same : (rows others : Rows) → unweighed rows ≡ unweighed others → (d : Data)
    → batch_of rows d ≡ batch_of others d
unfolding batch_of
batch_of_same rows others same d =
    then_same (of_form as_list (whole_of part.Lists) d) _ _ (λ ds.
    ap (λ (lists : Result _ WireFault). lists >>= λ lists. Ok (Batch lists))
    (few_same 256 (list_on rows Second) (list_on others Second) (list_on_same rows others same Second)
    (whole_of part.Lists) ds))

named_same : (rows others : Rows) → unweighed rows ≡ unweighed others → (name : List ℕ) (d : Data)
    → named_of rows name d ≡ named_of others name d
unfolding named_of
named_same rows others same name d =
    either_same (bytes_eq name (codes "plan")) _ _ _ (plan_of_same rows others same d) _
    (either_same (bytes_eq name (codes "check")) _ _ _ (check_of_same rows others same d) _
    (either_same (bytes_eq name (codes "batch")) _ _ _ (batch_of_same rows others same d) _ refl))

pub reading_goes_by_names : ReadingGoesByNames
unfolding request_of
reading_goes_by_names rows others line same =
    then_same (or_fault BadJson (value_of line)) _ _ (λ d.
    then_same (of_form only_member (whole_of part.Whole) d) _ _ (λ only. named_same rows others same only.0 only.1))

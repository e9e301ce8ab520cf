-- One element more of what a loop puts.
use Rattle.std.proofs.Common.{◌≡◌, ℕ, zero, suc, ◌+◌, ◌^◌, ◌<◌, ◌≤◌, List, [], ◌∷◌, ◌++◌, length, take, get_or, map}
use Rattle.std.proofs.Common.{Option, Result, Ok, Err, IfOk, IfErr, refl, sym, ap, ap₂, subst, ◌∙◌, arith}
use Rattle.std.proofs.Common.{add-one, Fits}
use Rattle.std.specs.Prelude.{All, FitsSigned, Vec}
use Rattle.std.specs.Result.{IsErrAnd}
use Rattle.std.specs.Str.{IsUtf8}
use Rattle.std.specs.declared.alloc.Global.{Global}
use Rattle.std.specs.Int.{w64, cast_signed}
use Rattle.std.proofs.lemmas.Int.{of_z-to_z}
use Rattle.std.proofs.lemmas.List.{length-map, map-append}
use Rattle.std.proofs.Math.ListN.{get_or-map}
use Rattle.std.proofs.lemmas.List.Elements.{All-head, All-tail, All-map, All-from_get_or}
use Rattle.std.proofs.Math.Facts.{sfits_to_z}
use Rattle.grove_tree.specs.Trees.{Rows, parent_of, name_of}
use Rattle.grove_tree.specs.Weights.{unweighed, weights_of}
use Rattle.grove_tree.specs.BuiltRows.{rows_of}
use Rattle.grove_tree.specs.declared.fault.TreeFault.{TreeFault}
use Rattle.grove_tree.specs.declared.fault.TreeFault.TheVariants.{Empty, TooMany, BadParent, TooDeep, BadName}
use Rattle.grove_tree.specs.declared.fault.TreeFault.TheVariants.{TwiceNamed, BadWeight, Memory as no_tree}
use Rattle.grove_tree.specs.declared.row.Row.{Row}
use Rattle.grove_effects.specs.Snapshots.{Names, named_of, names_of}
use Rattle.grove_effects.specs.declared.snapshot.NodeName.{NodeName}
use Rattle.grove_data.specs.Numbers.{bits_of}
use Rattle.grove_store.specs.StoreStates.{StoreState}
use Rattle.grove_data.specs.Files.{OpensAs}
use Rattle.grove_data.specs.Refusals.{IsRefused}
use Rattle.grove_data.specs.Parts.{IsFor, tree_fault_said}
use Rattle.grove_data.specs.declared.reading.NoStoreThere.{NoStoreThere}
use Rattle.grove_data.specs.declared.reading.NoStoreThere.TheVariants.{Memory, Unreadable, Unfit}

pub names_more : (rows : Rows) (n : ℕ) → n < length rows
    → unweighed (take (suc n) rows) ≡ unweighed (take n rows) ++ (parent_of rows n, name_of rows n) ∷ []
names_more [] n lt = absurd (omega arith)
names_more (row ∷ rows) zero lt = refl
names_more (row ∷ rows) (suc n) lt =
    ap (λ (l : Names). (row.parent, row.name) ∷ l) (names_more rows n (omega arith))

-- rows of the first names and weights
pub record AreRowsOf (names : List NodeName) (weighing : List ℕ) (n : ℕ) (rows : List Row) : Type 0 where
  pub named : unweighed (rows_of rows) ≡ names_of (take n names)
  pub weighed : weights_of (rows_of rows) ≡ take n weighing

-- the first numbers, none of them above 1,000
pub record AreWaits (numbers : List ℕ) (n : ℕ) (waits : List ℕ) : Type 0 where
  pub same : waits ≡ take n numbers
  pub few : All (λ count. count ≤ 1000) waits

-- bits of the records that words are the bits of
pub bits_again : (words : List ℕ) → All (λ word. word < 2 ^ 64) words → bits_of (map (cast_signed w64) words) ≡ words
bits_again [] small = refl
bits_again (word ∷ words) small =
    let P : ℕ → Type 0 = λ word. word < 2 ^ 64 in
    ap₂ (λ (x : ℕ) (xs : List ℕ). x ∷ xs) (of_z-to_z w64 word (All-head P word words small))
    (bits_again words (All-tail P word words small))

-- ---- one more

pub put_name : (old new : List NodeName) (node : NodeName) (rows : Rows) (n : ℕ) → n < length rows
    → node.parent ≡ parent_of rows n → node.name.items ≡ name_of rows n → names_of old ≡ unweighed (take n rows)
    → new ≡ old ++ node ∷ [] → names_of new ≡ unweighed (take (n + 1) rows)
put_name old new node rows n lt parent name put pushed =
    ap names_of pushed ∙ map-append named_of old (node ∷ [])
    ∙ ap (λ (l : Names). l ++ (node.parent, node.name.items) ∷ []) put
    ∙ ap (λ (p : Option ℕ). unweighed (take n rows) ++ (p, node.name.items) ∷ []) parent
    ∙ ap (λ (m : List ℕ). unweighed (take n rows) ++ (parent_of rows n, m) ∷ []) name
    ∙ rw add-one (sym (names_more rows n lt))

-- the name of a node among texts is one
pub text_at : (nodes : List NodeName) (i : ℕ) (node : NodeName) → i < length nodes → node ≡ get_or nodes i node
    → All (λ named. IsUtf8 named.1) (names_of nodes) → IsUtf8 node.name.items
text_at nodes i node lt is are =
    subst (λ (n : Option ℕ × List ℕ). IsUtf8 n.1)
    (get_or-map named_of nodes i node ∙ ap named_of (sym is))
    (are i (named_of node) (omega (arith, length-map nodes named_of)))

-- a name that was made is any that is the same
pub name_made : {E : Type 0} (r : Result (Vec ℕ Global) E) (a b : List ℕ) → a ≡ b → IfOk r (λ name. name.items ≡ a)
    → IfOk r (λ name. name.items ≡ b)
name_made (Ok name) a b same is = is ∙ same
name_made (Err error) a b same is = tt

-- ---- why no store was read

pub for_more : (P Q : Type 0) (fault : NoStoreThere) → (P → Q) → IsFor P fault → IsFor Q fault
for_more P Q Memory so for = tt
for_more P Q (Unreadable fault) so for = absurd for
for_more P Q Unfit so for = so for

pub passes : {T : Type 0} (r : Result T NoStoreThere) (fault : NoStoreThere) (Q : Type 0)
    → IsErrAnd r (λ passed. passed ≡ fault) → IsFor Q fault → IfErr r (IsFor Q)
passes (Ok x) fault Q passed for = absurd passed
passes (Err other) fault Q passed for = subst (IsFor Q) (sym passed) for

pub tree_refused : (fault : TreeFault) (Q : Type 0) → ((fault ≡ no_tree → ⊥) → Q) → IsFor Q (tree_fault_said fault)
tree_refused no_tree Q so = tt
tree_refused Empty Q so = so (λ e. cc)
tree_refused TooMany Q so = so (λ e. cc)
tree_refused (BadParent row) Q so = so (λ e. cc)
tree_refused (TooDeep row) Q so = so (λ e. cc)
tree_refused (BadName row) Q so = so (λ e. cc)
tree_refused (TwiceNamed row) Q so = so (λ e. cc)
tree_refused (BadWeight row) Q so = so (λ e. cc)

refused_for : (fault : NoStoreThere) (file : List ℕ) (P : Type 0) → IsFor P fault
    → (P → (store : StoreState) → OpensAs file store → ⊥) → IsRefused file fault
refused_for Memory file P for so = tt
refused_for (Unreadable fault) file P for so = absurd for
refused_for Unfit file P for so = so for

pub passes_refused : {T : Type 0} (r : Result T NoStoreThere) (fault : NoStoreThere) (file : List ℕ) (P : Type 0)
    → IsErrAnd r (λ passed. passed ≡ fault) → IsFor P fault → (P → (store : StoreState) → OpensAs file store → ⊥)
    → IfErr r (IsRefused file)
passes_refused (Ok x) fault file P passed for so = absurd passed
passes_refused (Err other) fault file P passed for so =
    subst (IsRefused file) (sym passed) (refused_for fault file P for so)

pub refused_by : {T : Type 0} (r : Result T NoStoreThere) (file : List ℕ) (P : Type 0) → IfErr r (IsFor P)
    → (P → (store : StoreState) → OpensAs file store → ⊥) → IfErr r (IsRefused file)
refused_by (Ok x) file P for so = tt
refused_by (Err fault) file P for so = refused_for fault file P for so

-- a store that was made is the only one
pub only_one : {E : Type 0} (r : Result StoreState E) (P Q : StoreState → Type 0)
    → ((store : StoreState) → P store → Q store) → IfOk r P → IfOk r Q
only_one (Ok store) P Q so is = so store is
only_one (Err error) P Q so is = tt

-- ---- bits of records

pub words_small : (words : List ℕ) → ((i : ℕ) → Fits w64 (get_or words i 0)) → All (λ word. word < 2 ^ 64) words
words_small words fit = All-from_get_or (λ word. word < 2 ^ 64) words 0 (λ i lt. fits (get_or words i 0) (fit i))
  where
    fits : (n : ℕ) → Fits w64 n → n < 2 ^ 64
    fits n fit = omega arith

pub signed_fit : (words : List ℕ) → ((i : ℕ) → Fits w64 (get_or words i 0))
    → All (FitsSigned w64) (map (cast_signed w64) words)
signed_fit words fit = All-map (FitsSigned w64) (cast_signed w64) words
    (All-from_get_or (λ word. FitsSigned w64 (cast_signed w64 word)) words 0 (λ i lt. sfits_to_z (fit i)))

-- Paths and names, and the first node with a path.
use Rattle.std.proofs.Common.{◌≡◌, ℕ, zero, suc, ◌<◌, Bool, true, false, List, [], ◌∷◌, length, Option, Some, None, refl, sym, ◌∙◌, ap, inl, inr, arith, bytes_eq, length-append}
use Rattle.std.specs.List.{find}
use Rattle.std.specs.Option.{option_or, IfSome}
use Rattle.std.proofs.lemmas.Option.{same_Some, none-some}
use Rattle.std.proofs.lemmas.List.Folds.{find-append}
use Rattle.std.proofs.lemmas.Bool.{cases_lt, cases_Bool, and_parts, ltb-true}
use Rattle.std.proofs.lemmas.Slice.Eq.{bytes_eq-Decides}
use Rattle.grove_base.specs.Numbers.{numbers_below}
use Rattle.grove_tree.specs.Trees.{Rows, parent_of, name_of, IsTree}
use Rattle.grove_tree.specs.Rules.{IsWithinLimits}
use Rattle.grove_tree.specs.Paths.{or_slash, path_of, node_at}
use Rattle.grove_tree.proofs.Above.{parent_within}
use Rattle.grove_tree.proofs.Names.{names_of, names_step, names_root}

-- no number passes
pub find_none : (n : ℕ) (test : ℕ → Bool) → ((k : ℕ) → k < n → test k ≡ false) → find test (numbers_below n) ≡ None
find_none zero test none = refl
find_none (suc n) test none =
    let before = find_none n test (λ k lt. none k (omega arith)) in
    grind (arith, find-append)

-- one number alone passes
pub find_one : (n : ℕ) (test : ℕ → Bool) (one : ℕ) → one < n → test one ≡ true → ((k : ℕ) → k < n → test k ≡ true → one ≡ k) → find test (numbers_below n) ≡ Some one
find_one zero test one lt here only = absurd (omega arith)
find_one (suc n) test one lt here only = elim (cases_lt one n) [
  | inl before ↦
      find-append test (numbers_below n) (n ∷ [])
      ∙ ap (λ (o : Option ℕ). option_or o (find test (n ∷ []))) (find_one n test one before here (λ k less passes. only k (omega arith) passes))
  | inr past ↦ grind (arith, cases_Bool, find-append, find_none)
]

-- the node found is the first with the path, where it has it and no other node does
pub node_found : (rows : Rows) (path : List ℕ) (result : Option ℕ) → IfSome result (λ node. (node < length rows) × (path_of rows node ≡ path))
    → ((node : ℕ) → node < length rows → path_of rows node ≡ path → result ≡ Some node) → result ≡ node_at rows path
node_found rows path None found only = grind (arith, bytes_eq-Decides, cases_Bool, find_none, none-some)
node_found rows path (Some node) (within, is) only =
    sym (find_one (length rows) (λ node. bytes_eq (path_of rows node) path) node within ((bytes_eq-Decides (path_of rows node) path).1 is)
    (λ k lt same. same_Some node k (only k lt ((bytes_eq-Decides (path_of rows k) path).0 same))))

-- no node's names are a slash alone
no_slash_by : (rows : Rows) → IsTree rows → IsWithinLimits rows → (node : ℕ) (o : Option ℕ) → parent_of rows node ≡ o → names_of rows node ≡ 47 ∷ [] → ⊥
no_slash_by rows tree limits node None own is = absurd (cc (names_root rows node own, is))
no_slash_by rows tree limits zero (Some parent) own is = none-some parent (sym tree.root ∙ own)
no_slash_by rows tree limits (suc node) (Some parent) own is =
    let (some, more) = and_parts _ _ (limits.names node (parent_within rows (suc node) parent own)) in
    let long = ap (λ (bytes : List ℕ). length bytes) (sym (names_step rows tree (suc node) parent own) ∙ is) in
    let joined = length-append (names_of rows parent) (47 ∷ name_of rows (suc node)) in
    absurd (omega (arith, ltb-true 0 (length (name_of rows (suc node))) some))

-- and so none has a slash alone for its names
pub no_slash : (rows : Rows) → IsTree rows → IsWithinLimits rows → (node : ℕ) → names_of rows node ≡ 47 ∷ [] → ⊥
no_slash rows tree limits node is = no_slash_by rows tree limits node (parent_of rows node) refl is

slash_empty : (names : List ℕ) → (names ≡ 47 ∷ [] → ⊥) → or_slash names ≡ 47 ∷ [] → names ≡ []
slash_empty [] other is = refl
slash_empty (byte ∷ bytes) other is = absurd (other is)

slash_same : (names path : List ℕ) → (path ≡ 47 ∷ [] → ⊥) → or_slash names ≡ path → names ≡ path
slash_same [] path other is = absurd (other (sym is))
slash_same (byte ∷ bytes) path other is = is

slash_back : (names path : List ℕ) → (path ≡ [] → ⊥) → names ≡ path → or_slash names ≡ path
slash_back [] path some is = absurd (some (sym is))
slash_back (byte ∷ bytes) path some is = is

-- a node with the path of a slash has no names
pub root_names : (rows : Rows) → IsTree rows → IsWithinLimits rows → (node : ℕ) → path_of rows node ≡ 47 ∷ [] → names_of rows node ≡ []
root_names rows tree limits node is = slash_empty (names_of rows node) (no_slash rows tree limits node) is

-- a node's path is its names, but for the root's
pub path_names : (rows : Rows) (path : List ℕ) (node : ℕ) → (path ≡ 47 ∷ [] → ⊥) → path_of rows node ≡ path → names_of rows node ≡ path
path_names rows path node other is = slash_same (names_of rows node) path other is

-- and the other way round
pub names_path : (rows : Rows) (path : List ℕ) (node : ℕ) → (path ≡ [] → ⊥) → names_of rows node ≡ path → path_of rows node ≡ path
names_path rows path node some is = slash_back (names_of rows node) path some is

-- no path is empty
pub path_some : (names : List ℕ) → or_slash names ≡ [] → ⊥
path_some [] is = absurd (cc)
path_some (byte ∷ bytes) is = absurd (cc)

-- No two nodes have one path.
use Rattle.std.proofs.Common.{◌≡◌, ℕ, zero, suc, ◌<◌, true, List, [], ◌∷◌, ◌++◌, length, Option, Some, None, refl, sym, ◌∙◌, ap, subst, true≢false, arith}
use Rattle.std.specs.List.{list_all}
use Rattle.std.proofs.lemmas.Option.{none-some}
use Rattle.std.proofs.lemmas.Bool.{and_parts}
use Rattle.grove_tree.specs.Trees.{Rows, parent_of, name_of, IsTree}
use Rattle.grove_tree.specs.Rules.{is_name_byte, IsWithinLimits}
use Rattle.grove_tree.specs.Paths.{or_slash, path_of, node_at}
use Rattle.grove_tree.proofs.Above.{parent_lt}
use Rattle.grove_tree.proofs.Names.{names_of, names_step, names_root}
use Rattle.grove_tree.proofs.Paths.{node_found, root_names, path_names}
use Rattle.grove_tree.proofs.PathParts.{tail_same}
use Rattle.grove_tree.proofs.PathDescent.{named}

-- a name has no slash in it
no_slash_within : (front name : List ℕ) → list_all is_name_byte (front ++ 47 ∷ name) ≡ true → ⊥
no_slash_within [] name h = true≢false (sym h)
no_slash_within (byte ∷ front) name h = no_slash_within front name (and_parts (is_name_byte byte) (list_all is_name_byte (front ++ 47 ∷ name)) h).1

-- two texts that end in a slash and a name are cut at the same place
pub cut_last : (front other a b : List ℕ) → list_all is_name_byte a ≡ true → list_all is_name_byte b ≡ true → front ++ 47 ∷ a ≡ other ++ 47 ∷ b
    → (front ≡ other) × (a ≡ b)
cut_last [] [] a b ha hb e = (refl, tail_same 47 47 a b e)
cut_last [] (y ∷ other) a b ha hb e = absurd (no_slash_within other b (subst (λ (bytes : List ℕ). list_all is_name_byte bytes ≡ true) (tail_same 47 y a (other ++ 47 ∷ b) e) ha))
cut_last (x ∷ front) [] a b ha hb e = absurd (no_slash_within front a (subst (λ (bytes : List ℕ). list_all is_name_byte bytes ≡ true) (sym (tail_same x 47 (front ++ 47 ∷ a) b e)) hb))
cut_last (x ∷ front) (y ∷ other) a b ha hb e =
    grind (arith, tail_same, cut_last front other a b ha hb (tail_same x y (front ++ 47 ∷ a) (other ++ 47 ∷ b) e))

-- a text that ends in a slash and a name is not empty
not_empty : (front name : List ℕ) → front ++ 47 ∷ name ≡ [] → ⊥
not_empty [] name e = absurd (cc)
not_empty (byte ∷ front) name e = absurd (cc)

-- nodes with the same names are one, below a bound
same_names_by : (rows : Rows) → IsTree rows → IsWithinLimits rows → (bound a b : ℕ) → a < bound → (o p : Option ℕ) → parent_of rows a ≡ o → parent_of rows b ≡ p
    → a < length rows → b < length rows → names_of rows a ≡ names_of rows b → a ≡ b
same_names_by rows tree limits zero a b lt o p own its within its_within e = absurd (omega arith)
same_names_by rows tree limits (suc bound) zero zero lt None None own its within its_within e = refl
same_names_by rows tree limits (suc bound) a (suc b) lt None None own its within its_within e =
    let place : (parent : ℕ) × (parent_of rows (suc b) ≡ Some parent) × _ = tree.preorder b its_within in absurd (none-some place.0 (sym its ∙ place.1))
same_names_by rows tree limits (suc bound) (suc a) b lt None None own its within its_within e =
    let place : (parent : ℕ) × (parent_of rows (suc a) ≡ Some parent) × _ = tree.preorder a within in absurd (none-some place.0 (sym own ∙ place.1))
same_names_by rows tree limits (suc bound) a b lt None (Some q) own its within its_within e =
    absurd (not_empty (names_of rows q) (name_of rows b) (sym (names_step rows tree b q its) ∙ sym e ∙ names_root rows a own))
same_names_by rows tree limits (suc bound) a b lt (Some p) None own its within its_within e =
    absurd (not_empty (names_of rows p) (name_of rows a) (sym (names_step rows tree a p own) ∙ e ∙ names_root rows b its))
same_names_by rows tree limits (suc bound) a b lt (Some p) (Some q) own its within its_within e =
    let less : p < a = parent_lt rows tree a p own in
    let its_less : q < b = parent_lt rows tree b q its in
    let cut : (names_of rows p ≡ names_of rows q) × (name_of rows a ≡ name_of rows b) =
    cut_last (names_of rows p) (names_of rows q) (name_of rows a) (name_of rows b) (named rows tree limits a p own) (named rows tree limits b q its)
    (sym (names_step rows tree a p own) ∙ e ∙ names_step rows tree b q its) in
    let same : p ≡ q = same_names_by rows tree limits bound p q (omega arith) (parent_of rows p) (parent_of rows q) refl refl (omega arith) (omega arith) cut.0 in
    limits.differ a b p own (its ∙ ap (λ (v : ℕ). Some v) (sym same)) cut.1

-- the names of a path, whichever node has it
names_of_path : (rows : Rows) → IsTree rows → IsWithinLimits rows → (a b : ℕ) (names : List ℕ) → names_of rows a ≡ names → path_of rows b ≡ or_slash names → names_of rows b ≡ names
names_of_path rows tree limits a b [] is same = root_names rows tree limits b same
names_of_path rows tree limits a b (byte ∷ bytes) is same =
    path_names rows (byte ∷ bytes) b (λ slash. not_slash (root_names rows tree limits a (ap or_slash is ∙ slash))) same
  where
    not_slash : names_of rows a ≡ [] → ⊥
    not_slash none = absurd (cc (sym is ∙ none))

-- the path of a node is found as that node
pub path_found : (rows : Rows) → IsTree rows → IsWithinLimits rows → (node : ℕ) → node < length rows → node_at rows (path_of rows node) ≡ Some node
path_found rows tree limits node within =
    sym (node_found rows (path_of rows node) (Some node) (within, refl) (λ other its_within same.
    ap (λ (v : ℕ). Some v) (same_names_by rows tree limits (suc node) node other (omega arith) (parent_of rows node) (parent_of rows other) refl refl within its_within
    (sym (names_of_path rows tree limits node other (names_of rows node) refl same)))))

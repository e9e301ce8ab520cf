-- The names of a tree's nodes: they are short texts without a slash, and paths end with them.
use Rattle.std.proofs.Common.{◌≡◌, ℕ, zero, suc, ◌^◌, ◌<◌, ◌≤◌, Bool, true, false, List, [], ◌∷◌, ◌++◌, length, Option}
use Rattle.std.proofs.Common.{None, Some, refl, sym, ap, subst, ◌∙◌, arith, append_assoc, append-nil, true≢false}
use Rattle.std.specs.Prelude.{All, slice_index_or, ◌==◌, cond}
use Rattle.std.specs.List.{list_all}
use Rattle.std.specs.Str.{IsUtf8}
use Rattle.std.proofs.lemmas.Bool.{and_parts, leb-true, ne_eqb, cond-false}
use Rattle.std.proofs.lemmas.Option.{none-some}
use Rattle.std.proofs.lemmas.Str.{IsUtf8-from_ascii}
use Rattle.grove_tree.specs.Trees.{Rows, IsTree, parent_of, name_of, weight_of}
use Rattle.grove_tree.specs.Weights.{unweighed, weights_of}
use Rattle.grove_tree.specs.Rules.{is_name_byte, IsWithinLimits}
use Rattle.grove_tree.specs.Paths.{or_slash, path_of}
use Rattle.grove_tree.proofs.Above.{parent_lt}
use Rattle.grove_tree.proofs.Names.{names_of, names_step, names_root}
use Rattle.grove_tree.proofs.PathParts.{name_bytes}
use Rattle.grove_tree.proofs.AsciiNames.{ascii_bytes}
use Rattle.grove_tree.proofs.SameNames.{length-unweighed}
use Rattle.grove_effects.specs.Snapshots.{IsNamed, parent_number}
use Rattle.grove_data.specs.Parts.{AreNames, last_name}

-- the name at a place
named_at : (rows : Rows) (k : ℕ) (d : Option ℕ × List ℕ) → k < length rows
    → slice_index_or (unweighed rows) k d ≡ (parent_of rows k, name_of rows k)
named_at [] k d lt = absurd (omega arith)
named_at (row ∷ rows) zero d lt = refl
named_at (row ∷ rows) (suc k) d lt = named_at rows k d (omega arith)

each_named : (rows : Rows) (P : Option ℕ × List ℕ → Type 0) → ((k : ℕ) → k < length rows
    → P (parent_of rows k, name_of rows k)) → All P (unweighed rows)
each_named rows P each k d lt =
    let within : k < length rows = omega (arith, length-unweighed rows) in
    subst P (sym (named_at rows k d within)) (each k within)

no_slash : (c : ℕ) → is_name_byte c ≡ true → (c == 47) ≡ false
no_slash c is = ne_eqb c 47 (λ e. true≢false (sym is ∙ ap is_name_byte e))

-- bytes of a name stand behind the last slash as they are
name_behind : (so_far name : List ℕ) → list_all is_name_byte name ≡ true → last_name so_far name ≡ so_far ++ name
name_behind so_far [] all = sym (append-nil so_far)
name_behind so_far (c ∷ cs) all =
    let parts = and_parts _ _ all in
    cond-false (c == 47) (last_name [] cs) (last_name (so_far ++ c ∷ []) cs) (no_slash c parts.0)
    ∙ name_behind (so_far ++ c ∷ []) cs parts.1 ∙ append_assoc so_far (c ∷ []) cs

either : (b : Bool) (x y z : List ℕ) → x ≡ z → y ≡ z → cond b x y ≡ z
either true x y z e e' = e
either false x y z e e' = e'

-- what stands before a slash is left out
slash_behind : (so_far front name : List ℕ) → last_name so_far (front ++ 47 ∷ name) ≡ last_name [] name
slash_behind so_far [] name = refl
slash_behind so_far (c ∷ cs) name =
    either (c == 47) _ _ (last_name [] name) (slash_behind [] cs name) (slash_behind (so_far ++ c ∷ []) cs name)

some_path : (front name : List ℕ) → or_slash (front ++ 47 ∷ name) ≡ front ++ 47 ∷ name
some_path [] name = refl
some_path (c ∷ cs) name = refl

module _ (rows : Rows) (tree : IsTree rows) (limits : IsWithinLimits rows) where
  name_all : (node : ℕ) → node < length rows → list_all is_name_byte (name_of rows node) ≡ true
  name_all zero lt = subst (λ (n : List ℕ). list_all is_name_byte n ≡ true) (sym limits.unnamed_root) refl
  name_all (suc node) lt = name_bytes (name_of rows (suc node)) (limits.names node lt)

  name_short : (node : ℕ) → node < length rows → length (name_of rows node) ≤ 32
  name_short zero lt = subst (λ (n : List ℕ). length n ≤ 32) (sym limits.unnamed_root) (omega arith)
  name_short (suc node) lt =
      let name = name_of rows (suc node) in
      leb-true (length name) 32 ((and_parts _ _ ((and_parts _ _ (limits.names node lt)).1)).0)

  pub names_short : All (λ named. length named.1 ≤ 32) (unweighed rows)
  names_short = each_named rows (λ named. length named.1 ≤ 32) (λ node lt. name_short node lt)

  pub names_text : All (λ named. IsUtf8 named.1) (unweighed rows)
  names_text = each_named rows (λ named. IsUtf8 named.1)
      (λ node lt. IsUtf8-from_ascii (name_of rows node) (ascii_bytes (name_of rows node) (name_all node lt)))

  parent_small : (node : ℕ) (o : Option ℕ) → node < length rows → parent_of rows node ≡ o → parent_number o < 2 ^ 32
  parent_small node None lt e = omega arith
  parent_small node (Some parent) lt e =
      omega (arith, parent_lt rows tree node parent e, limits.few)

  pub names_fit : AreNames (unweighed rows)
  names_fit = (
    omega (arith, length-unweighed rows, limits.few),
    each_named rows IsNamed
        (λ node lt. (parent_small node (parent_of rows node) lt refl, omega (arith, name_short node lt))),
  )

  -- only the root has no parent
  root_name : (node : ℕ) → node < length rows → parent_of rows node ≡ None → name_of rows node ≡ []
  root_name zero lt none = limits.unnamed_root
  root_name (suc node) lt none = let has = tree.preorder node lt in absurd (none-some has.0 (sym none ∙ has.1))

  ends_at : (node : ℕ) (o : Option ℕ) → node < length rows → parent_of rows node ≡ o
      → last_name [] (path_of rows node) ≡ name_of rows node
  ends_at node None lt e =
      ap (λ (names : List ℕ). last_name [] (or_slash names)) (names_root rows node e) ∙ sym (root_name node lt e)
  ends_at node (Some parent) lt e =
      let front = names_of rows parent in
      let name = name_of rows node in
      ap (λ (names : List ℕ). last_name [] (or_slash names)) (names_step rows tree node parent e)
      ∙ ap (last_name []) (some_path front name) ∙ slash_behind [] front name ∙ name_behind [] name (name_all node lt)

  -- a path ends with its node's name
  pub path_ends : (node : ℕ) → node < length rows → last_name [] (path_of rows node) ≡ name_of rows node
  path_ends node lt = ends_at node (parent_of rows node) lt refl

  weight_small : (weighing : Rows) → ((node : ℕ) → weight_of weighing node ≤ 1000)
      → All (λ weight. weight < 2 ^ 32) (weights_of weighing)
  weight_small [] light k d lt = absurd (omega arith)
  weight_small (row ∷ weighing) light zero d lt = omega (arith, light 0)
  weight_small (row ∷ weighing) light (suc k) d lt =
      weight_small weighing (λ node. light (suc node)) k d (omega arith)

  pub weights_small : All (λ weight. weight < 2 ^ 32) (weights_of rows)
  weights_small = weight_small rows limits.light

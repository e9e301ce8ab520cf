-- The name of a node is what comes after the last slash of its path.
use Rattle.std.proofs.Common.{◌≡◌, ℕ, zero, suc, ◌+◌, ◌<◌, true, true≢false, List, [], ◌∷◌, ◌++◌, length, get_or, take, drop, Option, Some, None, refl, sym, ap, ◌∙◌, subst, arith, length-append, take-append-drop}
use Rattle.std.specs.List.{list_all}
use Rattle.std.specs.Str.Pattern.{RFindsChar}
use Rattle.std.proofs.lemmas.Str.Pattern.{NoCharPasses-char, drop_at_char}
use Rattle.std.proofs.lemmas.Bool.{and_parts}
use Rattle.std.proofs.lemmas.Option.{none-some}
use Rattle.std.proofs.Math.Seq.{get_or-append_seam}
use Rattle.grove_tree.specs.Trees.{Rows, parent_of, name_of, IsTree}
use Rattle.grove_tree.specs.Rules.{is_name_byte, IsWithinLimits}
use Rattle.grove_tree.specs.Paths.{or_slash, path_of}
use Rattle.grove_tree.proofs.Names.{names_of, names_step, names_root}
use Rattle.grove_tree.proofs.PathParts.{tail_same, name_bytes}

abbrev Lacks : List ℕ → Type 0
Lacks text = (i : ℕ) → i < length text → get_or text i 0 ≡ 47 → ⊥

-- a name has no slash
name_lacks : (name : List ℕ) → list_all is_name_byte name ≡ true → (i : ℕ) → i < length name → get_or name i 0 ≡ 47 → ⊥
name_lacks [] h i small is = absurd (omega arith)
name_lacks (x ∷ xs) h zero small is =
    let (here, there) = and_parts (is_name_byte x) (list_all is_name_byte xs) h in
    true≢false (sym here ∙ ap is_name_byte is)
name_lacks (x ∷ xs) h (suc i) small is =
    let (here, there) = and_parts (is_name_byte x) (list_all is_name_byte xs) h in
    name_lacks xs there i (omega arith) is

-- a slash within a text is a slash of it
has_slash : (text above below : List ℕ) → text ≡ above ++ 47 ∷ below → Lacks text → ⊥
has_slash text above below is lacks =
    let long : length text ≡ length above + suc (length below) = ap (λ (l : List ℕ). length l) is ∙ length-append above (47 ∷ below) in
    lacks (length above) (omega arith) (ap (λ (l : List ℕ). get_or l (length above) 0) is ∙ get_or-append_seam above 47 below 0)

-- what comes after the last slash is one text
last_same : (a b m n : List ℕ) → Lacks m → Lacks n → a ++ 47 ∷ m ≡ b ++ 47 ∷ n → m ≡ n
last_same [] [] m n hm hn e = tail_same 47 47 m n e
last_same [] (y ∷ b) m n hm hn e = absurd (has_slash m b n (tail_same 47 y m (b ++ 47 ∷ n) e) hm)
last_same (x ∷ a) [] m n hm hn e = absurd (has_slash n a m (sym (tail_same x 47 (a ++ 47 ∷ m) n e)) hn)
last_same (x ∷ a) (y ∷ b) m n hm hn e = last_same a b m n hm hn (tail_same x y (a ++ 47 ∷ m) (b ++ 47 ∷ n) e)

-- the path ends with a slash and the name, which has none
EndsWithName : Rows → ℕ → Type 0
EndsWithName rows node = (above : List ℕ) × (path_of rows node ≡ above ++ 47 ∷ name_of rows node) × Lacks (name_of rows node)

slash_kept : (above name : List ℕ) → or_slash (above ++ 47 ∷ name) ≡ above ++ 47 ∷ name
slash_kept [] name = refl
slash_kept (byte ∷ above) name = refl

ends_by : (rows : Rows) → IsTree rows → IsWithinLimits rows → (node : ℕ) → node < length rows → (o : Option ℕ) → parent_of rows node ≡ o → EndsWithName rows node
unfolding EndsWithName
ends_by rows tree limits zero within None own =
    ([], ap or_slash (names_root rows zero own) ∙ ap (λ (l : List ℕ). 47 ∷ l) (sym limits.unnamed_root), subst (λ (l : List ℕ). Lacks l) (sym limits.unnamed_root) (λ i small. absurd (omega arith)))
ends_by rows tree limits (suc node) within None own = absurd (none-some _ (sym own ∙ (tree.preorder node within).1))
ends_by rows tree limits zero within (Some parent) own = absurd (none-some parent (sym tree.root ∙ own))
ends_by rows tree limits (suc node) within (Some parent) own = (
  names_of rows parent,
  ap or_slash (names_step rows tree (suc node) parent own) ∙ slash_kept (names_of rows parent) (name_of rows (suc node)),
  name_lacks (name_of rows (suc node)) (name_bytes (name_of rows (suc node)) (limits.names node within)),
)

module _ (rows : Rows) (tree : IsTree rows) (limits : IsWithinLimits rows) (node : ℕ) (within : node < length rows) (path : List ℕ) (is : path ≡ path_of rows node) where
  ends : EndsWithName rows node
  ends = ends_by rows tree limits node within (parent_of rows node) refl

  -- what comes after the last slash of its path is its name
  pub name_after : (above name : List ℕ) (i j : ℕ) → RFindsChar 47 path (Some (i, j)) → above ≡ take i path → name ≡ drop j path → name ≡ name_of rows node
  unfolding EndsWithName
  name_after above name i j found front back =
      let split : path ≡ take i path ++ 47 ∷ drop j path = sym (take-append-drop i path) ∙ ap (λ (l : List ℕ). take i path ++ l) (drop_at_char 47 path i j found.1 (omega arith)) in
      let lacks : Lacks (drop j path) = λ k small at. NoCharPasses-char 47 (drop j path) k found.0 (omega arith) small at in
      back ∙ last_same (take i path) ends.0 (drop j path) (name_of rows node) lacks ends.2 (sym split ∙ is ∙ ends.1)

  -- and there is one
  pub slash_there : RFindsChar 47 path None → ⊥
  unfolding EndsWithName
  slash_there none = has_slash path ends.0 (name_of rows node) (is ∙ ends.1) (λ k small at. NoCharPasses-char 47 path k none (omega arith) small at)

-- The path of a node is text.
use Rattle.std.proofs.Common.{◌≡◌, ℕ, zero, suc, ◌≤◌, List, [], ◌∷◌, length, Option, Some, None}
use Rattle.std.proofs.Common.{refl, sym, subst, arith}
use Rattle.std.specs.Str.{IsAscii, IsUtf8}
use Rattle.std.proofs.lemmas.Bool.{cases_lt, and_parts}
use Rattle.std.proofs.lemmas.Str.{IsAscii-append, IsUtf8-from_ascii}
use Rattle.std.proofs.lemmas.Str.Ascii.{IsAscii-nil, IsAscii-cons}
use Rattle.grove_tree.specs.Trees.{Rows, parent_of, name_of}
use Rattle.grove_tree.specs.Rules.{IsWithinLimits}
use Rattle.grove_tree.specs.Paths.{names_within, name_below, or_slash, path_of, node_at}
use Rattle.grove_tree.proofs.Paths.{node_found}
use Rattle.grove_tree.proofs.AsciiNames.{ascii_bytes}

no_row : (rows : Rows) (node : ℕ) → length rows ≤ node → name_of rows node ≡ []
no_row [] node past = refl
no_row (row ∷ rows) zero past = absurd (omega arith)
no_row (row ∷ rows) (suc node) past = no_row rows node (omega arith)

module _ (rows : Rows) (limits : IsWithinLimits rows) where
  name_ascii : (node : ℕ) → IsAscii (name_of rows node)
  name_ascii zero = subst IsAscii (sym limits.unnamed_root) IsAscii-nil
  name_ascii (suc node) = grind (arith, IsAscii-nil, and_parts, ascii_bytes, cases_lt, no_row)

  below_ascii : (names : ℕ → List ℕ) → ((node : ℕ) → IsAscii (names node)) → (node : ℕ) (o : Option ℕ)
      → IsAscii (name_below names (name_of rows node) o)
  below_ascii names are node None = IsAscii-nil
  below_ascii names are node (Some parent) = grind (arith, IsAscii-append, IsAscii-cons, name_ascii)

  names_ascii : (n node : ℕ) → IsAscii (names_within rows n node)
  names_ascii zero node = IsAscii-nil
  names_ascii (suc n) node = below_ascii (names_within rows n) (names_ascii n) node (parent_of rows node)

  slash_ascii : (names : List ℕ) → IsAscii names → IsAscii (or_slash names)
  slash_ascii [] are = IsAscii-cons 47 [] (omega arith) IsAscii-nil
  slash_ascii (byte ∷ bytes) are = are

  path_text : (node : ℕ) → IsUtf8 (path_of rows node)
  path_text node = IsUtf8-from_ascii (path_of rows node)
      (slash_ascii (names_within rows (length rows) node) (names_ascii (length rows) node))

  -- no node has a path that is no text
  pub no_text : (path : List ℕ) → ¬ IsUtf8 path → node_at rows path ≡ None
  no_text path none = sym (node_found rows path None tt
      (λ node lt same. absurd (none (subst IsUtf8 same (path_text node)))))

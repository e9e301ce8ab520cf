-- For the proofs alone: paths that were made.
use Rattle.std.specs.Prelude.{◌≡◌, ℕ, List, length, slice_get, Option, Some, String, string_bytes}
use Rattle.std.specs.declared.alloc.Global.{Global}
use Rattle.grove_tree.specs.Trees.{Rows}
use Rattle.grove_tree.specs.Paths.{path_of}

-- there is room for each node's, and each that was made is its node's
abbrev pub AreMade : Rows → List (Option (String Global)) → Type 0
AreMade rows made = (length made ≡ length rows)
    × ((node : ℕ) (path : String Global) → slice_get made node ≡ Some (Some path)
    → string_bytes path ≡ path_of rows node)

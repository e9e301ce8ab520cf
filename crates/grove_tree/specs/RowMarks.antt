-- For the proofs alone: marks of rows, by which most rows are seen to have no twin.
use Rattle.std.specs.Prelude.{◌≡◌, ℕ, ◌+◌, ◌*◌, ◌/◌, ◌%◌, ◌^◌, ◌<◌, List, slice_index, unwrap_or}
use Rattle.std.specs.Int.{bit_at}
use Rattle.grove_tree.specs.Trees.{Rows, parent_of, name_of}
use Rattle.grove_tree.specs.PathRests.{mark_of}

-- a mark of a parent and a name
abbrev pub mark_below : ℕ → List ℕ → ℕ
mark_below parent name = (mark_of name + parent * 81007 % 2 ^ 32) % 2 ^ 32 % 131072

-- a mark of a row: rows that have the same parent and the same name have the same mark
abbrev pub row_mark : Rows → ℕ → ℕ
row_mark rows row = mark_below (unwrap_or (parent_of rows row) 0) (name_of rows row)

-- the bit of a mark is set
abbrev pub IsSet : List ℕ → ℕ → Type 0
IsSet words mark = bit_at (slice_index words (mark / 64)) (mark % 64) ≡ 1

-- the marks of the first n rows are set
abbrev pub AreNoted : List ℕ → Rows → ℕ → Type 0
AreNoted words rows n = (row : ℕ) → row < n → IsSet words (row_mark rows row)

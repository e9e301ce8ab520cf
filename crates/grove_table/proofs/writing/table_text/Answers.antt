use Rattle.std.proofs.Common.{◌≡◌, ℕ, ◌+◌, List, ◌++◌, length, add-one, append-nil, append_assoc, codes, string_bytes}
use Rattle.std.proofs.Common.{sym, ◌∙◌, arith, rules}
use Rattle.std.specs.Prelude.{flat_map}
use Rattle.std.proofs.lemmas.List.Concat.{flat_map-append}
use Rattle.grove_base.specs.Numbers.{numbers_below}
use Rattle.grove_table.specs.Texts.{line_text}
use Rattle.grove_table.proofs.writing.table_text.Goals as goal

-- one line more
line_more : (header : List ℕ) (line : ℕ → List ℕ) (n : ℕ) (text row new : List ℕ)
    → text ≡ header ++ flat_map line (numbers_below n) → row ≡ line n → new ≡ text ++ row
    → new ≡ header ++ flat_map line (numbers_below (n + 1))
line_more header line n text row new so_far is more =
    grind (arith, add-one, append-nil, append_assoc, flat_map-append)

pub loop-number-init : goal.loop-number-init
loop-number-init c = c.in_ok-text.ensures.ok ∙ sym (append-nil _)

pub loop-number-preserved : goal.loop-number-preserved
loop-number-preserved c =
    line_more (codes "path,weight,value\n") (line_text c.args.tree.now c.args.records.now) c.loop-number.number _
    (string_bytes c.in_ok-line.line) _ c.loop-number.invariant (rw c.new.ensures at c.in_ok-line.ensures)
    (search rules)

pub returns : goal.returns
returns c =
    let all : c.loop-number.number ≡ length c.args.tree.now = omega arith in
    rw all at c.loop-number.invariant

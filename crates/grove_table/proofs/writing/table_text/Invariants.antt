use Rattle.std.proofs.Common.{◌≡◌, ◌++◌, string_bytes, codes}
use Rattle.std.specs.Prelude.{flat_map}
use Rattle.grove_base.specs.Numbers.{numbers_below}
use Rattle.grove_table.specs.Texts.{line_text}
use Rattle.grove_table.proofs.writing.table_text.Given as goal

abbrev pub invariant-loop-number : goal.invariant-loop-number
invariant-loop-number l = string_bytes l.text ≡ codes "path,weight,value\n"
    ++ flat_map (line_text l.tree l.records) (numbers_below l.number)

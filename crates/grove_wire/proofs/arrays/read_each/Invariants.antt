use Rattle.std.proofs.Common.{◌≡◌, drop, vec_len}
use Rattle.grove_wire.specs.Arrays.{EachRead, ReadsAt}
use Rattle.grove_wire.proofs.Each.{with_front}
use Rattle.grove_wire.proofs.arrays.read_each.Given as goal

-- what the rest is read as, after what is read so far, is what all are read as
abbrev pub invariant-loop-at : goal.invariant-loop-at
invariant-loop-at g l = record {
  read : (rest : _) → EachRead (ReadsAt g.F.Fn l.read) l.at (drop l.at l.items) rest
      → EachRead (ReadsAt g.F.Fn l.read) 0 l.items (with_front l.all.items rest);
  many : vec_len l.all ≡ l.at;
}

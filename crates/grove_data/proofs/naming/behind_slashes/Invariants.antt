use Rattle.std.proofs.Common.{◌≡◌, [], drop}
use Rattle.grove_data.specs.Parts.{last_name}
use Rattle.grove_data.proofs.naming.behind_slashes.Given as goal

abbrev pub invariant-loop-byte : goal.invariant-loop-byte
invariant-loop-byte l = last_name l.name.items (drop l.byte-index l.bytes) ≡ last_name [] l.bytes

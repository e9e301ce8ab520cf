use Rattle.std.proofs.Common.{◌≡◌, ◌+◌, sym, ap, ap₂, ◌∙◌, arith, min}
use Rattle.grove_wire.specs.declared.versions.Version.{Version}
use Rattle.grove_wire.specs.declared.versions.Version.TheVariants.{First, Second}
use Rattle.grove_wire.specs.FlatValues.{access_on, few_seen}
use Rattle.grove_wire.specs.Places.{item_on}
use Rattle.grove_wire.specs.Reading.{access_at}
use Rattle.grove_wire.proofs.FlatValues.{access_of_few}
use Rattle.grove_line.specs.ArrayItems.{with_next}
use Rattle.grove_line.specs.ListReading.{first_of, second_of}
use Rattle.grove_line.proofs.ArrayItems.{tally_turn}
use Rattle.grove_line.proofs.accesses.Accesses.add.Goals as goal

pub returns : goal.returns
returns c front d is reading =
    let tree = c.args.tree.now in
    let place = c.args.place in
    let count = c.args.self.now.count in
    let next : (version : Version) → access_on tree version c.within.result (few_seen c.args.items)
    ≡ access_at tree version (item_on place count) d = λ version.
    ap₂ (access_on tree version) c.within.ensures is ∙ sym (access_of_few tree version (item_on place count) d) in
    let more : c.read.new.self.count + 1 ≡ min (count + 1) (64 + 1) =
    omega (arith, c.in_ok-read.ensures.count, c.if-self-ge-MOST_ACCESSES.false) in
    record {
      first = tally_turn reading.first d more
          (λ less. c.in_ok-read.ensures.first ∙ ap (with_next (first_of c.args.self.now)) (next First));
      second = tally_turn reading.second d more
          (λ less. c.in_ok-read.ensures.second ∙ ap (with_next (second_of c.args.self.now)) (next Second));
    }

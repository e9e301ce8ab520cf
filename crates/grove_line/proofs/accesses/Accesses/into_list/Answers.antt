use Rattle.std.proofs.Common.{◌≡◌, Option, None, Some, Ok, refl}
use Rattle.grove_wire.specs.declared.fault.WireFault.{WireFault}
use Rattle.grove_wire.specs.declared.versions.Version.TheVariants.{Second}
use Rattle.grove_wire.specs.Outcomes.{few_on}
use Rattle.grove_wire.specs.Reading.{access_at}
use Rattle.grove_wire.proofs.Fitting.{accesses_fit}
use Rattle.grove_line.proofs.ArrayItems.{tally_few}
use Rattle.grove_line.proofs.accesses.Accesses.into_list.Goals as goal

no_fault : (fault : Option WireFault) → ((found : WireFault) → fault ≡ Some found → ⊥) → fault ≡ None
no_fault None none = refl
no_fault (Some found) none = absurd (none found refl)

pub unreachable-requires : goal.unreachable-requires
unreachable-requires c =
    let tree = c.args.tree.now in
    let place = c.args.place in
    let ds = c.requires.0 in
    let told : few_on 64 (access_at tree Second) place ds ≡ Ok c.args.self.all.items =
    tally_few (rw (no_fault c.args.self.fault c.in_default.not-Some) at c.requires.1.second)
    c.if-self-gt-MOST_ACCESSES.false in
    let listed = accesses_fit tree Second place ds _ told in
    c.in_default-of.ensures.refused listed

use Rattle.std.proofs.Common.{◌≡◌, ◌<◌, ◌∙◌, List, length, Option, Some, ap, refl, sym}
use Rattle.std.specs.Prelude.{nat_lt, slice_get}
use Rattle.std.proofs.lemmas.Bool.{ltb-true}
use Rattle.std.proofs.lemmas.Option.{slice_get_read}
use Rattle.std.proofs.lemmas.Slice.Eq.{bytes_eq-Decides}
use Rattle.grove_wire.specs.declared.finder.Found.{Found}
use Rattle.grove_wire.proofs.finder.Finder.known.Goals as goal

pub returns-in-Some : goal.returns-in-Some
returns-in-Some c =
    let items = c.self.inside.found.items in
    let found = c.in-Some.found in
    let read = c.in_ok-found.ensures.lookup in
    let within : c.args.slot < length items = ltb-true c.args.slot (length items)
    (sym (read.0 ∙ ap (λ (known : List (Option Found)). nat_lt c.args.slot (length known)) c.deref.ensures.value)) in
    let there : slice_get items c.args.slot ≡ Some (Some found) =
    slice_get_read items (length items) c.args.slot (Some found) refl within
    (cc (read.1, c.in-Some.is, c.deref.ensures.value)) in
    let same : found.path.now ≡ c.args.path.now =
    (bytes_eq-Decides found.path.now c.args.path.now).0 (sym c.eq.ensures ∙ c.if-eq.true) in
    cc (c.self.invariant c.args.slot found there, c.self.view_is, same, c.new.ensures)

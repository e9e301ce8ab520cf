use Rattle.std.proofs.Common.{◌≡◌, ◌≤◌, ℕ, Option, length, sym, ap, subst, arith}
use Rattle.std.proofs.lemmas.Bool.{ltb-false}
use Rattle.grove_core.specs.Kept.{past_of}
use Rattle.grove_core.specs.Cores.{Owns}
use Rattle.grove_core.proofs.CoreReads.{found, seen, owner_past}
use Rattle.grove_core.proofs.machine.Core.holder.Goals as goal

pub returns-in-Some : goal.returns-in-Some
returns-in-Some c =
    subst (λ (o : Option ℕ). Owns c.args.self.now.jobs (past_of c.args.self.now) c.args.node o) (sym c.holder.ensures)
    ((seen c.self.view_is c.self.invariant).owned c.args.node c.in-Some.owner.now (found c.deref.ensures.value c.number.ensures.is_it (sym c.in-Some.ensures.lookup.0) c.in-Some.ensures.lookup.1)).0

pub returns-in-None : goal.returns-in-None
returns-in-None c =
    let beyond : length c.deref.result.now ≤ c.number.result = ltb-false c.number.result (length c.deref.result.now) (sym c.in-None.ensures.lookup.0) in
    let e : length c.deref.result.now ≡ length c.self.inside.owners.items = ap length c.deref.ensures.value in
    let f : c.number.result ≡ c.args.node = c.number.ensures.is_it in
    λ t. owner_past (seen c.self.view_is c.self.invariant) t c.args.node (omega arith)

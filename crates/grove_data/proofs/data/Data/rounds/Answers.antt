use Rattle.std.proofs.Common.{ℕ, List, Option, ap, sym, subst, ◌∙◌}
use Rattle.std.specs.Option.{unwrap_or}
use Rattle.grove_data.specs.Files.{OpensAs}
use Rattle.grove_data.proofs.Kept.{opens_now}
use Rattle.grove_data.proofs.Stores.{last_read}
use Rattle.grove_data.proofs.data.Data.rounds.Goals as goal

pub returns-clause-rounds : goal.returns-clause-rounds
returns-clause-rounds g c = λ store keeps.
    c.unwrap_or.ensures
    ∙ ap (λ (o : Option ℕ). unwrap_or o 0) (c.copied.ensures ∙ c.last.ensures.value
    ∙ last_read store keeps.is_store c.deref.result.now (c.deref.ensures.value ∙ keeps.numbers))

pub returns-clause-there : goal.returns-clause-there
returns-clause-there g c = λ store file keeps left.
    subst (λ (f : List ℕ). OpensAs f store) (sym (keeps.settled.durable file left))
    (opens_now g.F.Device.seen g.F.Device.may_leave g.F.Device.faults c.args.self.now store keeps)

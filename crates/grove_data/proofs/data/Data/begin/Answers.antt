use Rattle.std.proofs.Common.{ℕ, List, [], ◌∷◌, length, refl, ap, subst, arith, ◌∙◌}
use Rattle.grove_log.specs.Logs.{IsOldOrNew}
use Rattle.grove_data.specs.Files.{IsOldOrOpens}
use Rattle.grove_data.proofs.Kept.{weaker, whole_short, old_or_opens, kept_whole}
use Rattle.grove_data.proofs.data.Data.begin.Goals as goal

pub restart-requires-clause-short : goal.restart-requires-clause-short
restart-requires-clause-short g c =
    let made = c.in_ok-names.ensures in
    omega (
      arith,
      ap (λ (l : List ℕ). length l) c.deref.ensures.value,
      whole_short c.args.store.now made.store.0 made.store.1 _ _ _ made.names made.numbers made.payload,
    )

pub returns-clause-stands : goal.returns-clause-stands
returns-clause-stands g c =
    let made = c.in_ok-names.ensures in
    let done = c.in_ok-restart.ensures.acknowledged in
    kept_whole c.args.store.now made.store.0 made.store.1 _ _ _ made.names made.numbers made.payload
    g.F.Device.seen g.F.Device.may_leave g.F.Device.faults _ done.0 done.1
    (done.2 ∙ ap (λ (l : List ℕ). l ∷ []) c.deref.ensures.value) refl refl

pub returns-clause-any_moment : goal.returns-clause-any_moment
returns-clause-any_moment g c =
    let made = c.in_ok-names.ensures in
    let file = g.F.Device.seen c.args.device in
    weaker g.F.Device.moment g.F.Device.left_since c.args.device c.restart.new.self.device
    (IsOldOrNew file c.deref.result.now) (IsOldOrOpens file c.args.store.now)
    (λ new left. old_or_opens c.args.store.now made.store.0 made.store.1 _ _ _ made.names made.numbers made.payload file
    new (subst (λ (l : List ℕ). IsOldOrNew file l new) c.deref.ensures.value left))
    (c.restart.ensures.any_moment refl)

use Rattle.std.proofs.Common.{◌∙◌, refl}
use Rattle.grove_wire.specs.Requests.{named_of}
use Rattle.grove_wire.specs.declared.versions.Version.TheVariants.{Second}
use Rattle.grove_line.proofs.OnlyMember.{plan_named, batch_named}
use Rattle.grove_line.proofs.TokenValues.{starts_weaker}
use Rattle.grove_line.proofs.only.Name.read.Goals as goal

pub returns-in-Ok-clause-read : goal.returns-in-Ok-clause-read
returns-in-Ok-clause-read c = rw c.in-Plan.is
    (starts_weaker (λ d is. rw c.in-Ok.is at (plan_named c.args.finder.now d c.in_version.result
    (c.in_version.ensures ∙ (rw (c.tree.ensures, c.whole.ensures) at is) Second))) c.in_ok-read-in-Plan.ensures.read)

pub returns-in-Err-clause-read : goal.returns-in-Err-clause-read
returns-in-Err-clause-read c = rw c.in-Plan.is
    (starts_weaker (λ d is. rw c.in-Err.is at (plan_named c.args.finder.now d c.in_version.result
    (c.in_version.ensures ∙ (rw (c.tree.ensures, c.whole.ensures) at is) Second))) c.in_ok-read-in-Plan.ensures.read)

pub returns-in-Check-clause-read : goal.returns-in-Check-clause-read
unfolding named_of
returns-in-Check-clause-read c = rw c.in-Check.is c.read_check.ensures.read

pub returns-in-Ok-2-clause-read : goal.returns-in-Ok-2-clause-read
returns-in-Ok-2-clause-read c = rw c.in-Batch.is
    (starts_weaker (λ d is. batch_named c.args.finder.now d _ (rw (c.in-Ok-2.is, c.whole-place.ensures) at is))
    c.in_ok-lists-in-Batch.ensures.read)

pub returns-in-Err-2-clause-read : goal.returns-in-Err-2-clause-read
returns-in-Err-2-clause-read c = rw c.in-Batch.is
    (starts_weaker (λ d is. batch_named c.args.finder.now d _ (rw (c.in-Err-2.is, c.whole-place.ensures) at is))
    c.in_ok-lists-in-Batch.ensures.read)

pub returns-in_ok-pass-in-Weights-clause-read : goal.returns-in_ok-pass-in-Weights-clause-read
unfolding named_of
returns-in_ok-pass-in-Weights-clause-read c =
    rw c.in-Weights.is (starts_weaker (λ d is. refl) c.in_ok-pass-in-Weights.ensures.passed)

pub returns-in_ok-pass-in-Reweigh-clause-read : goal.returns-in_ok-pass-in-Reweigh-clause-read
unfolding named_of
returns-in_ok-pass-in-Reweigh-clause-read c =
    rw c.in-Reweigh.is (starts_weaker (λ d is. refl) c.in_ok-pass-in-Reweigh.ensures.passed)

use Rattle.grove_line.proofs.CheckReading.{with_version, with_list, with_plan, with_flow, with_other}
use Rattle.grove_line.proofs.ObjectMembers.{unlike}
use Rattle.grove_line.proofs.TokenValues.{starts_weaker}
use Rattle.grove_line.proofs.check.CheckFromMembers.read_member.Goals as goal

pub returns-in_ok-scalar-in-version-clause-read : goal.returns-in_ok-scalar-in-version-clause-read
returns-in_ok-scalar-in-version-clause-read c = rw c.in-version.is (starts_weaker
    (λ d is ms before. with_version before d _ (c.version_of-self.ensures d is)) c.in_ok-scalar-in-version.ensures.read)

pub returns-in_ok-self-in-list-clause-read : goal.returns-in_ok-self-in-list-clause-read
returns-in_ok-self-in-list-clause-read c = rw c.in-list.is (starts_weaker
    (λ d is ms before. with_list before d _ (rw (c.tree.ensures, c.whole.ensures) at is))
    c.in_ok-self-in-list.ensures.read)

pub returns-in_ok-self-in-plan-clause-read : goal.returns-in_ok-self-in-plan-clause-read
returns-in_ok-self-in-plan-clause-read c = rw c.in-plan.is
    (starts_weaker (λ d is ms before. with_plan before d _ is) c.in_ok-self-in-plan.ensures.read)

pub returns-in_ok-self-in-flow-clause-read : goal.returns-in_ok-self-in-flow-clause-read
returns-in_ok-self-in-flow-clause-read c = rw c.in-flow.is
    (starts_weaker (λ d is ms before. with_flow before d _ is) c.in_ok-self-in-flow.ensures.read)

pub returns-in_ok-pass-in_default-clause-read : goal.returns-in_ok-pass-in_default-clause-read
returns-in_ok-pass-in_default-clause-read c = starts_weaker (λ d is ms before.
    with_other before d c.args.name.now (unlike _ _ c.in_default.not-version) (unlike _ _ c.in_default.not-list)
    (unlike _ _ c.in_default.not-plan) (unlike _ _ c.in_default.not-flow)) c.in_ok-pass-in_default.ensures.passed

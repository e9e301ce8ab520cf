use Rattle.grove_plan.proofs.FaultlessIsLegal.{faultless_legal, legal_faultless}
use Rattle.grove_plan.proofs.laws.plan_laws.Goals as goal

pub returns : goal.returns
returns c = λ rows nodes plan. (faultless_legal rows nodes plan, legal_faultless rows nodes plan)

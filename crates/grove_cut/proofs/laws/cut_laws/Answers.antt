use Rattle.grove_cut.proofs.CutPlans.{cuts_keep_legal, cuts_keep_cost}
use Rattle.grove_cut.proofs.CutTrees.{cuts_are_trees}
use Rattle.grove_cut.proofs.CutFlows.{cuts_keep_certificates}
use Rattle.grove_cut.proofs.CutLeast.{cuts_keep_least}
use Rattle.grove_cut.proofs.CutSettled.{cuts_keep_settled}
use Rattle.grove_cut.proofs.laws.cut_laws.Goals as goal

pub returns-clause-legal : goal.returns-clause-legal
returns-clause-legal c = cuts_keep_legal

pub returns-clause-cost : goal.returns-clause-cost
returns-clause-cost c = cuts_keep_cost

pub returns-clause-least : goal.returns-clause-least
returns-clause-least c = cuts_keep_least

pub returns-clause-settled : goal.returns-clause-settled
returns-clause-settled c = cuts_keep_settled

pub returns-clause-certified : goal.returns-clause-certified
returns-clause-certified c = cuts_keep_certificates

pub returns-clause-tree : goal.returns-clause-tree
returns-clause-tree c = cuts_are_trees

use Rattle.grove_session.proofs.LineCuts.{lines_are_cut, lines_are_feedless, lines_are_few}
use Rattle.grove_session.proofs.laws.line_laws.Goals as goal

pub returns-clause-cut : goal.returns-clause-cut
returns-clause-cut c = lines_are_cut

pub returns-clause-feedless : goal.returns-clause-feedless
returns-clause-feedless c = lines_are_feedless

pub returns-clause-few : goal.returns-clause-few
returns-clause-few c = lines_are_few

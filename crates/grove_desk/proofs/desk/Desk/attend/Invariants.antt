use Rattle.grove_desk.specs.Boards.{Takes}
use Rattle.grove_desk.proofs.desk.Desk.attend.Given as goal

abbrev pub invariant-loop : goal.invariant-loop
invariant-loop g l =
    (goal.iterator-loop g).can_next l.iterator' × (goal.iterator-loop g).is_finite l.iterator'
    × Takes l.turn l.taken.items

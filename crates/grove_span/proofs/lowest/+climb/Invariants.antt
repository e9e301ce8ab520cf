use Rattle.grove_span.proofs.lowest.+climb.Given as goal

-- each step up leads to a smaller number
abbrev pub decreases-climb : goal.decreases-climb
decreases-climb l = l.from

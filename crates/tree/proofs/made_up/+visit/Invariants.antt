use Rattle.tree.proofs.made_up.+visit.Given as goal

-- the levels fall
abbrev pub decreases-visit : goal.decreases-visit
decreases-visit l = l.levels

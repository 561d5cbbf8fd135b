use Rattle.tree.proofs.paths.+output_placement.Given as goal

-- the levels fall
abbrev pub decreases-output_placement : goal.decreases-output_placement
decreases-output_placement l = l.levels

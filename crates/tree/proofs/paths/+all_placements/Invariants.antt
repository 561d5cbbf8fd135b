use Rattle.tree.proofs.paths.+all_placements.Given as goal

-- the levels fall
abbrev pub decreases-all_placements : goal.decreases-all_placements
decreases-all_placements l = l.levels

use Rattle.tree.proofs.nodes.+lay.Given as goal

-- the levels fall
abbrev pub decreases-lay : goal.decreases-lay
decreases-lay l = l.levels

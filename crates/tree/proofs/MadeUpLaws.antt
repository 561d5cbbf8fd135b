-- What the loops of `made_up` rest on: the nodes and the gates that are left, from the present one on.
use Rattle.selector.proofs.MadeUpLaws.{linked_begin, linked_end, linked_step}
use Rattle.selector.proofs.WalkLaws.{wanted_begin, wanted-end, wanted_step}
use Rattle.tree.proofs.TestLaws.{tests}

pub ruleset links_left = (linked_begin, linked_step, linked_end)

pub ruleset wanted_left = (tests, wanted_begin, wanted_step, wanted-end)

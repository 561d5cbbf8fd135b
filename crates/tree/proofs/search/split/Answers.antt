-- `search::split` meets its contract: the three nodes are written in the definition's order.
use Rattle.std.proofs.Common.{◌∙◌}
use Rattle.selector.specs.Flat.{split_flat}
use Rattle.tree.proofs.search.split.Goals as goal

pub returns : goal.returns
unfolding split_flat
returns c = c.put_node-3.ensures ∙ rw (c.put_node-2.ensures, c.put_node.ensures)

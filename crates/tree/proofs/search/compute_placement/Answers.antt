-- `search::compute_placement` meets its contract: a lone leaf stands in one node, and else the search's tree.
use Rattle.std.proofs.Common.{◌∙◌, arith}
use Rattle.selector.specs.NodeLaws.{length-put}
use Rattle.tree.proofs.SearchLaws.{lone, plan-more, plan-one}
use Rattle.tree.proofs.search.compute_placement.Goals as goal

pub returns-then-many-eq1 : goal.returns-then-many-eq1
returns-then-many-eq1 c =
    let a = c.args in
    rw (plan-one a.gates.now a.many a.extra c.if-many-eq1.true, c.put_node.ensures)
    record { stands = lone a.many a.nodes.now (omega (arith, c.if-many-eq1.true)) c.requires.nodes_len; some = omega arith; nodes_len_2 = length-put a.nodes.now 0 0 0 0 ∙ c.requires.nodes_len }

pub returns : goal.returns
returns c =
    let a = c.args in
    record { stands = rw (plan-more a.gates.now a.many a.extra c.if-many-eq1.false) c.search.ensures.stands; some = c.search.ensures.some; nodes_len_2 = c.search.ensures.nodes_len_2 }

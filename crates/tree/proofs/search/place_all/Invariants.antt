-- `search::place_all` meets its contract. The loop offers the gates after the first; its invariant is that the flat run of the whole list is that of
-- what is left, from the nodes at hand. The flat run is the definition's by `flat_grows`.
use Rattle.selector.specs.Search.{may_stand}
use Rattle.tree.proofs.SearchLaws.{Growing}
use Rattle.tree.proofs.search.place_all.Given as goal

abbrev pub invariant-loop-i : goal.invariant-loop-i
invariant-loop-i l = Growing (may_stand l.extra l.gates l.target l.bound) l.gates l.many l.base l.order l.initial.nodes l.nodes l.count l.i

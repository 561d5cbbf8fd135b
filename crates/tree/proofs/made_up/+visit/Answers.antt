-- `made_up::visit` meets its contract, by the tree that stands at the node: no tree where the levels run out, a leaf is met, and a fork's right side is
-- walked where the left side was fine. The levels fall.
use Rattle.std.proofs.Common.{true, refl, arith}
use Rattle.selector.specs.Walk.{lost}
use Rattle.selector.proofs.WalkLaws.{visit_go, visit_leaf, visit_none, visit_stop}
use Rattle.tree.specs.Walks.{walk}
use Rattle.tree.proofs.made_up.+visit.Goals as goal

pub returns-then-levels-eq0-clause-visited : goal.returns-then-levels-eq0-clause-visited
returns-then-levels-eq0-clause-visited t c =
    let a = c.args in
    let w = walk a.met.now true in
    visit_none a.extra a.gates.now a.many a.nodes.now a.at a.level w a.levels (lost w) c.if-levels-eq0.true refl

pub returns-then-left-eq0-clause-visited : goal.returns-then-left-eq0-clause-visited
returns-then-left-eq0-clause-visited t c =
    let a = c.args in
    visit_leaf a.extra a.gates.now a.many a.nodes.now a.at a.level (walk a.met.now true) a.levels _ (omega arith) c.if-left-eq0.true c.meet.ensures.result_after

pub returns-then-visit-clause-visited : goal.returns-then-visit-clause-visited
returns-then-visit-clause-visited t c =
    let a = c.args in
    let one = c.visit in
    visit_go a.extra a.gates.now a.many a.nodes.now a.at a.level (walk a.met.now true) a.levels (walk one.new.met true) _ (omega arith) c.if-left-eq0.false (rw c.if-visit.true at one.ensures.visited) refl c.visit-then-visit.ensures.visited

pub returns-else-visit-clause-visited : goal.returns-else-visit-clause-visited
returns-else-visit-clause-visited t c =
    let a = c.args in
    let one = c.visit in
    visit_stop a.extra a.gates.now a.many a.nodes.now a.at a.level (walk a.met.now true) a.levels _ (omega arith) c.if-left-eq0.false one.ensures.visited c.if-visit.false

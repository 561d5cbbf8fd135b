-- `paths::all_placements` meets its contract, which speaks of the tree that stands at the node: a leaf writes its gate's words, a fork has both sides written, the
-- left side last. The levels fall; the depth, which bounds the bits, rises with them.
use Rattle.std.proofs.Common.{arith}
use Rattle.tree.proofs.PathsLaws.{halves, place_fork, place_leaf, place_past, seek_none}
use Rattle.tree.specs.Placements.{path_words}
use Rattle.tree.proofs.paths.+all_placements.Goals as goal

pub returns-then-levels-eq0 : goal.returns-then-levels-eq0
returns-then-levels-eq0 t c =
    let a = c.args in
    λ u q. absurd (seek_none a.nodes.now a.at a.levels u c.if-levels-eq0.true q)

pub returns-then-gate-lt-MOST_GATES : goal.returns-then-gate-lt-MOST_GATES
returns-then-gate-lt-MOST_GATES t c =
    let a = c.args in
    λ u q. place_leaf a.nodes.now a.at a.path a.weight a.depth (path_words a.bits.now a.lengths.now) a.levels u (omega arith) c.if-left-eq0.true q c.if-gate-lt-MOST_GATES.true

pub returns-else-gate-lt-MOST_GATES : goal.returns-else-gate-lt-MOST_GATES
returns-else-gate-lt-MOST_GATES t c =
    let a = c.args in
    λ u q. place_past a.nodes.now a.at a.path a.weight a.depth (path_words a.bits.now a.lengths.now) a.levels u (omega arith) c.if-left-eq0.true q c.if-gate-lt-MOST_GATES.false

pub returns : goal.returns
returns t c =
    let a = c.args in
    λ u q.
    let w = halves a.nodes.now a.at a.levels u (omega arith) c.if-left-eq0.false q in
    place_fork w.l w.r u w.is a.path a.weight a.depth (path_words a.bits.now a.lengths.now) _ _ (c.all_placements.ensures w.r w.right) (c.all_placements-2.ensures w.l w.left)

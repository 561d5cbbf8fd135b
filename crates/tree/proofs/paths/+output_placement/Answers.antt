-- `paths::output_placement` meets its contract, which speaks of the tree that stands at the node: at a leaf its gate decides, at a fork the left side's path
-- with a 1 in front, else the right side's with a 0. The levels fall, and bound the bits.
use Rattle.std.proofs.Common.{arith, ◌∙◌, eq-eqb, ne_eqb}
use Rattle.tree.proofs.PathsLaws.{halves, pow-some, pow_step, seek_leaf, seek_left, seek_neither, seek_none, seek_right}
use Rattle.tree.proofs.paths.+output_placement.Goals as goal

pub returns-then-levels-eq0-clause-value : goal.returns-then-levels-eq0-clause-value
returns-then-levels-eq0-clause-value t c =
    let a = c.args in
    λ u q. absurd (seek_none a.nodes.now a.at a.levels u c.if-levels-eq0.true q)

pub returns-then-gate-nodes-clause-value : goal.returns-then-gate-nodes-clause-value
returns-then-gate-nodes-clause-value t c =
    let a = c.args in
    λ u q. rw (eq-eqb _ _ c.if-gate-nodes.true) at (seek_leaf a.nodes.now a.at a.gate a.levels u (omega arith) c.if-left-eq0.true q)

pub returns-else-gate-nodes-clause-value : goal.returns-else-gate-nodes-clause-value
returns-else-gate-nodes-clause-value t c =
    let a = c.args in
    λ u q. rw (ne_eqb _ _ c.if-gate-nodes.false) at (seek_leaf a.nodes.now a.at a.gate a.levels u (omega arith) c.if-left-eq0.true q)

pub returns-in-Some-clause-value : goal.returns-in-Some-clause-value
returns-in-Some-clause-value t c =
    let a = c.args in
    λ u q.
    let w = halves a.nodes.now a.at a.levels u (omega arith) c.if-left-eq0.false q in
    seek_left a.gate w.l w.r u w.is c.in-Some.path (c.in-Some.ensures.value w.l w.left)

pub returns-in-Some-clause-bits_bound : goal.returns-in-Some-clause-bits_bound
returns-in-Some-clause-bits_bound t c =
    let y = pow_step c.args.levels (omega arith) in
    let e = c.in-Some.ensures.bits_bound in
    (omega (arith, e), omega (arith, e))

pub returns-in_err-path-clause-value : goal.returns-in_err-path-clause-value
returns-in_err-path-clause-value t c =
    let a = c.args in
    λ u q.
    let w = halves a.nodes.now a.at a.levels u (omega arith) c.if-left-eq0.false q in
    c.from_residual.ensures ∙ seek_neither a.gate w.l w.r u w.is (c.in_default.ensures.value w.l w.left) (c.in_err-path.ensures.value w.r w.right)

pub returns-clause-value : goal.returns-clause-value
returns-clause-value t c =
    let a = c.args in
    λ u q.
    let w = halves a.nodes.now a.at a.levels u (omega arith) c.if-left-eq0.false q in
    seek_right a.gate w.l w.r u w.is (c.in_default.ensures.value w.l w.left) c.in_ok-path.path (c.in_ok-path.ensures.value w.r w.right)

pub returns-clause-bits_bound : goal.returns-clause-bits_bound
returns-clause-bits_bound t c =
    let y = pow_step c.args.levels (omega arith) in
    let z = pow-some c.args.levels in
    let e = c.in_ok-path.ensures.bits_bound in
    (omega (arith, e), omega (arith, e))

-- `nodes::shape_of` meets its contract: where the search leaves a tree, the pass lays it out and takes its stats.
use Rattle.std.proofs.Common.{arith}
use Rattle.selector.specs.Search.{plan_tree}
use Rattle.tree.proofs.NodesLaws.{found, found_room, laid_shape, laid-small, laid-some}
use Rattle.tree.proofs.nodes.shape_of.Goals as goal

pub lay-done-requires : goal.lay-done-requires
lay-done-requires c =
    let a = c.args in
    let q = plan_tree a.extra a.gates.now a.many in
    let r = c.in_ok-compute_placement.ensures in
    let w = found a.many q c.compute_placement.new.nodes _ r.stands (λ z. omega (arith, z, r.some)) in
    record { sound = c.requires; room = found_room a.many q _ _ w; levels_bound = omega arith }

pub factor_of-factor-requires : goal.factor_of-factor-requires
factor_of-factor-requires c =
    let a = c.args in
    let q = plan_tree a.extra a.gates.now a.many in
    let r = c.in_ok-compute_placement.ensures in
    let w = found a.many q c.compute_placement.new.nodes _ r.stands (λ z. omega (arith, z, r.some)) in
    laid-small a.extra a.gates.now a.many q _ _ w _ _ (c.lay-done.ensures w.tree w.whole w.shallow) c.requires

pub returns : goal.returns
returns c =
    let a = c.args in
    let q = plan_tree a.extra a.gates.now a.many in
    let r = c.in_ok-compute_placement.ensures in
    let w = found a.many q c.compute_placement.new.nodes _ r.stands (λ z. omega (arith, z, r.some)) in
    record { shape = laid_shape a.extra a.gates.now a.many q _ _ w _ _ (c.lay-done.ensures w.tree w.whole w.shallow) _ c.factor_of-factor.ensures.0; some = laid-some a.extra a.gates.now a.many q _ _ w _ _ (c.lay-done.ensures w.tree w.whole w.shallow) }

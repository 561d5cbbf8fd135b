-- `refusals::top_constants` meets its contract. The loop goes down, so that the list of placed gates gains its head in each turn.
use Rattle.std.proofs.Common.{arith}
use Rattle.selector.specs.SortLaws.{placed_skip}
use Rattle.tree.proofs.RefusalsLaws.{top_begin, top_more}
use Rattle.tree.proofs.refusals.top_constants.Goals as goal

pub loop-g-init : goal.loop-g-init
loop-g-init c = (omega arith, top_begin c.args.extra c.args.gates.now c.args.many)

pub loop-g-preserved-then-gates-g-ne2 : goal.loop-g-preserved-then-gates-g-ne2
loop-g-preserved-then-gates-g-ne2 c =
    let l = c.loop-g in
    let a = c.args in (
      omega arith,
      rw (c.max-constants.ensures, c.constants_of.ensures)
          (top_more a.extra a.gates.now a.many l.g l.constants l.invariant.0 c.loop-g-test.true c.if-gates-g-ne2.true l.invariant.1),
    )

pub loop-g-preserved : goal.loop-g-preserved
loop-g-preserved c =
    let l = c.loop-g in
    let a = c.args in
    (omega arith, rw (placed_skip a.gates.now a.many l.g l.invariant.0 c.loop-g-test.true c.if-gates-g-ne2.false) l.invariant.1)

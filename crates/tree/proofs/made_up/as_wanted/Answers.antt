-- `made_up::as_wanted` meets its contract: the gates that are left, from the present one on, stand as wanted if all do.
use Rattle.std.proofs.Common.{◌-◌, ◌+◌, ◌≡◌, arith}
use Rattle.selector.specs.MadeUp.{wanted}
use Rattle.tree.proofs.MadeUpLaws.{wanted_left}
use Rattle.tree.proofs.made_up.as_wanted.Goals as goal

pub loop-g-preserved : goal.loop-g-preserved
loop-g-preserved c =
    let a = c.args in
    let is : c.from.result ≡ wanted a.gates.now a.many c.loop-g.g = grind (arith, c.from.ensures, c.is_wanted.ensures) in
    let e : a.many - c.loop-g.g - 1 ≡ a.many - (c.loop-g.g + 1) = omega arith in
    grind (arith, wanted_left, is, e, c.loop-g.invariant, c.if-marks-g.false)

-- `labels::powers` meets its contract. The invariant: r words are filled, and x is the power of w that comes next.
use Rattle.std.proofs.Common.{◌≡◌, ◌∙◌, arith}
use Rattle.base.specs.Fills.{filled_none, filled_next}
use Rattle.labels.specs.Stretches.{root_power}
use Rattle.labels.proofs.Filling.{power_begin, power_next}
use Rattle.labels.proofs.powers.Goals as goal

pub loop-r-init : goal.loop-r-init
loop-r-init c =
    let a = c.args in
    (omega arith, power_begin a.n, filled_none (root_power a.n) 0 a.copies.now)

pub bounds-copies-r : goal.bounds-copies-r
bounds-copies-r c = omega (arith, c.loop-r.invariant.2.same_length, c.requires)

pub loop-r-preserved : goal.loop-r-preserved
loop-r-preserved c =
    let n = c.args.n in
    let l = c.loop-r in (
      omega arith,
      c.mul-x.ensures ∙ rw (l.invariant.1, c.domain_generator_for_size-w.ensures) (power_next n l.r),
      filled_next (root_power n) 0 l.r l.x c.args.copies.now l.copies l.invariant.2 (omega arith) (omega (arith, c.requires)) l.invariant.1,
    )

pub shape_of-copies : goal.shape_of-copies
shape_of-copies c = c.loop-r.invariant.2.same_length

pub returns : goal.returns
returns c =
    let l = c.loop-r in
    let e : l.r ≡ c.args.rows = omega arith in
    rw e at l.invariant.2

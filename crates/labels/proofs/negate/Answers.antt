-- `labels::negate` meets its contract. The invariant: r words of the second half are filled; the words read stand before them, and are the old ones.
use Rattle.std.proofs.Common.{◌≡◌, ap, ◌∙◌, ℕ, ◌+◌, ◌-◌, add-zero, arith, get_or}
use Rattle.base.specs.Fills.{filled_none, filled_next}
use Rattle.field.specs.Field.{fsub}
use Rattle.labels.specs.Stretches.{negated_from}
use Rattle.labels.proofs.negate.Goals as goal

pub loop-r-init : goal.loop-r-init
loop-r-init c =
    let a = c.args in
    (omega arith, rw add-zero (filled_none (negated_from a.half a.copies.now) (a.at + a.half) a.copies.now))

pub overflow_add-at : goal.overflow_add-at
overflow_add-at c = omega (arith, c.loop-r.invariant.1.same_length, c.requires)

pub offset_bounds-copies-at : goal.offset_bounds-copies-at
offset_bounds-copies-at c = omega (arith, c.loop-r.invariant.1.same_length, c.requires)

pub bounds-copies-at : goal.bounds-copies-at
bounds-copies-at c = omega (arith, c.loop-r.invariant.1.same_length, c.requires)

pub overflow_add-copies : goal.overflow_add-copies
overflow_add-copies c = omega (arith, c.loop-r.invariant.1.same_length, c.requires)

pub overflow_add-copies-in-loop-r : goal.overflow_add-copies-in-loop-r
overflow_add-copies-in-loop-r c = omega (arith, c.loop-r.invariant.1.same_length, c.requires)

pub offset_bounds-copies-at-in-loop-r : goal.offset_bounds-copies-at-in-loop-r
offset_bounds-copies-at-in-loop-r c = omega (arith, c.loop-r.invariant.1.same_length, c.requires)

pub bounds-copies-at-in-loop-r : goal.bounds-copies-at-in-loop-r
bounds-copies-at-in-loop-r c = omega (arith, c.loop-r.invariant.1.same_length, c.requires)

pub loop-r-preserved : goal.loop-r-preserved
loop-r-preserved c =
    let l = c.loop-r in
    let a = c.args in
    let near : a.at + l.r ≡ a.at + a.half + l.r - a.half = omega arith in
    let next : a.at + a.half + l.r + 1 ≡ a.at + a.half + (l.r + 1) = omega arith in
    let e : c.sub.result ≡ negated_from a.half a.copies.now (a.at + a.half + l.r) =
    c.sub.ensures ∙ ap (fsub 0) (l.invariant.1.before (a.at + l.r) (omega (arith, c.requires)) ∙ ap (λ (i : ℕ). get_or a.copies.now i 0) near) in (
      omega arith,
      rw next at (filled_next (negated_from a.half a.copies.now) (a.at + a.half) (a.at + a.half + l.r) c.sub.result a.copies.now l.copies l.invariant.1 (omega arith) (omega (arith, c.requires)) e),
    )

pub shape_of-copies : goal.shape_of-copies
shape_of-copies c = c.loop-r.invariant.1.same_length

pub returns : goal.returns
returns c =
    let l = c.loop-r in
    let a = c.args in
    let e : l.r ≡ a.rest = omega arith in
    rw e at l.invariant.1

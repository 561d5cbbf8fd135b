-- `labels::materialize_x_by_non_residue` meets its contract. The invariant: r words from `at` on are filled; the words read stand before `at`, and are the old ones.
use Rattle.std.proofs.Common.{◌≡◌, ap, ◌∙◌, ℕ, ◌+◌, ◌-◌, add-zero, arith, get_or}
use Rattle.base.specs.Fills.{filled_none, filled_next}
use Rattle.field.specs.Field.{fmul}
use Rattle.labels.specs.Stretches.{scaled_from}
use Rattle.labels.proofs.materialize_x_by_non_residue.Goals as goal

pub loop-r-init : goal.loop-r-init
loop-r-init c =
    let a = c.args in
    (omega arith, rw add-zero (filled_none (scaled_from a.k a.at a.copies.now) a.at a.copies.now))

pub offset_bounds-copies-r : goal.offset_bounds-copies-r
offset_bounds-copies-r c = omega (arith, c.loop-r.invariant.1.same_length, c.requires)

pub bounds-copies-r : goal.bounds-copies-r
bounds-copies-r c = omega (arith, c.loop-r.invariant.1.same_length, c.requires)

pub overflow_add-copies : goal.overflow_add-copies
overflow_add-copies c = omega (arith, c.loop-r.invariant.1.same_length, c.requires)

pub offset_bounds-copies-at : goal.offset_bounds-copies-at
offset_bounds-copies-at c = omega (arith, c.loop-r.invariant.1.same_length, c.requires)

pub bounds-copies-at : goal.bounds-copies-at
bounds-copies-at c = omega (arith, c.loop-r.invariant.1.same_length, c.requires)

pub loop-r-preserved : goal.loop-r-preserved
loop-r-preserved c =
    let l = c.loop-r in
    let a = c.args in
    let near : l.r ≡ a.at + l.r - a.at = omega arith in
    let next : a.at + l.r + 1 ≡ a.at + (l.r + 1) = omega arith in
    let e : c.mul.result ≡ scaled_from a.k a.at a.copies.now (a.at + l.r) =
    c.mul.ensures ∙ ap (fmul a.k) (l.invariant.1.before l.r (omega (arith, c.requires)) ∙ ap (λ (i : ℕ). get_or a.copies.now i 0) near) in (
      omega arith,
      rw next at (filled_next (scaled_from a.k a.at a.copies.now) a.at (a.at + l.r) c.mul.result a.copies.now l.copies l.invariant.1 (omega arith) (omega (arith, c.requires)) e),
    )

pub shape_of-copies : goal.shape_of-copies
shape_of-copies c = c.loop-r.invariant.1.same_length

pub returns : goal.returns
returns c =
    let l = c.loop-r in
    let a = c.args in
    let e : l.r ≡ a.n = omega arith in
    rw e at l.invariant.1

-- `labels::materialize_x_by_non_residue_polys` meets its contract. The invariant: the columns before `column` are filled, and column 0 stands.
use Rattle.std.proofs.Common.{◌≡◌, one-mul, arith}
use Rattle.base.specs.Fills.{filled_none}
use Rattle.labels.specs.Labels.{label_of}
use Rattle.labels.proofs.Filling.{column_place, column-next}
use Rattle.labels.proofs.materialize_x_by_non_residue_polys.Goals as goal

pub loop-column-init : goal.loop-column-init
loop-column-init c =
    let a = c.args in
    (omega arith, c.requires.0.some, rw one-mul (filled_none (label_of a.n a.values.now) a.n a.copies.now))

pub overflow_mul-at : goal.overflow_mul-at
overflow_mul-at c =
    let l = c.loop-column in
    omega (arith, column_place c.args.n c.args.c l.column l.copies l.invariant.0 c.loop-column-test.true (omega (arith, c.requires.0.room, l.invariant.2.same_length)))

pub offset_bounds-values-column : goal.offset_bounds-values-column
offset_bounds-values-column c = omega (arith, c.requires.0.columns)

pub bounds-values-column : goal.bounds-values-column
bounds-values-column c = omega (arith, c.requires.0.columns)

pub materialize_x_by_non_residue-requires : goal.materialize_x_by_non_residue-requires
materialize_x_by_non_residue-requires c =
    let l = c.loop-column in
    let place = column_place c.args.n c.args.c l.column l.copies l.invariant.0 c.loop-column-test.true (omega (arith, c.requires.0.room, l.invariant.2.same_length)) in
    (omega (arith, place), omega (arith, place))

pub negate-requires : goal.negate-requires
negate-requires c =
    let l = c.loop-column in
    let place = column_place c.args.n c.args.c l.column l.copies l.invariant.0 c.loop-column-test.true (omega (arith, c.requires.0.room, l.invariant.2.same_length)) in
    (omega arith, omega (arith, place, c.materialize_x_by_non_residue.ensures.same_length))

pub loop-column-preserved : goal.loop-column-preserved
loop-column-preserved c =
    let l = c.loop-column in (
      omega arith,
      omega (arith, c.loop-column-test.true),
      column-next c.args.n c.args.c l.column c.args.values.now c.args.copies.now l.copies _ _ c.requires.0 c.requires.1 l.invariant.0 l.invariant.2 c.materialize_x_by_non_residue.ensures c.negate.ensures,
    )

pub shape_of-copies : goal.shape_of-copies
shape_of-copies c = c.loop-column.invariant.2.same_length

pub returns : goal.returns
returns c =
    let l = c.loop-column in
    let e : l.column ≡ c.args.c = omega (arith, l.invariant.1, c.loop-column-test.false) in
    rw e at l.invariant.2

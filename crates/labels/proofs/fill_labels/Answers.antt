-- `labels::fill_labels` meets its contract. After the tests its number is that of the representatives; column 0 and the columns after it, one stretch after the
-- other, are the labels of all cells.
use Rattle.std.proofs.lemmas.Bool.{lt-leb}
use Rattle.std.proofs.Common.{◌≡◌, sym, ◌∙◌, ◌≢◌, true, false, ◌*◌, mul-le-mul_right, arith, length}
use Rattle.base.specs.Fills.{filled_list}
use Rattle.refusal.proofs.Passing.{passed_up, refusal_nonzero}
use Rattle.labels.specs.Ranges.{ranges_fit}
use Rattle.labels.specs.RangesLaws.{Ranges, ranges-fit, cells_fit}
use Rattle.labels.specs.Labels.{representatives_number, representatives_of, label_of, fill_number, labels_written}
use Rattle.labels.proofs.Filling.{all_columns, half_turn}
use Rattle.labels.proofs.LabelLaws.{column-zero, fill-number, written_is, written_refused}
use Rattle.labels.proofs.fill_labels.Goals as goal

pub overflow_mul-c : goal.overflow_mul-c
overflow_mul-c c =
    let fits : ranges_fit c.args.n c.args.c ≡ true = sym c.ranges_fit.ensures ∙ c.if-not-ranges_fit.false in
    let ranges : Ranges c.args.n c.args.c = ranges-fit c.args.n c.args.c (fits) in
    omega (arith, cells_fit c.args.n c.args.c (ranges))

pub returns-then-not-ranges_fit : goal.returns-then-not-ranges_fit
unfolding fill_number labels_written
returns-then-not-ranges_fit c =
    let t : ranges_fit c.args.n c.args.c ≡ false = sym c.ranges_fit.ensures ∙ c.if-not-ranges_fit.true in
    record { value = sym (simp t); copies_after = sym (simp t) }

pub returns-then-copies-c : goal.returns-then-copies-c
unfolding fill_number labels_written
returns-then-copies-c c =
    let t : ranges_fit c.args.n c.args.c ≡ true = sym c.ranges_fit.ensures ∙ c.if-not-ranges_fit.false in
    let a = c.args in
    let short = lt-leb (a.c * a.n) (length a.copies.now) c.if-copies-c.true in
    record { value = sym (simp (t, short)); copies_after = sym (simp (t, short)) }

pub returns-in_err-found : goal.returns-in_err-found
returns-in_err-found c =
    let fits : ranges_fit c.args.n c.args.c ≡ true = sym c.ranges_fit.ensures ∙ c.if-not-ranges_fit.false in
    let a = c.args in
    let same = fill-number a.n a.c a.copies.now (fits) c.if-copies-c.false in
    let e = passed_up c.from_residual.result c.in_err-found.field-0.0 c.from_residual.ensures.1 ∙ c.in_err-found.ensures.number_value ∙ sym same in
    let d : fill_number a.n a.c a.copies.now ≢ 0 = λ z. refusal_nonzero c.in_err-found.field-0.0 (c.in_err-found.ensures.number_value ∙ sym same ∙ z) in
    record { value = e; copies_after = sym (written_refused a.n a.c a.copies.now d) }

pub materialize_x_poly-requires : goal.materialize_x_poly-requires
materialize_x_poly-requires c =
    let fits : ranges_fit c.args.n c.args.c ≡ true = sym c.ranges_fit.ensures ∙ c.if-not-ranges_fit.false in
    let ranges : Ranges c.args.n c.args.c = ranges-fit c.args.n c.args.c (fits) in
    let a = c.args in
    (omega (arith, c.if-copies-c.false, mul-le-mul_right a.n (ranges).some-column), half_turn a.n a.c (ranges))

pub materialize_x_by_non_residue_polys-requires : goal.materialize_x_by_non_residue_polys-requires
materialize_x_by_non_residue_polys-requires c =
    let fits : ranges_fit c.args.n c.args.c ≡ true = sym c.ranges_fit.ensures ∙ c.if-not-ranges_fit.false in
    let r : Ranges c.args.n c.args.c = ranges-fit c.args.n c.args.c (fits) in
    let a = c.args in
    let first = c.materialize_x_poly.ensures in (
      record {
        some = r.some-column;
        columns = r.columns;
        room = omega (arith, c.if-copies-c.false, first.same_length);
        powers = λ i h. first.inside i (omega arith) h;
      },
      half_turn a.n a.c r,
    )

pub returns : goal.returns
returns c =
    let fits : ranges_fit c.args.n c.args.c ≡ true = sym c.ranges_fit.ensures ∙ c.if-not-ranges_fit.false in
    let r : Ranges c.args.n c.args.c = ranges-fit c.args.n c.args.c (fits) in
    let a = c.args in
    let n = a.n in
    let old = a.copies.now in
    let reps = representatives_of n a.c in
    let g = c.in_ok-found.ensures in
    let same = fill-number n a.c old (fits) c.if-copies-c.false in
    let z : representatives_number n a.c ≡ 0 = sym g.number_value in
    let first = c.materialize_x_poly.ensures in
    let rest = rw g.values_value at c.materialize_x_by_non_residue_polys.ensures in
    let whole = all_columns n a.c reps old _ _ r.some-column (column-zero n a.c z) first rest in
    record { value = sym (same ∙ z); copies_after = filled_list (label_of n reps) (a.c * n) old _ c.if-copies-c.false whole ∙ sym (written_is n a.c old (same ∙ z)) }

-- `labels::label` meets its contract: after the tests of the ranges and of the cell its number is that of the representatives, and its value is the definition's product.
use Rattle.std.proofs.Common.{le-ltb, ◌≡◌, ◌≢◌, sym, ap, ◌∙◌, true, false, List, ℕ, ◌*◌, ◌/◌, ◌%◌, ◌<◌, div-lt_iff_lt-mul, arith, get_or}
use Rattle.field.specs.Field.{fmul, fpow}
use Rattle.refusal.proofs.Passing.{passed_up, nothing_answered, refusal_nonzero}
use Rattle.labels.specs.Ranges.{ranges_fit}
use Rattle.labels.specs.RangesLaws.{Ranges, ranges-fit, some_row, cells_fit}
use Rattle.labels.specs.Labels.{representatives_of, label_of, label_number, label_answer}
use Rattle.labels.proofs.LabelLaws.{label-number, label_accepted, label_refused}
use Rattle.labels.proofs.label.Goals as goal
use Rattle.labels.proofs.label.Goals.{then-not-ranges_fit-via-then-not-ranges_fit, then-not-ranges_fit-via-else-not-ranges_fit+then-c-n}

pub overflow_mul-c : goal.overflow_mul-c
overflow_mul-c c =
    let fits : ranges_fit c.args.n c.args.c ≡ true = sym c.ranges_fit.ensures ∙ c.if-not-ranges_fit.false in
    let ranges : Ranges c.args.n c.args.c = ranges-fit c.args.n c.args.c (fits) in
    omega (arith, cells_fit c.args.n c.args.c (ranges))

pub returns-then-not-ranges_fit : goal.returns-then-not-ranges_fit
unfolding label_number label_answer
returns-then-not-ranges_fit c =
    elim c.then-not-ranges_fit.branch [
      | then-not-ranges_fit-via-then-not-ranges_fit w ↦
          let t : ranges_fit c.args.n c.args.c ≡ false = sym c.ranges_fit.ensures ∙ w.if-not-ranges_fit.true in
          record { number_value = sym (simp t); value_value = sym (simp t) }
      | then-not-ranges_fit-via-else-not-ranges_fit+then-c-n w ↦
          let t : ranges_fit c.args.n c.args.c ≡ true = sym c.ranges_fit.ensures ∙ w.if-not-ranges_fit.false in
          let out = le-ltb c.args.cell (c.args.c * c.args.n) w.if-c-n.true in
          record { number_value = sym (simp (t, out)); value_value = sym (simp (t, out)) }
    ]

pub returns-in_err-values : goal.returns-in_err-values
returns-in_err-values c =
    let a = c.args in
    let fits : ranges_fit a.n a.c ≡ true = sym c.ranges_fit.ensures ∙ c.if-not-ranges_fit.false in
    let r = c.from_residual in
    let same = c.in_err-values.ensures.number_value ∙ sym (label-number a.n a.c a.cell fits c.if-c-n.false) in
    let d : label_number a.n a.c a.cell ≢ 0 = λ z. refusal_nonzero c.in_err-values.field-0.0 (same ∙ z) in
    record {
      number_value = passed_up r.result c.in_err-values.field-0.0 r.ensures.1 ∙ same;
      value_value = nothing_answered 0 r.result c.in_err-values.field-0.0 r.ensures.1 ∙ sym (label_refused a.n a.c a.cell d);
    }

pub offset_bounds-values-column : goal.offset_bounds-values-column
offset_bounds-values-column c =
    let fits : ranges_fit c.args.n c.args.c ≡ true = sym c.ranges_fit.ensures ∙ c.if-not-ranges_fit.false in
    let ranges : Ranges c.args.n c.args.c = ranges-fit c.args.n c.args.c (fits) in
    let row : 0 < c.args.n = some_row c.args.n c.args.c (ranges) in
    let a = c.args in
    let column : a.cell / a.n < a.c = (div-lt_iff_lt-mul (row)).1 c.if-c-n.false in
    omega (arith, column, (ranges).columns)

pub bounds-values-column : goal.bounds-values-column
bounds-values-column c =
    let fits : ranges_fit c.args.n c.args.c ≡ true = sym c.ranges_fit.ensures ∙ c.if-not-ranges_fit.false in
    let ranges : Ranges c.args.n c.args.c = ranges-fit c.args.n c.args.c (fits) in
    let row : 0 < c.args.n = some_row c.args.n c.args.c (ranges) in
    let a = c.args in
    let column : a.cell / a.n < a.c = (div-lt_iff_lt-mul (row)).1 c.if-c-n.false in
    omega (arith, column, (ranges).columns)

pub returns : goal.returns
unfolding label_of
returns c =
    let fits : ranges_fit c.args.n c.args.c ≡ true = sym c.ranges_fit.ensures ∙ c.if-not-ranges_fit.false in
    let a = c.args in
    let g = c.in_ok-values.ensures in
    let same = label-number a.n a.c a.cell (fits) c.if-c-n.false in
    let z : label_number a.n a.c a.cell ≡ 0 = same ∙ sym g.number_value in
    let w = c.pow-power.ensures ∙ ap (λ (x : ℕ). fpow x (a.cell % a.n)) c.domain_generator_for_size.ensures in
    record {
      number_value = sym z;
      value_value = c.mul.ensures
          ∙ ap (λ (l : List ℕ). fmul (get_or l (a.cell / a.n) 0) c.pow-power.result) g.values_value
          ∙ ap (fmul (get_or (representatives_of a.n a.c) (a.cell / a.n) 0)) w
          ∙ sym (label_accepted a.n a.c a.cell z);
    }

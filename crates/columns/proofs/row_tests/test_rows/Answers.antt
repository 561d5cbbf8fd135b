-- `columns::row_tests::test_rows` meets its contract: as long as no fault was found, the records that are left decide what the whole piece decides (RowLoop).
use Rattle.std.proofs.Common.{List, ◌≡◌, refl, sym, ap, ◌∙◌, arith, ℕ, ◌+◌, ◌-◌, ◌<◌, ◌≤◌, length, get_or, take, drop, ◌≢◌}
use Rattle.std.proofs.lemmas.Result.{IfOk-from_err}
use Rattle.refusal.specs.Refusal.{refusal_number}
use Rattle.pieces.specs.Records.{cut, row_size}
use Rattle.pieces.specs.Front.{front}
use Rattle.pieces.specs.Rows.{Gates, row_fault}
use Rattle.pieces.specs.RecordLaws.{uncut}
use Rattle.pieces.proofs.FaultLaws.{RowFine, row_cut, row_fine}
use Rattle.columns.specs.Placed.{gates_by}
use Rattle.refusal.proofs.Passing.{passed_up, refusal_nonzero}
use Rattle.columns.proofs.Parts.{rest_is}
use Rattle.columns.proofs.RowLoop.{passed-next, passed-found, passed_fine, passed_count, passed_marks}
use Rattle.columns.proofs.row_tests.test_rows.Goals as goal

-- a record without a fault is whole
record Good (gs : Gates) (trace row i : ℕ) (piece : List ℕ) : Type 0 where
  pub two : i + 1 < length piece
  pub fits : get_or piece (i + 1) 0 ≤ length piece - (i + 2)
  pub fine : RowFine gs trace row (get_or piece i 0) (get_or piece (i + 1) 0) (take (get_or piece (i + 1) 0) (drop (i + 2) piece))

-- the part that is handed over is the words from i on
from_here : (gs : Gates) (trace row i fault : ℕ) (piece : List ℕ) → fault ≡ row_fault gs trace row (front row_size (take (length piece - i) (drop i piece)))
    → fault ≡ row_fault gs trace row (front row_size (drop i piece))
from_here gs trace row i fault piece e = e ∙ ap (λ (rest : List ℕ). row_fault gs trace row (front row_size rest)) (rest_is piece i)

good_row : (gs : Gates) (trace row i fault : ℕ) (piece : List ℕ) → fault ≡ row_fault gs trace row (front row_size (take (length piece - i) (drop i piece))) → fault ≡ 0
    → Good gs trace row i piece
good_row gs trace row i fault piece is none =
    let e : row_fault gs trace row (front row_size (drop i piece)) ≡ 0 = sym (from_here gs trace row i fault piece is) ∙ none in
    let bad : row_fault gs trace row cut ≢ 0 = λ z. omega (arith, z, row_cut gs trace row) in
    let u = uncut row_size piece i (λ q. bad (ap (row_fault gs trace row) (sym q) ∙ e)) in
    record { two = u.two; fits = u.fits; fine = row_fine gs trace row (get_or piece i 0) (get_or piece (i + 1) 0) _ (ap (row_fault gs trace row) (sym u.is) ∙ e) }

pub returns-in_err-row_fault : goal.returns-in_err-row_fault
returns-in_err-row_fault c =
    let a = c.args in
    let l = c.loop-i in
    let up = passed_up c.from_residual.result _ c.from_residual.ensures.1 in
    let e = from_here (gates_by a.many a.own.now a.barred.now) a.trace l.row l.i (refusal_number c.in_err-row_fault.field-0.0) a.piece.now c.in_err-row_fault.ensures in
    let some = refusal_nonzero c.in_err-row_fault.field-0.0 in record {
      number_value = up ∙ (e ∙ sym (passed-found (gates_by a.many a.own.now a.barred.now) a.trace a.piece.now a.used.now a.count l.used l.row l.i l.invariant (omega arith) (λ z. some (e ∙ z))));
      rows_value = IfOk-from_err c.from_residual.result _ c.from_residual.ensures.0;
    }

pub offset_bounds-used-g : goal.offset_bounds-used-g
offset_bounds-used-g c =
    let good = good_row (gates_by c.args.many c.args.own.now c.args.barred.now) c.args.trace c.loop-i.row c.loop-i.i 0 c.args.piece.now c.in_ok-row_fault.ensures refl in
    omega (arith, good.fine, c.requires.0)

pub bounds-used-g : goal.bounds-used-g
bounds-used-g c =
    let good = good_row (gates_by c.args.many c.args.own.now c.args.barred.now) c.args.trace c.loop-i.row c.loop-i.i 0 c.args.piece.now c.in_ok-row_fault.ensures refl in
    omega (arith, good.fine, c.requires.0)

pub overflow_add-i-in-loop-i : goal.overflow_add-i-in-loop-i
overflow_add-i-in-loop-i c =
    let good = good_row (gates_by c.args.many c.args.own.now c.args.barred.now) c.args.trace c.loop-i.row c.loop-i.i 0 c.args.piece.now c.in_ok-row_fault.ensures refl in
    omega (arith, good)

pub bounds-piece-i-in-loop-i : goal.bounds-piece-i-in-loop-i
bounds-piece-i-in-loop-i c =
    let good = good_row (gates_by c.args.many c.args.own.now c.args.barred.now) c.args.trace c.loop-i.row c.loop-i.i 0 c.args.piece.now c.in_ok-row_fault.ensures refl in
    omega (arith, good)

pub overflow_add-i-in-loop-i-2 : goal.overflow_add-i-in-loop-i-2
overflow_add-i-in-loop-i-2 c =
    let good = good_row (gates_by c.args.many c.args.own.now c.args.barred.now) c.args.trace c.loop-i.row c.loop-i.i 0 c.args.piece.now c.in_ok-row_fault.ensures refl in
    omega (arith, good)

pub loop-i-preserved : goal.loop-i-preserved
loop-i-preserved c =
    let good = good_row (gates_by c.args.many c.args.own.now c.args.barred.now) c.args.trace c.loop-i.row c.loop-i.i 0 c.args.piece.now c.in_ok-row_fault.ensures refl in
    let a = c.args in
    let l = c.loop-i in
    let n = get_or a.piece.now (l.i + 1) 0 in
    let z : l.i + (2 + n) ≡ l.i + 2 + n = omega arith in
    rw z (passed-next (gates_by a.many a.own.now a.barred.now) a.trace a.piece.now a.used.now a.count l.used l.row l.i l.invariant good.two good.fits good.fine)

pub returns : goal.returns
returns c =
    let a = c.args in
    let l = c.loop-i in
    let gs : Gates = gates_by a.many a.own.now a.barred.now in
    let done : length a.piece.now ≤ l.i = c.loop-i-test.false in record {
      number_value = sym (passed_fine gs a.trace a.piece.now a.used.now a.count l.used l.row l.i l.invariant done);
      rows_value = (
        passed_count gs a.trace a.piece.now a.used.now a.count l.used l.row l.i l.invariant done,
        passed_marks gs a.trace a.piece.now a.used.now a.count l.used l.row l.i l.invariant done,
      );
    }

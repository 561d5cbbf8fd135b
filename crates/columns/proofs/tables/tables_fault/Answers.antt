-- `columns::tables::tables_fault` meets its contract. The records that are left have the fault of the whole piece, as long as none was found.
use Rattle.std.proofs.Common.{◌≡◌, sym, ap, ◌∙◌, subst, arith, ℕ, ◌+◌, ◌-◌, ◌*◌, ◌<◌, ◌≤◌, length, get_or, take, drop, List, ◌≢◌, Bool, add-one}
use Rattle.pieces.specs.Records.{cut, table_size, tables_of}
use Rattle.pieces.specs.Front.{front}
use Rattle.pieces.specs.Tables.{Stack, stack_next, table_fault}
use Rattle.pieces.specs.RecordLaws.{Uncut, uncut, Looking, looking_begin, looking_done, looking-found, looking-next}
use Rattle.pieces.proofs.FaultLaws.{table-cut, table_fine}
use Rattle.columns.specs.Stacked.{stack}
use Rattle.refusal.proofs.Passing.{passed_up, refusal_nonzero}
use Rattle.columns.proofs.Parts.{rest_is}
use Rattle.columns.proofs.tables.tables_fault.Goals as goal

-- a record without a fault is whole, of the width, and fits
record Good (lookup : Bool) (width trace t h i : ℕ) (ws : List ℕ) : Type 0 where
  pub clean : table_fault lookup width trace (stack t h) (front table_size (drop i ws)) ≡ 0
  pub whole-record : Uncut table_size ws i
  pub wide : get_or ws i 0 ≡ width
  pub few : t < 255
  pub room : h + get_or ws (i + 1) 0 ≤ trace
  pub end : i + 2 + width * get_or ws (i + 1) 0 ≤ length ws

good_table : (lookup : Bool) (width trace t h i : ℕ) (ws : List ℕ) → 0 ≡ table_fault lookup width trace (stack t h) (front table_size (take (length ws - i) (drop i ws)))
    → Good lookup width trace t h i ws
good_table lookup width trace t h i ws none =
    let s = stack t h in
    let e : table_fault lookup width trace s (front table_size (drop i ws)) ≡ 0 = sym (none ∙ ap (λ (rest : List ℕ). table_fault lookup width trace s (front table_size rest)) (rest_is ws i)) in
    let bad : table_fault lookup width trace s cut ≢ 0 = λ z. omega (arith, z, table-cut lookup width trace s) in
    let u = uncut table_size ws i (λ q. bad (ap (table_fault lookup width trace s) (sym q) ∙ e)) in
    let f = table_fine lookup width trace s (get_or ws i 0) (get_or ws (i + 1) 0) _ (ap (table_fault lookup width trace s) (sym u.is) ∙ e) in
    let w : get_or ws i 0 * get_or ws (i + 1) 0 ≡ width * get_or ws (i + 1) 0 = ap (λ (k : ℕ). k * get_or ws (i + 1) 0) f.wide in
    record { clean = e; whole-record = u; wide = f.wide; few = f.few; room = f.room; end = omega (arith, u.two, u.fits, w) }

pub loop-i-init : goal.loop-i-init
loop-i-init c = let a = c.args in (c.requires.1, c.requires.2, looking_begin table_size (table_fault a.lookup a.width a.trace) stack_next a.piece.now (stack a.below.count a.below.high))

pub returns-in_err-table_fault : goal.returns-in_err-table_fault
unfolding tables_of
returns-in_err-table_fault c =
    let a = c.args in
    let l = c.loop-i in
    let up = passed_up c.from_residual.result _ c.from_residual.ensures.1 in
    let e = c.in_err-table_fault.ensures ∙ ap (λ (ws : List ℕ). table_fault a.lookup a.width a.trace (stack l.stack.count l.stack.high) (front table_size ws)) (rest_is a.piece.now l.i) in
    let some = refusal_nonzero c.in_err-table_fault.field-0.0 in
    up ∙ (e ∙ sym (looking-found table_size (table_fault a.lookup a.width a.trace) stack_next a.piece.now (stack a.below.count a.below.high) (stack l.stack.count l.stack.high) l.i l.invariant.2 (omega arith) (λ z. some (e ∙ z))))

pub bounds-piece-i : goal.bounds-piece-i
bounds-piece-i c =
    let good = good_table c.args.lookup c.args.width c.args.trace c.loop-i.stack.count c.loop-i.stack.high c.loop-i.i c.args.piece.now c.in_ok-table_fault.ensures in
    omega (arith, good.whole-record.two)

pub overflow_add-stack-in-loop-i : goal.overflow_add-stack-in-loop-i
overflow_add-stack-in-loop-i c =
    let good = good_table c.args.lookup c.args.width c.args.trace c.loop-i.stack.count c.loop-i.stack.high c.loop-i.i c.args.piece.now c.in_ok-table_fault.ensures in
    omega (arith, good.room, c.requires.3)

pub overflow_add-i : goal.overflow_add-i
overflow_add-i c =
    let good = good_table c.args.lookup c.args.width c.args.trace c.loop-i.stack.count c.loop-i.stack.high c.loop-i.i c.args.piece.now c.in_ok-table_fault.ensures in
    omega (arith, good.whole-record.two)

pub overflow_mul-i : goal.overflow_mul-i
overflow_mul-i c =
    let good = good_table c.args.lookup c.args.width c.args.trace c.loop-i.stack.count c.loop-i.stack.high c.loop-i.i c.args.piece.now c.in_ok-table_fault.ensures in
    omega (arith, good.end)

pub overflow_add-i-in-loop-i : goal.overflow_add-i-in-loop-i
overflow_add-i-in-loop-i c =
    let good = good_table c.args.lookup c.args.width c.args.trace c.loop-i.stack.count c.loop-i.stack.high c.loop-i.i c.args.piece.now c.in_ok-table_fault.ensures in
    omega (arith, good.end)

pub loop-i-preserved : goal.loop-i-preserved
loop-i-preserved c =
    let good = good_table c.args.lookup c.args.width c.args.trace c.loop-i.stack.count c.loop-i.stack.high c.loop-i.i c.args.piece.now c.in_ok-table_fault.ensures in
    let a = c.args in
    let l = c.loop-i in
    let ws = a.piece.now in
    let g = good in
    let n = get_or ws (l.i + 1) 0 in
    let bad : table_fault a.lookup a.width a.trace (stack l.stack.count l.stack.high) cut ≢ 0 = λ z. omega (arith, z, table-cut a.lookup a.width a.trace (stack l.stack.count l.stack.high)) in
    let next = looking-next table_size (table_fault a.lookup a.width a.trace) stack_next a.piece.now (stack a.below.count a.below.high) (stack l.stack.count l.stack.high) l.i l.invariant.2 bad g.clean in
    let s : stack_next (stack l.stack.count l.stack.high) (front table_size (drop l.i ws)) ≡ stack (l.stack.count + 1) (l.stack.high + get_or ws (l.i + 1) 0) = ap (stack_next (stack l.stack.count l.stack.high)) g.whole-record.is ∙ rw (add-one l.stack.count) in
    let w : get_or ws l.i 0 * n ≡ a.width * n = ap (λ (k : ℕ). k * n) g.wide in
    let j : l.i + 2 + get_or ws l.i 0 * n ≡ l.i + (2 + a.width * n) = omega (arith, w) in (
      omega (arith, g.few),
      g.room,
      subst (λ (k : ℕ). Looking table_size (table_fault a.lookup a.width a.trace) stack_next ws (stack a.below.count a.below.high) (stack (l.stack.count + 1) (l.stack.high + get_or ws (l.i + 1) 0)) k) j
          (subst (λ (q : Stack). Looking table_size (table_fault a.lookup a.width a.trace) stack_next ws (stack a.below.count a.below.high) q (l.i + 2 + get_or ws l.i 0 * get_or ws (l.i + 1) 0)) s next),
    )

pub returns : goal.returns
unfolding tables_of
returns c =
    let a = c.args in
    let l = c.loop-i in
    sym (looking_done table_size (table_fault a.lookup a.width a.trace) stack_next a.piece.now (stack a.below.count a.below.high) (stack l.stack.count l.stack.high) l.i l.invariant.2 (omega arith))

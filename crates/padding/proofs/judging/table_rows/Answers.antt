-- `judging::table_rows` meets its contract: the tables that are left have the rest of the rows.
use Rattle.std.proofs.Common.{◌≡◌, sym, subst, arith, ℕ, ◌+◌, ◌*◌, ◌≤◌, List, length, get_or}
use Rattle.pieces.specs.Records.{table_size}
use Rattle.pieces.specs.RecordLaws.{Uncut}
use Rattle.padding.specs.Sums.{Summing, summing_begin, summing_here, summing_next, summing_passed, summing_done}
use Rattle.padding.proofs.judging.table_rows.Goals as goal

end : (ws : List ℕ) (i : ℕ) → Uncut table_size ws i → i + 2 + get_or ws i 0 * get_or ws (i + 1) 0 ≤ length ws
end ws i u = omega (arith, u.two, u.fits)

pub loop-i-init : goal.loop-i-init
loop-i-init c = (omega arith, summing_begin c.args.tables.now c.requires)

pub bounds-tables-i : goal.bounds-tables-i
bounds-tables-i c =
    let here : Uncut table_size c.args.tables.now c.loop-i.i = let l = c.loop-i in summing_here c.args.tables.now l.sum l.i l.invariant.1 (omega (arith, c.loop-i-test)) in
    omega (arith, (here).two)

pub returns-then-sum-n : goal.returns-then-sum-n
returns-then-sum-n c =
    let here : Uncut table_size c.args.tables.now c.loop-i.i = let l = c.loop-i in summing_here c.args.tables.now l.sum l.i l.invariant.1 (omega (arith, c.loop-i-test)) in
    let l = c.loop-i in
    let ws = c.args.tables.now in
    let p = summing_passed ws l.sum l.i l.invariant.1 (here) in
    let t = c.if-sum-n.true in
    record { same = λ h. absurd (omega (arith, h, p, t, l.invariant.0)); above = λ h. omega arith; small = omega arith }

pub overflow_mul-i : goal.overflow_mul-i
overflow_mul-i c =
    let here : Uncut table_size c.args.tables.now c.loop-i.i = let l = c.loop-i in summing_here c.args.tables.now l.sum l.i l.invariant.1 (omega (arith, c.loop-i-test)) in
    omega (arith, end c.args.tables.now c.loop-i.i (here))

pub overflow_add-i : goal.overflow_add-i
overflow_add-i c =
    let here : Uncut table_size c.args.tables.now c.loop-i.i = let l = c.loop-i in summing_here c.args.tables.now l.sum l.i l.invariant.1 (omega (arith, c.loop-i-test)) in
    omega (arith, end c.args.tables.now c.loop-i.i (here))

pub overflow_add-i-in-loop-i : goal.overflow_add-i-in-loop-i
overflow_add-i-in-loop-i c =
    let here : Uncut table_size c.args.tables.now c.loop-i.i = let l = c.loop-i in summing_here c.args.tables.now l.sum l.i l.invariant.1 (omega (arith, c.loop-i-test)) in
    omega (arith, end c.args.tables.now c.loop-i.i (here))

pub loop-i-preserved : goal.loop-i-preserved
loop-i-preserved c =
    let here : Uncut table_size c.args.tables.now c.loop-i.i = let l = c.loop-i in summing_here c.args.tables.now l.sum l.i l.invariant.1 (omega (arith, c.loop-i-test)) in
    let l = c.loop-i in
    let ws = c.args.tables.now in
    let j : l.i + 2 + get_or ws l.i 0 * get_or ws (l.i + 1) 0 ≡ l.i + (2 + get_or ws l.i 0 * get_or ws (l.i + 1) 0) = omega arith in
    (omega (arith, l.invariant.0, c.if-sum-n.false), subst (λ (k : ℕ). Summing ws (l.sum + get_or ws (l.i + 1) 0) k) j (summing_next ws l.sum l.i l.invariant.1 (here) (end ws l.i (here))))

pub returns : goal.returns
returns c =
    let l = c.loop-i in
    let ws = c.args.tables.now in
    let e = summing_done ws l.sum l.i l.invariant.1 (omega (arith, c.loop-i-test)) in
    record { same = λ h. sym e; above = λ h. omega (arith, h, e); small = omega (arith, l.invariant.0) }

-- `columns::row_tests::row_fault` meets its contract: one equation of the number for each way out.
use Rattle.std.proofs.Common.{eq-eqb, ne_eqb, ◌≡◌, sym, ap, ◌∙◌, arith, ℕ, ◌+◌, ◌-◌, ◌<◌, ◌≤◌, get_or, take, drop}
use Rattle.field.specs.Field.{p}
use Rattle.pieces.specs.Records.{whole, row_size, all_below}
use Rattle.pieces.specs.Front.{front}
use Rattle.pieces.specs.Rows.{row_fault}
use Rattle.pieces.specs.RecordLaws.{front_short, front_cut, front_whole}
use Rattle.pieces.proofs.FaultLaws.{row_cut, row_barred, row_large, row_past, row_good, front_unknown, front_long}
use Rattle.columns.specs.Placed.{gates_by}
use Rattle.columns.proofs.row_tests.row_fault.Goals.{then-own-g-via-then-own-g, then-own-g-via-else-own-g+then-words-n}
use Rattle.columns.proofs.row_tests.row_fault.Goals as goal

pub returns-then-words-lt2 : goal.returns-then-words-lt2
returns-then-words-lt2 c =
    let a = c.args in
    sym (ap (row_fault (gates_by a.many a.own.now a.barred.now) a.trace a.row) (front_short row_size a.words.now c.if-words-lt2.true) ∙ row_cut (gates_by a.many a.own.now a.barred.now) a.trace a.row)

pub returns-then-many-gate : goal.returns-then-many-gate
returns-then-many-gate c =
    let a = c.args in
    sym (front_unknown (gates_by a.many a.own.now a.barred.now) a.trace a.row a.words.now c.if-words-lt2.false c.if-many-gate.true)

pub returns-then-own-g : goal.returns-then-own-g
returns-then-own-g c =
    let a = c.args in
    elim c.then-own-g.branch [
      | then-own-g-via-then-own-g w ↦ sym (front_long (gates_by a.many a.own.now a.barred.now) a.trace a.row a.words.now c.if-words-lt2.false c.if-many-gate.false w.if-own-g.true)
      | then-own-g-via-else-own-g+then-words-n w ↦ sym (ap (row_fault (gates_by a.many a.own.now a.barred.now) a.trace a.row) (front_cut row_size a.words.now c.if-words-lt2.false w.if-words-n.true) ∙ row_cut (gates_by a.many a.own.now a.barred.now) a.trace a.row)
    ]

pub returns-then-barred-g-eq1 : goal.returns-then-barred-g-eq1
returns-then-barred-g-eq1 c =
    let read : front row_size c.args.words.now ≡ whole (get_or c.args.words.now 0 0) (get_or c.args.words.now 1 0) (take (get_or c.args.words.now 1 0) (drop 2 c.args.words.now)) = front_whole row_size c.args.words.now c.if-words-lt2.false c.if-words-n.false in
    let a = c.args in
    let g = get_or a.words.now 0 0 in
    let n = get_or a.words.now 1 0 in
    let cs = take n (drop 2 a.words.now) in
    let known : g < a.many = c.if-many-gate.false in
    let few : n ≤ get_or a.own.now g 0 = c.if-own-g.false in
    sym (ap (row_fault (gates_by a.many a.own.now a.barred.now) a.trace a.row) (read) ∙ row_barred (gates_by a.many a.own.now a.barred.now) a.trace a.row g n cs known few (eq-eqb (get_or a.barred.now g 0) 1 c.if-barred-g-eq1.true))

pub returns-then-trace-row : goal.returns-then-trace-row
returns-then-trace-row c =
    let read : front row_size c.args.words.now ≡ whole (get_or c.args.words.now 0 0) (get_or c.args.words.now 1 0) (take (get_or c.args.words.now 1 0) (drop 2 c.args.words.now)) = front_whole row_size c.args.words.now c.if-words-lt2.false c.if-words-n.false in
    let below : c.all_below.result ≡ all_below p (take (get_or c.args.words.now 1 0) (drop 2 c.args.words.now)) = let n = get_or c.args.words.now 1 0 in
    let q : 2 + n - 2 ≡ n = omega arith in
    c.all_below.ensures ∙ ap (λ (k : ℕ). all_below p (take k (drop 2 c.args.words.now))) q in
    let a = c.args in
    let g = get_or a.words.now 0 0 in
    let n = get_or a.words.now 1 0 in
    let cs = take n (drop 2 a.words.now) in
    let known : g < a.many = c.if-many-gate.false in
    let few : n ≤ get_or a.own.now g 0 = c.if-own-g.false in
    sym (ap (row_fault (gates_by a.many a.own.now a.barred.now) a.trace a.row) (read) ∙ row_past (gates_by a.many a.own.now a.barred.now) a.trace a.row g n cs known few (ne_eqb (get_or a.barred.now g 0) 1 c.if-barred-g-eq1.false) (sym (below) ∙ c.if-not-all_below.false) (omega (arith, c.if-trace-row.true)))

pub returns : goal.returns
returns c =
    let read : front row_size c.args.words.now ≡ whole (get_or c.args.words.now 0 0) (get_or c.args.words.now 1 0) (take (get_or c.args.words.now 1 0) (drop 2 c.args.words.now)) = front_whole row_size c.args.words.now c.if-words-lt2.false c.if-words-n.false in
    let below : c.all_below.result ≡ all_below p (take (get_or c.args.words.now 1 0) (drop 2 c.args.words.now)) = let n = get_or c.args.words.now 1 0 in
    let q : 2 + n - 2 ≡ n = omega arith in
    c.all_below.ensures ∙ ap (λ (k : ℕ). all_below p (take k (drop 2 c.args.words.now))) q in
    let a = c.args in
    let g = get_or a.words.now 0 0 in
    let n = get_or a.words.now 1 0 in
    let cs = take n (drop 2 a.words.now) in
    let known : g < a.many = c.if-many-gate.false in
    let few : n ≤ get_or a.own.now g 0 = c.if-own-g.false in
    sym (ap (row_fault (gates_by a.many a.own.now a.barred.now) a.trace a.row) (read) ∙ row_good (gates_by a.many a.own.now a.barred.now) a.trace a.row g n cs (record { known = known; few = few; free = ne_eqb (get_or a.barred.now g 0) 1 c.if-barred-g-eq1.false; small = sym (below) ∙ c.if-not-all_below.false; room = c.if-trace-row.false }))

pub returns-then-not-all_below : goal.returns-then-not-all_below
returns-then-not-all_below c =
    let read : front row_size c.args.words.now ≡ whole (get_or c.args.words.now 0 0) (get_or c.args.words.now 1 0) (take (get_or c.args.words.now 1 0) (drop 2 c.args.words.now)) = front_whole row_size c.args.words.now c.if-words-lt2.false c.if-words-n.false in
    let below : c.all_below.result ≡ all_below p (take (get_or c.args.words.now 1 0) (drop 2 c.args.words.now)) = let n = get_or c.args.words.now 1 0 in
    let q : 2 + n - 2 ≡ n = omega arith in
    c.all_below.ensures ∙ ap (λ (k : ℕ). all_below p (take k (drop 2 c.args.words.now))) q in
    let a = c.args in
    let g = get_or a.words.now 0 0 in
    let n = get_or a.words.now 1 0 in
    let cs = take n (drop 2 a.words.now) in
    let known : g < a.many = c.if-many-gate.false in
    let few : n ≤ get_or a.own.now g 0 = c.if-own-g.false in
    sym (ap (row_fault (gates_by a.many a.own.now a.barred.now) a.trace a.row) (read) ∙ row_large (gates_by a.many a.own.now a.barred.now) a.trace a.row g n cs known few (ne_eqb (get_or a.barred.now g 0) 1 c.if-barred-g-eq1.false) (sym (below) ∙ c.if-not-all_below.true))

-- `columns::tables::table_fault` meets its contract: one equation of the number for each way out. The product of width and rows is taken only when both are small.
use Rattle.std.proofs.Common.{◌≡◌, sym, ap, ◌∙◌, arith, ℕ, ◌+◌, ◌-◌, ◌*◌, ◌<◌, length, get_or, take, drop}
use Rattle.field.specs.Field.{p}
use Rattle.pieces.specs.Records.{whole, table_size, all_below}
use Rattle.pieces.specs.Front.{front}
use Rattle.pieces.specs.Tables.{table_fault}
use Rattle.pieces.specs.RecordLaws.{front_short, front_cut, front_whole}
use Rattle.pieces.proofs.FaultLaws.{table-cut, table_mode, table-front, table_width, table-count, table_past, table_large, table_good}
use Rattle.columns.specs.Stacked.{stack}
use Rattle.columns.proofs.tables.table_fault.Goals.{then-not-lookup-via-then-not-lookup, then-not-lookup-via-else-not-lookup+then-words-lt2, then-not-lookup-via-else-not-lookup+else-words-lt2+then-words-width, then-not-lookup-via-else-not-lookup+else-words-lt2+else-words-width+then-below-ge-MOST_TABLES}
use Rattle.columns.proofs.tables.table_fault.Goals as goal

pub returns-then-not-lookup : goal.returns-then-not-lookup
returns-then-not-lookup c =
    let a = c.args in
    elim c.then-not-lookup.branch [
      | then-not-lookup-via-then-not-lookup w ↦ sym (table_mode a.lookup a.width a.trace (stack a.below.count a.below.high) (front table_size a.words.now) w.if-not-lookup.true)
      | then-not-lookup-via-else-not-lookup+then-words-lt2 w ↦ sym (ap (table_fault a.lookup a.width a.trace (stack a.below.count a.below.high)) (front_short table_size a.words.now w.if-words-lt2.true) ∙ table-cut a.lookup a.width a.trace (stack a.below.count a.below.high))
      | then-not-lookup-via-else-not-lookup+else-words-lt2+then-words-width w ↦ sym (table-front a.lookup a.width a.trace (stack a.below.count a.below.high) a.words.now w.if-words-lt2.false (λ cs. table_width a.lookup a.width a.trace (stack a.below.count a.below.high) (get_or a.words.now 0 0) (get_or a.words.now 1 0) cs w.if-not-lookup.false w.if-words-width.true))
      | then-not-lookup-via-else-not-lookup+else-words-lt2+else-words-width+then-below-ge-MOST_TABLES w ↦ sym (table-front a.lookup a.width a.trace (stack a.below.count a.below.high) a.words.now w.if-words-lt2.false (λ cs. table-count a.lookup a.width a.trace (stack a.below.count a.below.high) (get_or a.words.now 0 0) (get_or a.words.now 1 0) cs w.if-not-lookup.false w.if-words-width.false (omega (arith, w.if-below-ge-MOST_TABLES.true))))
    ]

pub returns-then-trace-below : goal.returns-then-trace-below
returns-then-trace-below c =
    let a = c.args in
    sym (table-front a.lookup a.width a.trace (stack a.below.count a.below.high) a.words.now c.if-words-lt2.false (λ cs. table_past a.lookup a.width a.trace (stack a.below.count a.below.high) (get_or a.words.now 0 0) (get_or a.words.now 1 0) cs c.if-not-lookup.false c.if-words-width.false c.if-below-ge-MOST_TABLES.false (omega (arith, c.if-trace-below.true, c.requires.1))))

pub returns-then-words-size : goal.returns-then-words-size
returns-then-words-size c =
    let a = c.args in
    let w : get_or a.words.now 0 0 ≡ a.width = c.if-words-width.false in
    let k : length a.words.now - 2 < get_or a.words.now 0 0 * get_or a.words.now 1 0 = rw w c.if-words-size.true in
    sym (ap (table_fault a.lookup a.width a.trace (stack a.below.count a.below.high)) (front_cut table_size a.words.now c.if-words-lt2.false k) ∙ table-cut a.lookup a.width a.trace (stack a.below.count a.below.high))

pub returns : goal.returns
returns c =
    let read : front table_size c.args.words.now ≡ whole (get_or c.args.words.now 0 0) (get_or c.args.words.now 1 0) (take (get_or c.args.words.now 0 0 * get_or c.args.words.now 1 0) (drop 2 c.args.words.now)) = let w : get_or c.args.words.now 0 0 ≡ c.args.width = c.if-words-width.false in
    front_whole table_size c.args.words.now c.if-words-lt2.false (rw w c.if-words-size.false) in
    let below : c.all_below.result ≡ all_below p (take (get_or c.args.words.now 0 0 * get_or c.args.words.now 1 0) (drop 2 c.args.words.now)) = let w : get_or c.args.words.now 0 0 ≡ c.args.width = c.if-words-width.false in
    let n = c.args.width * get_or c.args.words.now 1 0 in
    let q : 2 + n - 2 ≡ n = omega arith in
    c.all_below.ensures ∙ ap (λ (k : ℕ). all_below p (take k (drop 2 c.args.words.now))) (q ∙ ap (λ (k : ℕ). k * get_or c.args.words.now 1 0) (sym w)) in
    let a = c.args in
    let g = get_or a.words.now 0 0 in
    let n = get_or a.words.now 1 0 in
    let cs = take (g * n) (drop 2 a.words.now) in
    sym (ap (table_fault a.lookup a.width a.trace (stack a.below.count a.below.high)) (read) ∙ table_good a.lookup a.width a.trace (stack a.below.count a.below.high) g n cs (record { looked = c.if-not-lookup.false; wide = c.if-words-width.false; few = c.if-below-ge-MOST_TABLES.false; room = omega (arith, c.if-trace-below.false, c.requires.1); small = sym (below) ∙ c.if-not-all_below.false }))

pub returns-then-not-all_below : goal.returns-then-not-all_below
returns-then-not-all_below c =
    let read : front table_size c.args.words.now ≡ whole (get_or c.args.words.now 0 0) (get_or c.args.words.now 1 0) (take (get_or c.args.words.now 0 0 * get_or c.args.words.now 1 0) (drop 2 c.args.words.now)) = let w : get_or c.args.words.now 0 0 ≡ c.args.width = c.if-words-width.false in
    front_whole table_size c.args.words.now c.if-words-lt2.false (rw w c.if-words-size.false) in
    let below : c.all_below.result ≡ all_below p (take (get_or c.args.words.now 0 0 * get_or c.args.words.now 1 0) (drop 2 c.args.words.now)) = let w : get_or c.args.words.now 0 0 ≡ c.args.width = c.if-words-width.false in
    let n = c.args.width * get_or c.args.words.now 1 0 in
    let q : 2 + n - 2 ≡ n = omega arith in
    c.all_below.ensures ∙ ap (λ (k : ℕ). all_below p (take k (drop 2 c.args.words.now))) (q ∙ ap (λ (k : ℕ). k * get_or c.args.words.now 1 0) (sym w)) in
    let a = c.args in
    let g = get_or a.words.now 0 0 in
    let n = get_or a.words.now 1 0 in
    let cs = take (g * n) (drop 2 a.words.now) in
    sym (ap (table_fault a.lookup a.width a.trace (stack a.below.count a.below.high)) (read) ∙ table_large a.lookup a.width a.trace (stack a.below.count a.below.high) g n cs c.if-not-lookup.false c.if-words-width.false c.if-below-ge-MOST_TABLES.false (omega (arith, c.if-trace-below.false, c.requires.1)) (sym (below) ∙ c.if-not-all_below.true))

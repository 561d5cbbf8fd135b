-- `columns::records::write_lines` meets its contract. Each turn writes one column of the lines, after the columns before it.
use Rattle.std.proofs.Common.{◌≡◌, refl, sym, ap, ◌∙◌, List, mul-le-mul_right, arith, ℕ, ◌+◌, ◌-◌, ◌*◌, ◌<◌, ◌≤◌, length, drop}
use Rattle.pieces.specs.Writing.{put}
use Rattle.columns.specs.Lines.{strided, cut_lines, column_of, lines_none, lines-column, cut-many, cut-column}
use Rattle.columns.proofs.records.write_lines.Invariants.{Columns}
use Rattle.columns.proofs.records.write_lines.Goals as goal

columns-next : (width step trace row many : ℕ) (words buffer₀ buffer : List ℕ) (at column : ℕ) → Columns width step trace row many words buffer₀ buffer at column → column < width → row + many ≤ trace
    → (buffer' : List ℕ) → length buffer' ≡ length buffer → buffer' ≡ put 1 buffer at (strided step many (drop column words)) → Columns width step trace row many words buffer₀ buffer' (at + trace) (column + 1)
columns-next width step trace row many words buffer₀ buffer at column v h room buffer' long' wrote =
    let ls = cut_lines width step many words in
    let few : length ls ≤ trace - row = omega (arith, cut-many width step many words) in
    let wrote' : buffer' ≡ put 1 buffer (row + column * trace) (column_of column ls) = wrote ∙ rw (v.place, cut-column width step many words column h) in
    record {
      within = omega arith;
      place = omega (arith, v.place);
      long = long' ∙ v.long;
      lines = wrote' ∙ ap (λ (b : List ℕ). put 1 b (row + column * trace) (column_of column ls)) v.lines ∙ sym (lines-column column trace row ls buffer₀ few);
    }

-- the column's rows are in the buffer
column-in : (width trace row many column at len len₀ : ℕ) → column < width → row + many ≤ trace → width * trace ≤ len₀ → at ≡ row + column * trace → len ≡ len₀ → at + many ≤ len
column-in width trace row many column at len len₀ h r w e l = omega (arith, mul-le-mul_right trace h)

-- the column's words are in the lines
words_in : (width step many column len : ℕ) → column < width → width ≤ step → step * many ≤ len → column + many * step < len + step
words_in width step many column len h w l = omega arith

small : (width step trace row many column at : ℕ) → column < width → width ≤ step → step ≤ 64 → trace ≤ 65536 → row + many ≤ trace → at ≡ row + column * trace → at ≤ 4259840
small width step trace row many column at h w s t r e = let k : column ≤ 64 = omega arith in omega (arith, mul-le-mul_right trace k)

pub loop-column-init : goal.loop-column-init
loop-column-init c =
    let a = c.args in
    record { within = omega arith; place = omega arith; long = refl; lines = sym (lines_none a.trace a.row (cut_lines a.width a.step a.many a.words.now) a.buffer.now) }

pub loop-column-preserved : goal.loop-column-preserved
loop-column-preserved c =
    let a = c.args in
    let l = c.loop-column in
    let w = c.write_column in
    columns-next a.width a.step a.trace a.row a.many a.words.now a.buffer.now l.buffer l.at l.column l.invariant c.loop-column-test.true c.requires.width_le_step.3 _ w.auto.buffer w.ensures

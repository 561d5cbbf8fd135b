-- `listing::sections::rows_section` meets its contract: past a record that fits, those that are left end where they ended before.
use Rattle.std.proofs.Common.{◌≡◌, ◌+◌, ◌-◌, arith}
use Rattle.pieces.specs.Records.{row_size}
use Rattle.listing.specs.EndLaws.{going_next}
use Rattle.listing.proofs.sections.rows_section.Goals as goal

pub loop-row-preserved : goal.loop-row-preserved
loop-row-preserved c =
    let a = c.args in
    let l = c.loop-row in
    let less : c.in_ok-count.field-0.now - (l._row + 1) ≡ c.in_ok-count.field-0.now - l._row - 1 = omega arith in
    rw less (going_next row_size a.words.now a.at (c.in_ok-count.field-0.now - l._row) l.i l.invariant (omega arith) (omega arith))

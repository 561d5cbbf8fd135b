-- `listing::sections::tables_section` meets its contract: past a record that fits, those that are left end where they ended before.
use Rattle.std.proofs.Common.{◌≡◌, ◌+◌, ◌-◌, arith}
use Rattle.pieces.specs.Records.{table_size}
use Rattle.listing.specs.EndLaws.{going_next}
use Rattle.listing.proofs.sections.tables_section.Goals as goal

pub loop-table-preserved : goal.loop-table-preserved
loop-table-preserved c =
    let a = c.args in
    let l = c.loop-table in
    let fitting = c.in_ok-n.ensures in
    let less : c.in_ok-count.field-0.now - (l._table + 1) ≡ c.in_ok-count.field-0.now - l._table - 1 = omega arith in
    rw (less, fitting.1) (going_next table_size a.words.now a.at (c.in_ok-count.field-0.now - l._table) l.i l.invariant (omega arith) (omega (arith, fitting)))

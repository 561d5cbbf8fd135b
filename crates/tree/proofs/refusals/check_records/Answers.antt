-- `refusals::check_records` meets its contract: the records that are left, from the present one on, are refused as all are.
use Rattle.std.proofs.Common.{arith}
use Rattle.selector.specs.Refusals.{record_number}
use Rattle.tree.proofs.RefusalsLaws.{records_bad}
use Rattle.tree.proofs.TestLaws.{tests}
use Rattle.tree.proofs.refusals.check_records.Goals as goal

pub returns-in_err-check_record : goal.returns-in_err-check_record
unfolding record_number
returns-in_err-check_record c =
    let l = c.loop-g in
    let a = c.args in
    let bad = records_bad a.gates.now a.many l.g c.loop-g-test.true in
    grind (arith, tests, l.invariant, bad, c.in_err-check_record.ensures)

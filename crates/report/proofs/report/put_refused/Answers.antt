-- `report::report::put_refused` meets its contract: the name, the number, the end of the line.
use Rattle.std.proofs.Common.{◌++◌}
use Rattle.octets.specs.Text.{sink, field}
use Rattle.octets.specs.TextLaws.{then}
use Rattle.report.specs.Report.{newline, refused_name}
use Rattle.report.proofs.report.put_refused.Goals as goal

pub returns : goal.returns
returns c =
    let a = c.args in
    then (sink a.out.now 0) _ _ (refused_name ++ field a.number) (newline)
    (then (sink a.out.now 0) _ _ (refused_name) (field a.number)
    c.put_bytes-a.ensures
    c.put_field-b.ensures)
    c.put_bytes.ensures

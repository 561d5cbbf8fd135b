-- `report::lines::put_column` meets its contract: the name, the fields, the end of the line.
use Rattle.std.proofs.Common.{◌++◌}
use Rattle.octets.specs.Text.{sink, field, fields}
use Rattle.octets.specs.TextLaws.{then}
use Rattle.report.specs.Report.{newline}
use Rattle.report.proofs.lines.put_column.Goals as goal

pub returns : goal.returns
returns c =
    let a = c.args in
    then (sink a.out.now a.at) _ _ (a.name.now ++ field a.index ++ fields a.words.now) (newline)
    (then (sink a.out.now a.at) _ _ (a.name.now ++ field a.index) (fields a.words.now)
    (then (sink a.out.now a.at) _ _ a.name.now (field a.index)
    c.put_bytes-a.ensures
    c.put_field-b.ensures)
    c.put_fields-c.ensures)
    c.put_bytes.ensures

-- `report::lines::put_plan` meets its contract: the name, the three fields, the end of the line.
use Rattle.std.proofs.Common.{[], ◌∷◌, ◌++◌}
use Rattle.octets.specs.Text.{sink, fields}
use Rattle.octets.specs.TextLaws.{then}
use Rattle.report.specs.Report.{newline, plan_name}
use Rattle.report.proofs.lines.put_plan.Goals as goal

pub returns : goal.returns
returns c =
    let a = c.args in
    let ns = a.plan.degree ∷ a.plan.constants ∷ a.plan.factor ∷ [] in
    then (sink a.out.now a.at) _ _ plan_name (fields ns ++ newline) c.put_bytes-a.ensures (then _ _ _ (fields ns) newline c.put_fields-b.ensures c.put_bytes.ensures)

-- `report::lines::put_paths` meets its contract. What is left to put are the lines of the gates that are left.
use Rattle.std.proofs.Common.{sym, ◌∙◌, arith}
use Rattle.octets.specs.Text.{sink}
use Rattle.tree.specs.Plan.{plan_selector}
use Rattle.report.specs.ReportLaws.{paths_turn, paths_done}
use Rattle.report.proofs.lines.put_paths.Goals as goal

pub loop-gate-preserved : goal.loop-gate-preserved
loop-gate-preserved c =
    let l = c.loop-gate in
    let w = c.put_path-place in
    let a = c.args in
    (w.auto.out ∙ l.invariant.0, l.invariant.1 ∙ paths_turn (sink l.out l.place) _ (plan_selector a.plan) l.gate a.plan.gate_count (omega arith) w.ensures)

pub returns : goal.returns
returns c = let l = c.loop-gate in sym (l.invariant.1 ∙ paths_done (sink l.out l.place) (plan_selector c.args.plan) l.gate c.args.plan.gate_count (omega arith))

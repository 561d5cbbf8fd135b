-- `report::lines::put_path` meets its contract: what the plan answers of the gate reads as the definition has it.
use Rattle.std.proofs.Common.{◌∙◌, ◌≡◌, ap, refl, ◌++◌}
use Rattle.octets.specs.Text.{field, sink}
use Rattle.octets.specs.TextLaws.{then}
use Rattle.tree.specs.Plan.{plan_selector}
use Rattle.tree.specs.Selection.{selector_of}
use Rattle.tree.specs.SoundLaws.{path_answers}
use Rattle.tree.specs.Answers.{selection_told}
use Rattle.report.specs.Report.{newline, path_name, selector_field}
use Rattle.report.proofs.lines.put_path.Goals as goal

pub returns : goal.returns
returns c =
    let a = c.args in
    let is : selector_of (selection_told c.path.result) ≡ plan_selector a.plan a.gate = ap selector_of c.path.ensures.selection ∙ path_answers a.plan c.requires.0 a.gate in
    then (sink a.out.now a.at) _ _ (path_name ++ field a.gate ++ selector_field (plan_selector a.plan a.gate)) newline
    (then (sink a.out.now a.at) _ _ (path_name ++ field a.gate) (selector_field (plan_selector a.plan a.gate))
    (then (sink a.out.now a.at) _ _ path_name (field a.gate)
    c.put_bytes-a.ensures
    c.put_field-b.ensures)
    (c.put_selection-c.ensures ∙ rw is refl))
    c.put_bytes.ensures

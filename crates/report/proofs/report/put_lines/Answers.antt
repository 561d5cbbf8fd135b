-- `report::report::put_lines` meets its contract: one part after the other.
use Rattle.std.proofs.Common.{◌≡◌, ap, ◌∙◌, ◌++◌, arith, ℕ, ◌+◌, ◌≤◌, length}
use Rattle.octets.specs.Text.{sink, put}
use Rattle.octets.specs.TextLaws.{then}
use Rattle.pieces.specs.Setting.{constant_room, copy_room, table_room}
use Rattle.columns.specs.Intake.{setting_of}
use Rattle.tree.specs.SoundLaws.{sound}
use Rattle.tree.specs.Plan.{plan_selector}
use Rattle.report.specs.Report.{plan_line, path_lines, column_lines, constant_name, copy_name, table_name, table_columns, ids_line, report_lines}
use Rattle.report.specs.ReportLaws.{all_there, table-room, few_tables}
use Rattle.report.proofs.report.put_lines.Goals as goal

pub overflow_add-height : goal.overflow_add-height
overflow_add-height c = let w = sound c.args.plan c.requires.plan_value in omega (arith, w.height, w.special)

pub put_columns-c-requires : goal.put_columns-c-requires
put_columns-c-requires c =
    -- the columns are all there
    let room : (constant_room (setting_of c.args.plan) ≤ length c.args.constants.now) × (copy_room (setting_of c.args.plan) ≤ length c.args.copies.now) × (table_room (setting_of c.args.plan) ≤ length c.args.tables.now) = all_there (setting_of c.args.plan) c.args.constants.now c.args.copies.now c.args.tables.now c.requires.tables_value in
    let w = sound c.args.plan c.requires.plan_value in (room.0, omega (arith, w.height, w.special), w.ranges.long)

pub put_columns-d-requires : goal.put_columns-d-requires
put_columns-d-requires c =
    -- the columns are all there
    let room : (constant_room (setting_of c.args.plan) ≤ length c.args.constants.now) × (copy_room (setting_of c.args.plan) ≤ length c.args.copies.now) × (table_room (setting_of c.args.plan) ≤ length c.args.tables.now) = all_there (setting_of c.args.plan) c.args.constants.now c.args.copies.now c.args.tables.now c.requires.tables_value in
    let w = sound c.args.plan c.requires.plan_value in (room.1, w.ranges.columns, w.ranges.long)

pub put_columns-e-requires : goal.put_columns-e-requires
put_columns-e-requires c =
    -- the columns are all there
    let room : (constant_room (setting_of c.args.plan) ≤ length c.args.constants.now) × (copy_room (setting_of c.args.plan) ≤ length c.args.copies.now) × (table_room (setting_of c.args.plan) ≤ length c.args.tables.now) = all_there (setting_of c.args.plan) c.args.constants.now c.args.copies.now c.args.tables.now c.requires.tables_value in
    let w = sound c.args.plan c.requires.plan_value in
    let q = c.args.plan in
    let e : c.table_columns.result ≡ table_columns (setting_of q) = c.table_columns.ensures in
    (rw e (rw (table-room (setting_of q)) room.2), omega (arith, e, few_tables (setting_of q) w.width), w.ranges.long)

pub returns : goal.returns
unfolding report_lines
returns c =
    let a = c.args in
    let q = a.plan in
    let t = c.table_columns.result in
    then (sink a.out.now 0) _ _ (plan_line q ++ path_lines (plan_selector q) 0 q.gate_count ++ column_lines constant_name q.trace a.constants.now 0 (q.constants + q.specialised) ++ column_lines copy_name q.trace a.copies.now 0 q.copy ++ column_lines table_name q.trace a.tables.now 0 t) (ids_line q)
    (then (sink a.out.now 0) _ _ (plan_line q ++ path_lines (plan_selector q) 0 q.gate_count ++ column_lines constant_name q.trace a.constants.now 0 (q.constants + q.specialised) ++ column_lines copy_name q.trace a.copies.now 0 q.copy) (column_lines table_name q.trace a.tables.now 0 t)
    (then (sink a.out.now 0) _ _ (plan_line q ++ path_lines (plan_selector q) 0 q.gate_count ++ column_lines constant_name q.trace a.constants.now 0 (q.constants + q.specialised)) (column_lines copy_name q.trace a.copies.now 0 q.copy)
    (then (sink a.out.now 0) _ _ (plan_line q ++ path_lines (plan_selector q) 0 q.gate_count) (column_lines constant_name q.trace a.constants.now 0 (q.constants + q.specialised))
    (then (sink a.out.now 0) _ _ (plan_line q) (path_lines (plan_selector q) 0 q.gate_count)
    c.put_plan-a.ensures
    c.put_paths-b.ensures)
    c.put_columns-c.ensures)
    c.put_columns-d.ensures)
    c.put_columns-e.ensures)
    c.put_ids.ensures
    ∙ ap (λ (k : ℕ). put (sink a.out.now 0) (plan_line q ++ path_lines (plan_selector q) 0 q.gate_count ++ column_lines constant_name q.trace a.constants.now 0 (q.constants + q.specialised) ++ column_lines copy_name q.trace a.copies.now 0 q.copy ++ column_lines table_name q.trace a.tables.now 0 k ++ ids_line q)) c.table_columns.ensures

-- `columns::sections::sections_number` meets its contract: 19, then 10, then the circuit's own number.
use Rattle.std.proofs.Common.{◌≡◌, refl, ◌∙◌}
use Rattle.refusal.specs.Refusal.{refusal_number}
use Rattle.base.specs.Pick.{pick}
use Rattle.pieces.specs.Opening.{room_to_open}
use Rattle.tree.specs.Plan.{outline_of, plan_fault}
use Rattle.columns.specs.GivenLaws.{small}
use Rattle.columns.specs.Intake.{setting_of, store_of}
use Rattle.columns.specs.IntakeLaws.{short_room, long_room}
use Rattle.columns.specs.SectionsLaws.{number_19, number_10, number_contents}
use Rattle.refusal.proofs.Passing.{passed_up, refusal_nonzero}
use Rattle.columns.proofs.RowLoop.{gates-sound, gates_refused}
use Rattle.columns.proofs.sections.sections_number.Goals as goal

pub returns-in_err-gates : goal.returns-in_err-gates
returns-in_err-gates c =
    let a = c.args in
    let told = gates_refused a.plan _ (c.in_err-gates.ensures.number ∙ rw c.parts.ensures) in
    passed_up c.from_residual.result _ c.from_residual.ensures.1 ∙ told.1 ∙ number_19 a.plan (store_of a.constants.now a.copies.now a.scratch.now a.tables.now) a.sections.rows.now a.sections.s_words.now a.sections.cells.now a.sections.tables.now told.0

pub room_number-requires : goal.room_number-requires
room_number-requires c =
    let no_fault : plan_fault c.args.plan ≡ 0 = gates-sound c.args.plan (c.in_ok-gates.ensures.number ∙ rw c.parts.ensures) in
    let q = c.args.plan in rw c.outline.ensures (small (outline_of q) q.gates q.nodes no_fault)

pub returns-in_err-room_number : goal.returns-in_err-room_number
returns-in_err-room_number c =
    let a = c.args in
    let b = store_of a.constants.now a.copies.now a.scratch.now a.tables.now in
    let r = c.in_err-room_number.field-0.0 in
    -- the outline is the plan's
    let short-is : refusal_number r ≡ pick (room_to_open (setting_of a.plan) b) 0 10 = c.in_err-room_number.ensures a.plan.gates a.plan.nodes ∙ rw c.outline.ensures in
    let no_fault : plan_fault c.args.plan ≡ 0 = gates-sound c.args.plan (c.in_ok-gates.ensures.number ∙ rw c.parts.ensures) in
    let k = short_room (room_to_open (setting_of a.plan) b) (refusal_number r) short-is (refusal_nonzero r) in
    let up = passed_up c.from_residual-in_err-room_number.result _ c.from_residual-in_err-room_number.ensures.1 in
    up ∙ (k.1 ∙ number_10 a.plan b a.sections.rows.now a.sections.s_words.now a.sections.cells.now a.sections.tables.now no_fault k.0)

pub contents_of-requires : goal.contents_of-requires
contents_of-requires c =
    let no_fault : plan_fault c.args.plan ≡ 0 = gates-sound c.args.plan (c.in_ok-gates.ensures.number ∙ rw c.parts.ensures) in
    (no_fault, c.in_ok-gates.ensures.rows ∙ rw c.parts.ensures)

pub returns : goal.returns
returns c =
    -- the outline is the plan's
    let short-is : let a = c.args in 0 ≡ pick (room_to_open (setting_of a.plan) (store_of a.constants.now a.copies.now a.scratch.now a.tables.now)) 0 10 = let q = c.args.plan in c.in_ok-room_number.ensures q.gates q.nodes ∙ rw c.outline.ensures in
    let no_fault : plan_fault c.args.plan ≡ 0 = gates-sound c.args.plan (c.in_ok-gates.ensures.number ∙ rw c.parts.ensures) in
    let a = c.args in
    let b = store_of a.constants.now a.copies.now a.scratch.now a.tables.now in
    c.contents_of.ensures ∙ number_contents a.plan b a.sections.rows.now a.sections.s_words.now a.sections.cells.now a.sections.tables.now no_fault (long_room (room_to_open (setting_of a.plan) b) 0 short-is refl)

-- `columns::intake::Intake::open` meets its contract: it is the opening of its parts, and a state before its first piece.
use Rattle.std.proofs.Common.{◌≡◌, sym, ap, ◌∙◌}
use Rattle.refusal.specs.Refusal.{refusal_number}
use Rattle.refusal.proofs.Passing.{nothing_answered, passed_up, refusal_nonzero}
use Rattle.tree.specs.declared.plan.Plan.{Plan}
use Rattle.pieces.specs.Opening.{open_number}
use Rattle.pieces.specs.Setting.{Store}
use Rattle.columns.specs.Intake.{Taken, open_left, setting_of, store_of, zero_intake}
use Rattle.columns.specs.IntakeLaws.{open_refused, open_taken}
use Rattle.columns.proofs.intake.Intake.open.Goals as goal

pub returns-in_err-open_parts : goal.returns-in_err-open_parts
returns-in_err-open_parts c =
    -- the four lent buffers
    let store : Store = store_of c.args.constants.now c.args.copies.now c.args.scratch.now c.args.tables.now in
    let o = c.in_err-open_parts.ensures in
    let r = c.in_err-open_parts.field-0.0 in
    let number_is : open_number (setting_of c.args.plan) store ≡ refusal_number r = sym (o.value ∙ ap (λ (q : Plan). open_number (setting_of q) store) c.parts.ensures) in
    let k = open_refused c.args.plan store (refusal_number r) number_is (refusal_nonzero r) in
    let f = c.from_residual in record {
      value = passed_up f.result _ f.ensures.1 ∙ ap (λ (t : Taken). t.number) k.0;
      state_value = nothing_answered zero_intake f.result r f.ensures.1 ∙ ap (λ (t : Taken). t.state) k.0;
      tables_after = o.tables_after ∙ ap (λ (q : Plan). open_left q store) c.parts.ensures;
    }

pub returns : goal.returns
returns c =
    -- the four lent buffers
    let store : Store = store_of c.args.constants.now c.args.copies.now c.args.scratch.now c.args.tables.now in
    let o = c.in_ok-open_parts.ensures in
    let k = open_taken c.args.plan store (sym (o.value ∙ ap (λ (q : Plan). open_number (setting_of q) store) c.parts.ensures)) in
    record { value = ap (λ (t : Taken). t.number) k.0; state_value = c.start.ensures ∙ ap (λ (t : Taken). t.state) k.0; tables_after = o.tables_after ∙ ap (λ (q : Plan). open_left q store) c.parts.ensures }

-- `columns::take::take_tables` meets its contract: 19, 10, the first faulty record, then the tables stacked; without a lookup mode no record comes so far.
use Rattle.std.proofs.Common.{lt-ltb, le-ltb, Bool, true, false, List, [], ◌≡◌, ◌∙◌, ap, sym, arith, ℕ, ◌+◌, ◌*◌, ◌≤◌, length, ltb, add-zero}
use Rattle.refusal.specs.Refusal.{refusal_number}
use Rattle.refusal.proofs.Passing.{passed_up, refusal_nonzero}
use Rattle.tree.specs.Plan.{plan_fault}
use Rattle.tree.specs.SoundLaws.{Sound, sound}
use Rattle.pieces.specs.Setting.{State, stands, table_room}
use Rattle.pieces.specs.NumberLaws.{Counted, stood}
use Rattle.columns.specs.Intake.{Taken, setting_of, state_of, with_state}
use Rattle.columns.specs.Given.{given_with, given_of, intake_in}
use Rattle.columns.specs.GivenLaws.{small}
use Rattle.columns.specs.declared.intake.Intake.{Intake}
use Rattle.base.specs.Pick.{pick}
use Rattle.parameters.specs.Lookup.{mode_of, width_of}
use Rattle.pieces.specs.Records.{tables_of}
use Rattle.pieces.specs.Tables.{tables_fault, tables_number, tables_written, tables_state, stack_of}
use Rattle.pieces.proofs.FaultLaws.{no_tables}
use Rattle.pieces.proofs.LineLaws.{tables_done, sum_done}
use Rattle.columns.specs.IntakeLaws.{plan_fine, tables_19, tables_10, tables_own, tables_refused, tables-taken}
use Rattle.columns.proofs.Standing.{standing, fallen}
use Rattle.columns.proofs.take.take_tables.Goals as goal

wide : (t : Bool) (n len : ℕ) → t ≡ true → pick t n 0 ≤ len → n ≤ len
wide t n len e h = rw e at h

abbrev as_taken : Intake → Taken
as_taken s = record { number = 0; state = s }

-- no record changes nothing
still : (t : State) (ws : List ℕ) → tables_of ws ≡ [] → tables_state t ws ≡ t
still t ws e = rw (e, add-zero, sum_done)

nothing_written : (s : Intake) (ws b : List ℕ) → tables_of ws ≡ [] → tables_written (setting_of s.plan) (state_of s) ws b ≡ b
unfolding tables_written
nothing_written s ws b e = rw e (tables_done (width_of s.plan.lookup) s.plan.trace s.counts.tables s.counts.table_rows b)

pub returns-in_err-stands : goal.returns-in_err-stands
returns-in_err-stands c =
    let held : Intake = intake_in c.args.parts.outline c.args.parts.gates.now c.args.parts.nodes.now c.args.counts.now [] in
    let s = held in
    let a = c.args in
    let r = c.in_err-stands.field-0.0 in
    let f = fallen (stands (setting_of s.plan) (state_of s)) (refusal_number r) (c.in_err-stands.ensures []) (refusal_nonzero r) in
    let k = tables_refused s a.piece.now a.tables.now (refusal_number r) (tables_19 s a.piece.now a.tables.now f.0 ∙ sym f.1) (refusal_nonzero r) in
    record { value = ap (λ (n : ℕ). given_with n a.counts.now) (passed_up c.from_residual.result _ c.from_residual.ensures.1) ∙ ap given_of k.0; tables_after = k.1 }

pub rooms_of-requires : goal.rooms_of-requires
rooms_of-requires c =
    let held : Intake = intake_in c.args.parts.outline c.args.parts.gates.now c.args.parts.nodes.now c.args.counts.now [] in
    let upright : stands (setting_of held.plan) (state_of held) ≡ true = standing (stands (setting_of held.plan) (state_of held)) (c.in_ok-stands.ensures []) in
    let no_fault : plan_fault held.plan ≡ 0 = plan_fine held upright in
    let a = c.args in small a.parts.outline a.parts.gates.now a.parts.nodes.now no_fault

pub returns-then-tables-rooms_of : goal.returns-then-tables-rooms_of
returns-then-tables-rooms_of c =
    let held : Intake = intake_in c.args.parts.outline c.args.parts.gates.now c.args.parts.nodes.now c.args.counts.now [] in
    let upright : stands (setting_of held.plan) (state_of held) ≡ true = standing (stands (setting_of held.plan) (state_of held)) (c.in_ok-stands.ensures []) in
    let s = held in
    let a = c.args in
    let r = c.rooms_of.ensures a.parts.gates.now a.parts.nodes.now in
    let k = tables_refused s a.piece.now a.tables.now 10 (tables_10 s a.piece.now a.tables.now upright (omega (arith, c.if-tables-rooms_of.true, r.tables_are))) (λ z. omega arith) in
    record { value = ap given_of k.0; tables_after = k.1 }

pub tables_fault-requires : goal.tables_fault-requires
tables_fault-requires c =
    let held : Intake = intake_in c.args.parts.outline c.args.parts.gates.now c.args.parts.nodes.now c.args.counts.now [] in
    let upright : stands (setting_of held.plan) (state_of held) ≡ true = standing (stands (setting_of held.plan) (state_of held)) (c.in_ok-stands.ensures []) in
    let no_fault : plan_fault held.plan ≡ 0 = plan_fine held upright in
    let fine : Sound held.plan = sound held.plan no_fault in
    let counts : Counted (setting_of held.plan) (state_of held) = (stood (setting_of held.plan) (state_of held) upright).counts in
    let w = fine in
    let t = counts in
    (omega (arith, w.width, c.lookup_width-width.ensures), t.tables_in, t.stack_in, w.ranges.long)

pub returns-in_err-tables_fault : goal.returns-in_err-tables_fault
returns-in_err-tables_fault c =
    let held : Intake = intake_in c.args.parts.outline c.args.parts.gates.now c.args.parts.nodes.now c.args.counts.now [] in
    -- the piece's number is its first faulty record's
    let fault-is : let a = c.args in refusal_number c.in_err-tables_fault.field-0.0 ≡ tables_fault (ltb 0 (mode_of a.parts.outline.lookup)) (width_of a.parts.outline.lookup) a.parts.outline.trace (stack_of (state_of held)) (tables_of a.piece.now) = c.in_err-tables_fault.ensures ∙ rw (c.mode-looked.ensures, c.lookup_width-width.ensures) in
    let upright : stands (setting_of held.plan) (state_of held) ≡ true = standing (stands (setting_of held.plan) (state_of held)) (c.in_ok-stands.ensures []) in
    let own : let s = held in let a = c.args in tables_number (setting_of s.plan) (state_of s) a.piece.now a.tables.now ≡ refusal_number c.in_err-tables_fault.field-0.0 =
    let a = c.args in
    let r = c.rooms_of.ensures a.parts.gates.now a.parts.nodes.now in
    tables_own held a.piece.now a.tables.now upright (omega (arith, c.if-tables-rooms_of.false, r.tables_are)) ∙ sym fault-is
    in
    let a = c.args in
    let k = tables_refused held a.piece.now a.tables.now _ own (refusal_nonzero c.in_err-tables_fault.field-0.0) in
    record { value = ap (λ (n : ℕ). given_with n a.counts.now) (passed_up c.from_residual-in_err-tables_fault.result _ c.from_residual-in_err-tables_fault.ensures.1) ∙ ap given_of k.0; tables_after = k.1 }

pub write_tables-stack-requires : goal.write_tables-stack-requires
write_tables-stack-requires c =
    let held : Intake = intake_in c.args.parts.outline c.args.parts.gates.now c.args.parts.nodes.now c.args.counts.now [] in
    -- the piece's number is its first faulty record's
    let fault-is : let a = c.args in 0 ≡ tables_fault (ltb 0 (mode_of a.parts.outline.lookup)) (width_of a.parts.outline.lookup) a.parts.outline.trace (stack_of (state_of held)) (tables_of a.piece.now) = c.in_ok-tables_fault.ensures ∙ rw (c.mode-looked.ensures, c.lookup_width-width.ensures) in
    let upright : stands (setting_of held.plan) (state_of held) ≡ true = standing (stands (setting_of held.plan) (state_of held)) (c.in_ok-stands.ensures []) in
    let no_fault : plan_fault held.plan ≡ 0 = plan_fine held upright in
    let fine : Sound held.plan = sound held.plan no_fault in
    let counts : Counted (setting_of held.plan) (state_of held) = (stood (setting_of held.plan) (state_of held) upright).counts in
    let looked : ltb 0 (mode_of c.args.parts.outline.lookup) ≡ true = lt-ltb 0 (mode_of c.args.parts.outline.lookup) (rw c.mode-looked.ensures at c.if-looked.true) in
    let s = held in
    let a = c.args in
    let q = a.parts.outline in
    let w = fine in
    let t = counts in
    let e = c.lookup_width-width.ensures in
    let n : table_room (setting_of s.plan) ≤ length a.tables.now = omega (arith, c.if-tables-rooms_of.false, (c.rooms_of.ensures a.parts.gates.now a.parts.nodes.now).tables_are) in
    let room = wide (ltb 0 (mode_of q.lookup)) ((width_of q.lookup + 1) * q.trace) (length a.tables.now) looked n in
    let f : tables_fault true (width_of q.lookup) q.trace (stack_of (state_of s)) (tables_of a.piece.now) ≡ 0 = rw looked at (sym fault-is) in
    rw e record { width_bound = (w.width, w.ranges.long, t.tables_in, t.stack_in, room); piece_value = f }

pub returns-then-looked : goal.returns-then-looked
unfolding tables_written
returns-then-looked c =
    let held : Intake = intake_in c.args.parts.outline c.args.parts.gates.now c.args.parts.nodes.now c.args.counts.now [] in
    -- the piece's number is its first faulty record's
    let fault-is : let a = c.args in 0 ≡ tables_fault (ltb 0 (mode_of a.parts.outline.lookup)) (width_of a.parts.outline.lookup) a.parts.outline.trace (stack_of (state_of held)) (tables_of a.piece.now) = c.in_ok-tables_fault.ensures ∙ rw (c.mode-looked.ensures, c.lookup_width-width.ensures) in
    let upright : stands (setting_of held.plan) (state_of held) ≡ true = standing (stands (setting_of held.plan) (state_of held)) (c.in_ok-stands.ensures []) in
    let own : let s = held in let a = c.args in tables_number (setting_of s.plan) (state_of s) a.piece.now a.tables.now ≡ 0 =
    let a = c.args in
    let r = c.rooms_of.ensures a.parts.gates.now a.parts.nodes.now in
    tables_own held a.piece.now a.tables.now upright (omega (arith, c.if-tables-rooms_of.false, r.tables_are)) ∙ sym fault-is
    in
    let a = c.args in
    let k = tables-taken held a.piece.now a.tables.now own in
    let w = c.write_tables-stack.ensures in
    let e = c.lookup_width-width.ensures in
    record { value = rw (w.count_value.0, w.count_value.1) (ap given_of k.0); tables_after = (rw e at w.tables_after) ∙ k.1 }

pub returns-else-looked : goal.returns-else-looked
returns-else-looked c =
    let held : Intake = intake_in c.args.parts.outline c.args.parts.gates.now c.args.parts.nodes.now c.args.counts.now [] in
    -- the piece's number is its first faulty record's
    let fault-is : let a = c.args in 0 ≡ tables_fault (ltb 0 (mode_of a.parts.outline.lookup)) (width_of a.parts.outline.lookup) a.parts.outline.trace (stack_of (state_of held)) (tables_of a.piece.now) = c.in_ok-tables_fault.ensures ∙ rw (c.mode-looked.ensures, c.lookup_width-width.ensures) in
    let upright : stands (setting_of held.plan) (state_of held) ≡ true = standing (stands (setting_of held.plan) (state_of held)) (c.in_ok-stands.ensures []) in
    let own : let s = held in let a = c.args in tables_number (setting_of s.plan) (state_of s) a.piece.now a.tables.now ≡ 0 =
    let a = c.args in
    let r = c.rooms_of.ensures a.parts.gates.now a.parts.nodes.now in
    tables_own held a.piece.now a.tables.now upright (omega (arith, c.if-tables-rooms_of.false, r.tables_are)) ∙ sym fault-is
    in
    let s = held in
    let ws = c.args.piece.now in
    let b = c.args.tables.now in
    let m = mode_of s.plan.lookup in
    let k = tables-taken s ws b own in
    let off : ltb 0 m ≡ false = le-ltb 0 m (rw c.mode-looked.ensures at c.if-looked.false) in
    let f : tables_fault false (width_of s.plan.lookup) s.plan.trace (stack_of (state_of s)) (tables_of ws) ≡ 0 = rw off at (sym fault-is) in
    let e = no_tables (width_of s.plan.lookup) s.plan.trace (stack_of (state_of s)) (tables_of ws) f in
    record { value = ap given_of (ap (λ (t : State). as_taken (with_state s.plan t)) (sym (still (state_of s) ws e)) ∙ k.0); tables_after = sym (nothing_written s ws b e) ∙ k.1 }

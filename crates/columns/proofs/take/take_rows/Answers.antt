-- `columns::take::take_rows` meets its contract: 19, 10, the first faulty record, then the rows written and their gates marked. The plan's test is that of its
-- gates' answer.
use Rattle.std.proofs.Common.{true, false, ℕ, ◌≡◌, ◌∙◌, ap, sym, arith, ◌+◌, ◌*◌, ◌≤◌, length}
use Rattle.refusal.specs.Refusal.{refusal_number}
use Rattle.refusal.proofs.Passing.{passed_up, refusal_nonzero}
use Rattle.tree.specs.Plan.{plan_fault, plan_path}
use Rattle.tree.specs.SoundLaws.{Sound, sound}
use Rattle.pieces.specs.Setting.{stands}
use Rattle.pieces.specs.NumberLaws.{Counted, counted}
use Rattle.pieces.specs.Records.{rows_of}
use Rattle.pieces.specs.Rows.{rows_number, rows_written}
use Rattle.columns.specs.Intake.{setting_of, state_of}
use Rattle.columns.specs.Given.{intake_in, marked_with, marked_of}
use Rattle.columns.specs.GivenLaws.{small}
use Rattle.columns.specs.IntakeLaws.{falls_plan, falls_phase, stands_counts, rows_19, rows_10, rows_own, rows_refused, rows_taken}
use Rattle.columns.specs.declared.intake.Intake.{Intake}
use Rattle.columns.proofs.RowLoop.{GatesOf, gates-of, gates-sound, gates_refused, gates_fault}
use Rattle.columns.proofs.take.take_rows.Goals.{then-counts-ne-OPEN-via-then-counts-ne-OPEN, then-counts-ne-OPEN-via-else-counts-ne-OPEN+then-not-counts_fit}
use Rattle.columns.proofs.take.take_rows.Goals as goal

pub returns-in_err-gates : goal.returns-in_err-gates
returns-in_err-gates c =
    let held : Intake = intake_in c.args.parts.outline c.args.parts.gates.now c.args.parts.nodes.now c.args.counts.now c.args.used.now in
    let a = c.args in
    let r = c.in_err-gates.field-0.0 in
    let told = gates_refused held.plan r c.in_err-gates.ensures.number in
    let k = rows_refused held a.piece.now a.constants.now (refusal_number r) (rows_19 held a.piece.now a.constants.now (falls_plan held told.0) ∙ sym told.1) (refusal_nonzero r) in
    record { value = ap (λ (n : ℕ). marked_with n a.counts.now a.used.now) (passed_up c.from_residual.result _ c.from_residual.ensures.1) ∙ ap marked_of k.0; constants_after = k.1 }

pub returns-then-counts-ne-OPEN : goal.returns-then-counts-ne-OPEN
returns-then-counts-ne-OPEN c =
    let held : Intake = intake_in c.args.parts.outline c.args.parts.gates.now c.args.parts.nodes.now c.args.counts.now c.args.used.now in
    let no_fault : plan_fault held.plan ≡ 0 = gates-sound held.plan c.in_ok-gates.ensures.number in
    let a = c.args in
    let falls : stands (setting_of held.plan) (state_of held) ≡ false = elim c.then-counts-ne-OPEN.branch [
      | then-counts-ne-OPEN-via-then-counts-ne-OPEN w ↦ falls_phase held no_fault w.if-counts-ne-OPEN.true
      | then-counts-ne-OPEN-via-else-counts-ne-OPEN+then-not-counts_fit w ↦ stands_counts held no_fault w.if-counts-ne-OPEN.false ∙ sym (w.counts_fit.ensures a.parts.gates.now a.parts.nodes.now a.used.now) ∙ w.if-not-counts_fit.true
    ] in
    let k = rows_refused held a.piece.now a.constants.now 19 (rows_19 held a.piece.now a.constants.now falls) (λ z. omega arith) in
    record { value = ap marked_of k.0; constants_after = k.1 }

pub counts_fit-requires : goal.counts_fit-requires
counts_fit-requires c =
    let held : Intake = intake_in c.args.parts.outline c.args.parts.gates.now c.args.parts.nodes.now c.args.counts.now c.args.used.now in
    let no_fault : plan_fault held.plan ≡ 0 = gates-sound held.plan c.in_ok-gates.ensures.number in
    let a = c.args in small a.parts.outline a.parts.gates.now a.parts.nodes.now no_fault

pub rooms_of-requires : goal.rooms_of-requires
rooms_of-requires c =
    let held : Intake = intake_in c.args.parts.outline c.args.parts.gates.now c.args.parts.nodes.now c.args.counts.now c.args.used.now in
    let no_fault : plan_fault held.plan ≡ 0 = gates-sound held.plan c.in_ok-gates.ensures.number in
    let a = c.args in small a.parts.outline a.parts.gates.now a.parts.nodes.now no_fault

pub returns-then-constants-rooms_of : goal.returns-then-constants-rooms_of
returns-then-constants-rooms_of c =
    let held : Intake = intake_in c.args.parts.outline c.args.parts.gates.now c.args.parts.nodes.now c.args.counts.now c.args.used.now in
    let no_fault : plan_fault held.plan ≡ 0 = gates-sound held.plan c.in_ok-gates.ensures.number in
    let upright : stands (setting_of held.plan) (state_of held) ≡ true =
    let a = c.args in
    stands_counts held no_fault c.if-counts-ne-OPEN.false ∙ sym (c.counts_fit.ensures a.parts.gates.now a.parts.nodes.now a.used.now) ∙ c.if-not-counts_fit.false
    in
    let s = held in
    let a = c.args in
    let r = c.rooms_of.ensures a.parts.gates.now a.parts.nodes.now in
    let k = rows_refused s a.piece.now a.constants.now 10 (rows_10 s a.piece.now a.constants.now upright (omega (arith, c.if-constants-rooms_of.true, r.constants_are))) (λ z. omega arith) in
    record { value = ap marked_of k.0; constants_after = k.1 }

pub test_rows-requires : goal.test_rows-requires
test_rows-requires c =
    let held : Intake = intake_in c.args.parts.outline c.args.parts.gates.now c.args.parts.nodes.now c.args.counts.now c.args.used.now in
    let no_fault : plan_fault held.plan ≡ 0 = gates-sound held.plan c.in_ok-gates.ensures.number in
    let fine : Sound held.plan = sound held.plan no_fault in
    let gates : GatesOf held.plan c.in_ok-gates.gates = gates-of held.plan c.in_ok-gates.gates no_fault c.in_ok-gates.ensures.rows in
    let counts : Counted (setting_of held.plan) (state_of held) =
    let a = c.args in
    counted (setting_of held.plan) (state_of held) (sym (c.counts_fit.ensures a.parts.gates.now a.parts.nodes.now a.used.now) ∙ c.if-not-counts_fit.false)
    in
    let w = fine in
    (omega (arith, w.few_gates, gates.alike.many_same), counts.rows_in, w.ranges.long)

pub returns-in_err-rows : goal.returns-in_err-rows
returns-in_err-rows c =
    let held : Intake = intake_in c.args.parts.outline c.args.parts.gates.now c.args.parts.nodes.now c.args.counts.now c.args.used.now in
    -- the constant buffer has its named words
    let room : let q = c.args.parts.outline in (q.told.constants + q.specialised) * q.trace ≤ length c.args.constants.now = let a = c.args in omega (arith, c.if-constants-rooms_of.false, (c.rooms_of.ensures a.parts.gates.now a.parts.nodes.now).constants_are) in
    let no_fault : plan_fault held.plan ≡ 0 = gates-sound held.plan c.in_ok-gates.ensures.number in
    let gates : GatesOf held.plan c.in_ok-gates.gates = gates-of held.plan c.in_ok-gates.gates no_fault c.in_ok-gates.ensures.rows in
    let upright : stands (setting_of held.plan) (state_of held) ≡ true =
    let a = c.args in
    stands_counts held no_fault c.if-counts-ne-OPEN.false ∙ sym (c.counts_fit.ensures a.parts.gates.now a.parts.nodes.now a.used.now) ∙ c.if-not-counts_fit.false
    in
    -- the piece's number is its first faulty record's
    let own : let s = held in let a = c.args in rows_number (setting_of s.plan) (state_of s) a.piece.now a.constants.now ≡ refusal_number c.in_err-rows.field-0.0 =
    let s = held in
    let a = c.args in
    rows_own s a.piece.now a.constants.now upright room
    ∙ sym (c.in_err-rows.ensures.number_value ∙ gates_fault s.plan c.in_ok-gates.gates gates a.parts.outline.trace a.counts.now.rows (rows_of a.piece.now))
    in
    let a = c.args in
    let k = rows_refused held a.piece.now a.constants.now _ own (refusal_nonzero c.in_err-rows.field-0.0) in
    record { value = ap (λ (n : ℕ). marked_with n a.counts.now a.used.now) (passed_up c.from_residual-in_err-rows.result _ c.from_residual-in_err-rows.ensures.1) ∙ ap marked_of k.0; constants_after = k.1 }

pub write_rows-requires : goal.write_rows-requires
write_rows-requires c =
    let held : Intake = intake_in c.args.parts.outline c.args.parts.gates.now c.args.parts.nodes.now c.args.counts.now c.args.used.now in
    -- the constant buffer has its named words
    let room : let q = c.args.parts.outline in (q.told.constants + q.specialised) * q.trace ≤ length c.args.constants.now = let a = c.args in omega (arith, c.if-constants-rooms_of.false, (c.rooms_of.ensures a.parts.gates.now a.parts.nodes.now).constants_are) in
    let no_fault : plan_fault held.plan ≡ 0 = gates-sound held.plan c.in_ok-gates.ensures.number in
    let fine : Sound held.plan = sound held.plan no_fault in
    let gates : GatesOf held.plan c.in_ok-gates.gates = gates-of held.plan c.in_ok-gates.gates no_fault c.in_ok-gates.ensures.rows in
    let a = c.args in
    let q = a.parts.outline in
    let w = fine in
    let g = gates in
    let h : q.told.constants * q.trace ≤ length a.constants.now = omega (arith, room) in record { trace_bound = (w.ranges.long, omega (arith, w.height), omega (arith, w.few_gates, g.alike.many_same), h); fits = g.room; piece_value = sym c.in_ok-rows.ensures.number_value }

pub returns : goal.returns
unfolding rows_written
returns c =
    let held : Intake = intake_in c.args.parts.outline c.args.parts.gates.now c.args.parts.nodes.now c.args.counts.now c.args.used.now in
    -- the constant buffer has its named words
    let room : let q = c.args.parts.outline in (q.told.constants + q.specialised) * q.trace ≤ length c.args.constants.now = let a = c.args in omega (arith, c.if-constants-rooms_of.false, (c.rooms_of.ensures a.parts.gates.now a.parts.nodes.now).constants_are) in
    let no_fault : plan_fault held.plan ≡ 0 = gates-sound held.plan c.in_ok-gates.ensures.number in
    let gates : GatesOf held.plan c.in_ok-gates.gates = gates-of held.plan c.in_ok-gates.gates no_fault c.in_ok-gates.ensures.rows in
    let upright : stands (setting_of held.plan) (state_of held) ≡ true =
    let a = c.args in
    stands_counts held no_fault c.if-counts-ne-OPEN.false ∙ sym (c.counts_fit.ensures a.parts.gates.now a.parts.nodes.now a.used.now) ∙ c.if-not-counts_fit.false
    in
    -- the piece's number is its first faulty record's
    let own : let s = held in let a = c.args in rows_number (setting_of s.plan) (state_of s) a.piece.now a.constants.now ≡ 0 =
    let s = held in
    let a = c.args in
    rows_own s a.piece.now a.constants.now upright room
    ∙ sym (c.in_ok-rows.ensures.number_value ∙ gates_fault s.plan c.in_ok-gates.gates gates a.parts.outline.trace a.counts.now.rows (rows_of a.piece.now))
    in
    let s = held in
    let a = c.args in
    let k = rows_taken s a.piece.now a.constants.now own in
    let m = c.in_ok-rows.ensures.rows_value in
    record { value = rw (m.0, m.1) (ap marked_of k.0); constants_after = c.write_rows.ensures (plan_path s.plan) gates.spells_paths ∙ k.1 }

-- `columns::take::take_cells` meets its contract: 19, 10, the first faulty word, then the cells run.
use Rattle.std.proofs.Common.{true, [], ◌≡◌, ◌∙◌, ap, sym, mul-le-mul, arith, ℕ, ◌+◌, ◌*◌, ◌≤◌, length}
use Rattle.refusal.specs.Refusal.{refusal_number}
use Rattle.refusal.proofs.Passing.{passed_up, refusal_nonzero}
use Rattle.tree.specs.Plan.{plan_fault}
use Rattle.tree.specs.SoundLaws.{Sound, sound}
use Rattle.pieces.specs.Setting.{cols, stands}
use Rattle.pieces.specs.NumberLaws.{Counted, stood}
use Rattle.columns.specs.Intake.{setting_of, state_of}
use Rattle.columns.specs.Given.{given_with, given_of, intake_in}
use Rattle.columns.specs.GivenLaws.{small}
use Rattle.columns.specs.declared.intake.Intake.{Intake}
use Rattle.pieces.specs.Cells.{cells_fault, cells_number}
use Rattle.pieces.specs.CellLaws.{cells_room, cells_named}
use Rattle.columns.specs.IntakeLaws.{plan_fine, cells_19, cells_10_copies, cells_10_scratch, cells_own, cells_refused, cells_taken}
use Rattle.columns.proofs.Standing.{standing, fallen}
use Rattle.columns.proofs.take.take_cells.Goals as goal
use Rattle.columns.proofs.take.take_cells.Goals.{then-copies-rooms-via-then-copies-rooms, then-copies-rooms-via-else-copies-rooms+then-scratch-rooms}

product : (a n b : ℕ) → a ≤ b → n ≤ 65536 → a * n ≤ b * 65536
product a n b h k = mul-le-mul h k

pub returns-in_err-stands : goal.returns-in_err-stands
returns-in_err-stands c =
    let held : Intake = intake_in c.args.parts.outline c.args.parts.gates.now c.args.parts.nodes.now c.args.counts.now [] in
    let s = held in
    let a = c.args in
    let b = cols a.copies.now a.scratch.now in
    let r = c.in_err-stands.field-0.0 in
    let f = fallen (stands (setting_of s.plan) (state_of s)) (refusal_number r) (c.in_err-stands.ensures []) (refusal_nonzero r) in
    let k = cells_refused s a.piece.now b (refusal_number r) (cells_19 s a.piece.now b f.0 ∙ sym f.1) (refusal_nonzero r) in
    record { value = ap (λ (n : ℕ). given_with n a.counts.now) (passed_up c.from_residual.result _ c.from_residual.ensures.1) ∙ ap given_of k.0; scratch_after = k.1 }

pub rooms_of-rooms-requires : goal.rooms_of-rooms-requires
rooms_of-rooms-requires c =
    let held : Intake = intake_in c.args.parts.outline c.args.parts.gates.now c.args.parts.nodes.now c.args.counts.now [] in
    let upright : stands (setting_of held.plan) (state_of held) ≡ true = standing (stands (setting_of held.plan) (state_of held)) (c.in_ok-stands.ensures []) in
    let no_fault : plan_fault held.plan ≡ 0 = plan_fine held upright in
    let a = c.args in small a.parts.outline a.parts.gates.now a.parts.nodes.now no_fault

pub returns-then-copies-rooms : goal.returns-then-copies-rooms
returns-then-copies-rooms c =
    let held : Intake = intake_in c.args.parts.outline c.args.parts.gates.now c.args.parts.nodes.now c.args.counts.now [] in
    let upright : stands (setting_of held.plan) (state_of held) ≡ true = standing (stands (setting_of held.plan) (state_of held)) (c.in_ok-stands.ensures []) in
    let s = held in
    let a = c.args in
    let b = cols a.copies.now a.scratch.now in
    let r = c.rooms_of-rooms.ensures a.parts.gates.now a.parts.nodes.now in
    let short : cells_number (setting_of s.plan) (state_of s) a.piece.now b ≡ 10 = elim c.then-copies-rooms.branch [
      | then-copies-rooms-via-then-copies-rooms w ↦ cells_10_copies s a.piece.now b upright (omega (arith, w.if-copies-rooms.true, r.copies_are))
      | then-copies-rooms-via-else-copies-rooms+then-scratch-rooms w ↦ cells_10_scratch s a.piece.now b upright (omega (arith, w.if-copies-rooms.false, r.copies_are)) (omega (arith, w.if-scratch-rooms.true, r.scratch_is))
    ] in
    let k = cells_refused s a.piece.now b 10 short (λ z. omega arith) in
    record { value = ap given_of k.0; scratch_after = k.1 }

pub overflow_mul-total : goal.overflow_mul-total
overflow_mul-total c =
    let held : Intake = intake_in c.args.parts.outline c.args.parts.gates.now c.args.parts.nodes.now c.args.counts.now [] in
    let upright : stands (setting_of held.plan) (state_of held) ≡ true = standing (stands (setting_of held.plan) (state_of held)) (c.in_ok-stands.ensures []) in
    let no_fault : plan_fault held.plan ≡ 0 = plan_fine held upright in
    let fine : Sound held.plan = sound held.plan no_fault in
    let q = c.args.parts.outline in
    let w = fine in
    omega (arith, product q.copy q.trace 64 w.ranges.columns w.ranges.long)

pub cells_fault-requires : goal.cells_fault-requires
cells_fault-requires c =
    let held : Intake = intake_in c.args.parts.outline c.args.parts.gates.now c.args.parts.nodes.now c.args.counts.now [] in
    let upright : stands (setting_of held.plan) (state_of held) ≡ true = standing (stands (setting_of held.plan) (state_of held)) (c.in_ok-stands.ensures []) in
    let no_fault : plan_fault held.plan ≡ 0 = plan_fine held upright in
    let fine : Sound held.plan = sound held.plan no_fault in
    let counts : Counted (setting_of held.plan) (state_of held) = (stood (setting_of held.plan) (state_of held) upright).counts in
    let q = c.args.parts.outline in
    let w = fine in
    (counts.cells_in, omega (arith, product q.copy q.trace 64 w.ranges.columns w.ranges.long))

pub returns-in_err-cells_fault : goal.returns-in_err-cells_fault
returns-in_err-cells_fault c =
    let held : Intake = intake_in c.args.parts.outline c.args.parts.gates.now c.args.parts.nodes.now c.args.counts.now [] in
    let upright : stands (setting_of held.plan) (state_of held) ≡ true = standing (stands (setting_of held.plan) (state_of held)) (c.in_ok-stands.ensures []) in
    -- the piece's number is its first faulty word's
    let own : let s = held in let a = c.args in cells_number (setting_of s.plan) (state_of s) a.piece.now (cols a.copies.now a.scratch.now) ≡ refusal_number c.in_err-cells_fault.field-0.0 =
    let a = c.args in
    let r = c.rooms_of-rooms.ensures a.parts.gates.now a.parts.nodes.now in
    cells_own held a.piece.now (cols a.copies.now a.scratch.now) upright (omega (arith, c.if-copies-rooms.false, r.copies_are)) (omega (arith, c.if-scratch-rooms.false, r.scratch_is)) ∙ sym c.in_err-cells_fault.ensures
    in
    let a = c.args in
    let k = cells_refused held a.piece.now (cols a.copies.now a.scratch.now) _ own (refusal_nonzero c.in_err-cells_fault.field-0.0) in
    record { value = ap (λ (n : ℕ). given_with n a.counts.now) (passed_up c.from_residual-in_err-cells_fault.result _ c.from_residual-in_err-cells_fault.ensures.1) ∙ ap given_of k.0; scratch_after = k.1 }

pub place_cells-requires : goal.place_cells-requires
place_cells-requires c =
    let held : Intake = intake_in c.args.parts.outline c.args.parts.gates.now c.args.parts.nodes.now c.args.counts.now [] in
    let clean : let a = c.args in cells_fault (a.parts.outline.copy * a.parts.outline.trace) a.parts.outline.variables a.counts.now.cells a.piece.now ≡ 0 = sym c.in_ok-cells_fault.ensures in
    let upright : stands (setting_of held.plan) (state_of held) ≡ true = standing (stands (setting_of held.plan) (state_of held)) (c.in_ok-stands.ensures []) in
    let counts : Counted (setting_of held.plan) (state_of held) = (stood (setting_of held.plan) (state_of held) upright).counts in
    -- a piece without a fault ends within its section
    let ends : let a = c.args in a.counts.now.cells + length a.piece.now ≤ a.parts.outline.copy * a.parts.outline.trace =
    let a = c.args in
    cells_room (a.parts.outline.copy * a.parts.outline.trace) a.parts.outline.variables a.counts.now.cells a.piece.now counts.cells_in clean
    in
    let a = c.args in
    let r = c.rooms_of-rooms.ensures a.parts.gates.now a.parts.nodes.now in record { piece_in_bounds = omega (arith, ends, c.if-copies-rooms.false, r.copies_are); by_index = λ j h l. omega (arith, cells_named (a.parts.outline.copy * a.parts.outline.trace) a.parts.outline.variables a.counts.now.cells a.piece.now clean j h l, c.if-scratch-rooms.false, r.scratch_is) }

pub overflow_add-counts : goal.overflow_add-counts
overflow_add-counts c =
    let held : Intake = intake_in c.args.parts.outline c.args.parts.gates.now c.args.parts.nodes.now c.args.counts.now [] in
    let clean : let a = c.args in cells_fault (a.parts.outline.copy * a.parts.outline.trace) a.parts.outline.variables a.counts.now.cells a.piece.now ≡ 0 = sym c.in_ok-cells_fault.ensures in
    let upright : stands (setting_of held.plan) (state_of held) ≡ true = standing (stands (setting_of held.plan) (state_of held)) (c.in_ok-stands.ensures []) in
    let counts : Counted (setting_of held.plan) (state_of held) = (stood (setting_of held.plan) (state_of held) upright).counts in
    -- a piece without a fault ends within its section
    let ends : let a = c.args in a.counts.now.cells + length a.piece.now ≤ a.parts.outline.copy * a.parts.outline.trace =
    let a = c.args in
    cells_room (a.parts.outline.copy * a.parts.outline.trace) a.parts.outline.variables a.counts.now.cells a.piece.now counts.cells_in clean
    in
    let no_fault : plan_fault held.plan ≡ 0 = plan_fine held upright in
    let fine : Sound held.plan = sound held.plan no_fault in
    let q = c.args.parts.outline in
    let w = fine in
    omega (arith, product q.copy q.trace 64 w.ranges.columns w.ranges.long, ends)

pub returns : goal.returns
returns c =
    let held : Intake = intake_in c.args.parts.outline c.args.parts.gates.now c.args.parts.nodes.now c.args.counts.now [] in
    let upright : stands (setting_of held.plan) (state_of held) ≡ true = standing (stands (setting_of held.plan) (state_of held)) (c.in_ok-stands.ensures []) in
    -- the piece's number is its first faulty word's
    let own : let s = held in let a = c.args in cells_number (setting_of s.plan) (state_of s) a.piece.now (cols a.copies.now a.scratch.now) ≡ 0 =
    let a = c.args in
    let r = c.rooms_of-rooms.ensures a.parts.gates.now a.parts.nodes.now in
    cells_own held a.piece.now (cols a.copies.now a.scratch.now) upright (omega (arith, c.if-copies-rooms.false, r.copies_are)) (omega (arith, c.if-scratch-rooms.false, r.scratch_is)) ∙ sym c.in_ok-cells_fault.ensures
    in
    let a = c.args in
    let k = cells_taken held a.piece.now (cols a.copies.now a.scratch.now) own in
    record { value = ap given_of k.0; scratch_after = c.place_cells.ensures ∙ k.1 }

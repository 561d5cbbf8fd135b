-- `columns::take::take_finish` meets its contract: 19, 10, 16, 17, 18, and only then the values written to their first cells.
use Rattle.std.proofs.Common.{true, ◌≡◌, ◌∙◌, ap, sym, mul-le-mul, arith, ℕ, ◌*◌, ◌≤◌, length}
use Rattle.refusal.specs.Refusal.{refusal_number}
use Rattle.refusal.proofs.Passing.{passed_up, refusal_nonzero}
use Rattle.tree.specs.Plan.{plan_fault}
use Rattle.tree.specs.SoundLaws.{Sound, sound}
use Rattle.pieces.specs.Setting.{cols, stands}
use Rattle.pieces.specs.Finishing.{complete, finish_number}
use Rattle.columns.specs.Intake.{setting_of, state_of}
use Rattle.columns.specs.Given.{given_with, given_of, intake_in}
use Rattle.columns.specs.GivenLaws.{small}
use Rattle.columns.specs.declared.intake.Intake.{Intake}
use Rattle.columns.specs.IntakeLaws.{plan_fine, finish_19, finish_10_copies, finish_10_scratch, finish_16, finish_17, finish_18, finish_0, finish_refused, finish_taken}
use Rattle.columns.proofs.Standing.{standing, fallen}
use Rattle.columns.proofs.take.take_finish.Goals as goal
use Rattle.columns.proofs.take.take_finish.Goals.{then-copies-rooms-via-then-copies-rooms, then-copies-rooms-via-else-copies-rooms+then-scratch-rooms}

product : (a n b : ℕ) → a ≤ b → n ≤ 65536 → a * n ≤ b * 65536
product a n b h k = mul-le-mul h k

pub returns-in_err-stands : goal.returns-in_err-stands
returns-in_err-stands c =
    let held : Intake = intake_in c.args.parts.outline c.args.parts.gates.now c.args.parts.nodes.now c.args.counts.now c.args.used.now in
    let s = held in
    let b = cols c.args.copies.now c.args.scratch.now in
    let r = c.in_err-stands.field-0.0 in
    let f = fallen (stands (setting_of s.plan) (state_of s)) (refusal_number r) (c.in_err-stands.ensures c.args.used.now) (refusal_nonzero r) in
    let k = finish_refused s b (refusal_number r) (finish_19 s b f.0 ∙ sym f.1) (refusal_nonzero r) in
    record { value = ap (λ (n : ℕ). given_with n c.args.counts.now) (passed_up c.from_residual.result _ c.from_residual.ensures.1) ∙ ap given_of k.0; copies_after = k.1 }

pub rooms_of-rooms-requires : goal.rooms_of-rooms-requires
rooms_of-rooms-requires c =
    let held : Intake = intake_in c.args.parts.outline c.args.parts.gates.now c.args.parts.nodes.now c.args.counts.now c.args.used.now in
    let upright : stands (setting_of held.plan) (state_of held) ≡ true = standing (stands (setting_of held.plan) (state_of held)) (c.in_ok-stands.ensures c.args.used.now) in
    let no_fault : plan_fault held.plan ≡ 0 = plan_fine held upright in
    let a = c.args in small a.parts.outline a.parts.gates.now a.parts.nodes.now no_fault

pub returns-then-copies-rooms : goal.returns-then-copies-rooms
returns-then-copies-rooms c =
    let held : Intake = intake_in c.args.parts.outline c.args.parts.gates.now c.args.parts.nodes.now c.args.counts.now c.args.used.now in
    let upright : stands (setting_of held.plan) (state_of held) ≡ true = standing (stands (setting_of held.plan) (state_of held)) (c.in_ok-stands.ensures c.args.used.now) in
    let s = held in
    let a = c.args in
    let b = cols a.copies.now a.scratch.now in
    let r = c.rooms_of-rooms.ensures a.parts.gates.now a.parts.nodes.now in
    let short : finish_number (setting_of s.plan) (state_of s) b ≡ 10 = elim c.then-copies-rooms.branch [
      | then-copies-rooms-via-then-copies-rooms w ↦ finish_10_copies s b upright (omega (arith, w.if-copies-rooms.true, r.copies_are))
      | then-copies-rooms-via-else-copies-rooms+then-scratch-rooms w ↦ finish_10_scratch s b upright (omega (arith, w.if-copies-rooms.false, r.copies_are)) (omega (arith, w.if-scratch-rooms.true, r.scratch_is))
    ] in
    let k = finish_refused s b 10 short (λ z. omega arith) in
    record { value = ap given_of k.0; copies_after = k.1 }

pub complete-requires : goal.complete-requires
complete-requires c =
    let held : Intake = intake_in c.args.parts.outline c.args.parts.gates.now c.args.parts.nodes.now c.args.counts.now c.args.used.now in
    let upright : stands (setting_of held.plan) (state_of held) ≡ true = standing (stands (setting_of held.plan) (state_of held)) (c.in_ok-stands.ensures c.args.used.now) in
    let no_fault : plan_fault held.plan ≡ 0 = plan_fine held upright in
    let a = c.args in small a.parts.outline a.parts.gates.now a.parts.nodes.now no_fault

pub all_used-requires : goal.all_used-requires
all_used-requires c =
    let held : Intake = intake_in c.args.parts.outline c.args.parts.gates.now c.args.parts.nodes.now c.args.counts.now c.args.used.now in
    let upright : stands (setting_of held.plan) (state_of held) ≡ true = standing (stands (setting_of held.plan) (state_of held)) (c.in_ok-stands.ensures c.args.used.now) in
    let no_fault : plan_fault held.plan ≡ 0 = plan_fine held upright in
    let fine : Sound held.plan = sound held.plan no_fault in
    fine.few_gates

pub overflow_mul-cells : goal.overflow_mul-cells
overflow_mul-cells c =
    let held : Intake = intake_in c.args.parts.outline c.args.parts.gates.now c.args.parts.nodes.now c.args.counts.now c.args.used.now in
    let upright : stands (setting_of held.plan) (state_of held) ≡ true = standing (stands (setting_of held.plan) (state_of held)) (c.in_ok-stands.ensures c.args.used.now) in
    let no_fault : plan_fault held.plan ≡ 0 = plan_fine held upright in
    let fine : Sound held.plan = sound held.plan no_fault in
    let q = c.args.parts.outline in
    let w = fine in
    omega (arith, product q.copy q.trace 64 w.ranges.columns w.ranges.long)

pub scratch_fine-requires : goal.scratch_fine-requires
scratch_fine-requires c =
    let held : Intake = intake_in c.args.parts.outline c.args.parts.gates.now c.args.parts.nodes.now c.args.counts.now c.args.used.now in
    -- both buffers have their named words
    let room : let a = c.args in (a.parts.outline.copy * a.parts.outline.trace ≤ length a.copies.now) × (2 * a.parts.outline.variables ≤ length a.scratch.now) =
    let a = c.args in
    let r = c.rooms_of-rooms.ensures a.parts.gates.now a.parts.nodes.now in
    (omega (arith, c.if-copies-rooms.false, r.copies_are), omega (arith, c.if-scratch-rooms.false, r.scratch_is))
    in
    let upright : stands (setting_of held.plan) (state_of held) ≡ true = standing (stands (setting_of held.plan) (state_of held)) (c.in_ok-stands.ensures c.args.used.now) in
    let no_fault : plan_fault held.plan ≡ 0 = plan_fine held upright in
    let fine : Sound held.plan = sound held.plan no_fault in
    (fine.variables, room.1)

pub write_firsts-requires : goal.write_firsts-requires
write_firsts-requires c =
    let held : Intake = intake_in c.args.parts.outline c.args.parts.gates.now c.args.parts.nodes.now c.args.counts.now c.args.used.now in
    -- both buffers have their named words
    let room : let a = c.args in (a.parts.outline.copy * a.parts.outline.trace ≤ length a.copies.now) × (2 * a.parts.outline.variables ≤ length a.scratch.now) =
    let a = c.args in
    let r = c.rooms_of-rooms.ensures a.parts.gates.now a.parts.nodes.now in
    (omega (arith, c.if-copies-rooms.false, r.copies_are), omega (arith, c.if-scratch-rooms.false, r.scratch_is))
    in
    let upright : stands (setting_of held.plan) (state_of held) ≡ true = standing (stands (setting_of held.plan) (state_of held)) (c.in_ok-stands.ensures c.args.used.now) in
    let no_fault : plan_fault held.plan ≡ 0 = plan_fine held upright in
    let fine : Sound held.plan = sound held.plan no_fault in
    record { variables_bound = (fine.variables, room.1, room.0); scratch_value = sym c.scratch_fine.ensures ∙ c.if-not-scratch_fine.false }

pub returns : goal.returns
returns c =
    let held : Intake = intake_in c.args.parts.outline c.args.parts.gates.now c.args.parts.nodes.now c.args.counts.now c.args.used.now in
    -- both buffers have their named words
    let room : let a = c.args in (a.parts.outline.copy * a.parts.outline.trace ≤ length a.copies.now) × (2 * a.parts.outline.variables ≤ length a.scratch.now) =
    let a = c.args in
    let r = c.rooms_of-rooms.ensures a.parts.gates.now a.parts.nodes.now in
    (omega (arith, c.if-copies-rooms.false, r.copies_are), omega (arith, c.if-scratch-rooms.false, r.scratch_is))
    in
    let all_there : let s = held in c.complete.result ≡ complete (setting_of s.plan) (state_of s) = let a = c.args in c.complete.ensures a.parts.gates.now a.parts.nodes.now a.used.now in
    let upright : stands (setting_of held.plan) (state_of held) ≡ true = standing (stands (setting_of held.plan) (state_of held)) (c.in_ok-stands.ensures c.args.used.now) in
    let s = held in
    let b = cols c.args.copies.now c.args.scratch.now in
    let k = finish_taken s b (finish_0 s b upright room.0 room.1 (sym all_there ∙ c.if-not-complete.false) (sym c.all_used.ensures ∙ c.if-not-all_used.false) (sym c.scratch_fine.ensures ∙ c.if-not-scratch_fine.false)) in
    record { value = ap given_of k.0; copies_after = c.write_firsts.ensures ∙ k.1 }

pub returns-then-not-scratch_fine : goal.returns-then-not-scratch_fine
returns-then-not-scratch_fine c =
    let held : Intake = intake_in c.args.parts.outline c.args.parts.gates.now c.args.parts.nodes.now c.args.counts.now c.args.used.now in
    -- both buffers have their named words
    let room : let a = c.args in (a.parts.outline.copy * a.parts.outline.trace ≤ length a.copies.now) × (2 * a.parts.outline.variables ≤ length a.scratch.now) =
    let a = c.args in
    let r = c.rooms_of-rooms.ensures a.parts.gates.now a.parts.nodes.now in
    (omega (arith, c.if-copies-rooms.false, r.copies_are), omega (arith, c.if-scratch-rooms.false, r.scratch_is))
    in
    let all_there : let s = held in c.complete.result ≡ complete (setting_of s.plan) (state_of s) = let a = c.args in c.complete.ensures a.parts.gates.now a.parts.nodes.now a.used.now in
    let upright : stands (setting_of held.plan) (state_of held) ≡ true = standing (stands (setting_of held.plan) (state_of held)) (c.in_ok-stands.ensures c.args.used.now) in
    let s = held in
    let b = cols c.args.copies.now c.args.scratch.now in
    let k = finish_refused s b 18 (finish_18 s b upright room.0 room.1 (sym all_there ∙ c.if-not-complete.false) (sym c.all_used.ensures ∙ c.if-not-all_used.false) (sym c.scratch_fine.ensures ∙ c.if-not-scratch_fine.true)) (λ z. omega arith) in
    record { value = ap given_of k.0; copies_after = k.1 }

pub returns-then-not-all_used : goal.returns-then-not-all_used
returns-then-not-all_used c =
    let held : Intake = intake_in c.args.parts.outline c.args.parts.gates.now c.args.parts.nodes.now c.args.counts.now c.args.used.now in
    -- both buffers have their named words
    let room : let a = c.args in (a.parts.outline.copy * a.parts.outline.trace ≤ length a.copies.now) × (2 * a.parts.outline.variables ≤ length a.scratch.now) =
    let a = c.args in
    let r = c.rooms_of-rooms.ensures a.parts.gates.now a.parts.nodes.now in
    (omega (arith, c.if-copies-rooms.false, r.copies_are), omega (arith, c.if-scratch-rooms.false, r.scratch_is))
    in
    let all_there : let s = held in c.complete.result ≡ complete (setting_of s.plan) (state_of s) = let a = c.args in c.complete.ensures a.parts.gates.now a.parts.nodes.now a.used.now in
    let upright : stands (setting_of held.plan) (state_of held) ≡ true = standing (stands (setting_of held.plan) (state_of held)) (c.in_ok-stands.ensures c.args.used.now) in
    let s = held in
    let b = cols c.args.copies.now c.args.scratch.now in
    let k = finish_refused s b 17 (finish_17 s b upright room.0 room.1 (sym all_there ∙ c.if-not-complete.false) (sym c.all_used.ensures ∙ c.if-not-all_used.true)) (λ z. omega arith) in
    record { value = ap given_of k.0; copies_after = k.1 }

pub returns-then-not-complete : goal.returns-then-not-complete
returns-then-not-complete c =
    let held : Intake = intake_in c.args.parts.outline c.args.parts.gates.now c.args.parts.nodes.now c.args.counts.now c.args.used.now in
    -- both buffers have their named words
    let room : let a = c.args in (a.parts.outline.copy * a.parts.outline.trace ≤ length a.copies.now) × (2 * a.parts.outline.variables ≤ length a.scratch.now) =
    let a = c.args in
    let r = c.rooms_of-rooms.ensures a.parts.gates.now a.parts.nodes.now in
    (omega (arith, c.if-copies-rooms.false, r.copies_are), omega (arith, c.if-scratch-rooms.false, r.scratch_is))
    in
    let all_there : let s = held in c.complete.result ≡ complete (setting_of s.plan) (state_of s) = let a = c.args in c.complete.ensures a.parts.gates.now a.parts.nodes.now a.used.now in
    let upright : stands (setting_of held.plan) (state_of held) ≡ true = standing (stands (setting_of held.plan) (state_of held)) (c.in_ok-stands.ensures c.args.used.now) in
    let s = held in
    let b = cols c.args.copies.now c.args.scratch.now in
    let k = finish_refused s b 16 (finish_16 s b upright room.0 room.1 (sym all_there ∙ c.if-not-complete.true)) (λ z. omega arith) in
    record { value = ap given_of k.0; copies_after = k.1 }

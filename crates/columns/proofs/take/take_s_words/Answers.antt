-- `columns::take::take_s_words` meets its contract: 19, 10, the first faulty word, then the words written behind the K columns.
use Rattle.std.proofs.Common.{true, [], ◌≡◌, ◌∙◌, ap, sym, mul-le-mul, arith, ℕ, ◌+◌, ◌*◌, ◌≤◌, length}
use Rattle.refusal.specs.Refusal.{refusal_number}
use Rattle.refusal.proofs.Passing.{passed_up, refusal_nonzero}
use Rattle.tree.specs.Plan.{plan_fault}
use Rattle.tree.specs.SoundLaws.{Sound, sound}
use Rattle.pieces.specs.Setting.{stands}
use Rattle.pieces.specs.NumberLaws.{Counted, stood}
use Rattle.columns.specs.Intake.{setting_of, state_of}
use Rattle.columns.specs.Given.{given_with, given_of, intake_in}
use Rattle.columns.specs.GivenLaws.{small}
use Rattle.columns.specs.declared.intake.Intake.{Intake}
use Rattle.pieces.specs.SWords.{s_words_number, s_words_written}
use Rattle.pieces.proofs.FaultLaws.{words_room}
use Rattle.columns.specs.IntakeLaws.{plan_fine, words_19, words_10, words_own, words_refused, words-taken}
use Rattle.columns.proofs.Standing.{standing, fallen}
use Rattle.columns.proofs.take.take_s_words.Goals as goal

product : (a n b : ℕ) → a ≤ b → n ≤ 65536 → a * n ≤ b * 65536
product a n b h k = mul-le-mul h k

pub returns-in_err-stands : goal.returns-in_err-stands
returns-in_err-stands c =
    let held : Intake = intake_in c.args.parts.outline c.args.parts.gates.now c.args.parts.nodes.now c.args.counts.now [] in
    let s = held in
    let a = c.args in
    let r = c.in_err-stands.field-0.0 in
    let f = fallen (stands (setting_of s.plan) (state_of s)) (refusal_number r) (c.in_err-stands.ensures []) (refusal_nonzero r) in
    let k = words_refused s a.piece.now a.constants.now (refusal_number r) (words_19 s a.piece.now a.constants.now f.0 ∙ sym f.1) (refusal_nonzero r) in
    record { value = ap (λ (n : ℕ). given_with n a.counts.now) (passed_up c.from_residual.result _ c.from_residual.ensures.1) ∙ ap given_of k.0; constants_after = k.1 }

pub rooms_of-requires : goal.rooms_of-requires
rooms_of-requires c =
    let held : Intake = intake_in c.args.parts.outline c.args.parts.gates.now c.args.parts.nodes.now c.args.counts.now [] in
    let upright : stands (setting_of held.plan) (state_of held) ≡ true = standing (stands (setting_of held.plan) (state_of held)) (c.in_ok-stands.ensures []) in
    let no_fault : plan_fault held.plan ≡ 0 = plan_fine held upright in
    let a = c.args in small a.parts.outline a.parts.gates.now a.parts.nodes.now no_fault

pub returns-then-constants-rooms_of : goal.returns-then-constants-rooms_of
returns-then-constants-rooms_of c =
    let held : Intake = intake_in c.args.parts.outline c.args.parts.gates.now c.args.parts.nodes.now c.args.counts.now [] in
    let upright : stands (setting_of held.plan) (state_of held) ≡ true = standing (stands (setting_of held.plan) (state_of held)) (c.in_ok-stands.ensures []) in
    let s = held in
    let a = c.args in
    let r = c.rooms_of.ensures a.parts.gates.now a.parts.nodes.now in
    let k = words_refused s a.piece.now a.constants.now 10 (words_10 s a.piece.now a.constants.now upright (omega (arith, c.if-constants-rooms_of.true, r.constants_are))) (λ z. omega arith) in
    record { value = ap given_of k.0; constants_after = k.1 }

pub overflow_mul-total : goal.overflow_mul-total
overflow_mul-total c =
    let held : Intake = intake_in c.args.parts.outline c.args.parts.gates.now c.args.parts.nodes.now c.args.counts.now [] in
    let upright : stands (setting_of held.plan) (state_of held) ≡ true = standing (stands (setting_of held.plan) (state_of held)) (c.in_ok-stands.ensures []) in
    let no_fault : plan_fault held.plan ≡ 0 = plan_fine held upright in
    let fine : Sound held.plan = sound held.plan no_fault in
    let q = c.args.parts.outline in
    let w = fine in
    omega (arith, product q.specialised q.trace 16 w.special w.ranges.long)

pub s_words_fault-requires : goal.s_words_fault-requires
s_words_fault-requires c =
    let held : Intake = intake_in c.args.parts.outline c.args.parts.gates.now c.args.parts.nodes.now c.args.counts.now [] in
    let upright : stands (setting_of held.plan) (state_of held) ≡ true = standing (stands (setting_of held.plan) (state_of held)) (c.in_ok-stands.ensures []) in
    let no_fault : plan_fault held.plan ≡ 0 = plan_fine held upright in
    let fine : Sound held.plan = sound held.plan no_fault in
    let counts : Counted (setting_of held.plan) (state_of held) = (stood (setting_of held.plan) (state_of held) upright).counts in
    let q = c.args.parts.outline in
    let w = fine in
    (counts.words_in, omega (arith, product q.specialised q.trace 16 w.special w.ranges.long))

pub returns-in_err-s_words_fault : goal.returns-in_err-s_words_fault
returns-in_err-s_words_fault c =
    let held : Intake = intake_in c.args.parts.outline c.args.parts.gates.now c.args.parts.nodes.now c.args.counts.now [] in
    let upright : stands (setting_of held.plan) (state_of held) ≡ true = standing (stands (setting_of held.plan) (state_of held)) (c.in_ok-stands.ensures []) in
    -- the piece's number is its first faulty word's
    let own : let s = held in let a = c.args in s_words_number (setting_of s.plan) (state_of s) a.piece.now a.constants.now ≡ refusal_number c.in_err-s_words_fault.field-0.0 =
    let a = c.args in
    let r = c.rooms_of.ensures a.parts.gates.now a.parts.nodes.now in
    words_own held a.piece.now a.constants.now upright (omega (arith, c.if-constants-rooms_of.false, r.constants_are)) ∙ sym c.in_err-s_words_fault.ensures
    in
    let a = c.args in
    let k = words_refused held a.piece.now a.constants.now _ own (refusal_nonzero c.in_err-s_words_fault.field-0.0) in
    record { value = ap (λ (n : ℕ). given_with n a.counts.now) (passed_up c.from_residual-in_err-s_words_fault.result _ c.from_residual-in_err-s_words_fault.ensures.1) ∙ ap given_of k.0; constants_after = k.1 }

pub overflow_mul-at : goal.overflow_mul-at
overflow_mul-at c =
    let held : Intake = intake_in c.args.parts.outline c.args.parts.gates.now c.args.parts.nodes.now c.args.counts.now [] in
    let upright : stands (setting_of held.plan) (state_of held) ≡ true = standing (stands (setting_of held.plan) (state_of held)) (c.in_ok-stands.ensures []) in
    let no_fault : plan_fault held.plan ≡ 0 = plan_fine held upright in
    let fine : Sound held.plan = sound held.plan no_fault in
    let q = c.args.parts.outline in
    let w = fine in
    omega (arith, product q.told.constants q.trace 47 w.height w.ranges.long)

pub overflow_add-at : goal.overflow_add-at
overflow_add-at c =
    let held : Intake = intake_in c.args.parts.outline c.args.parts.gates.now c.args.parts.nodes.now c.args.counts.now [] in
    let upright : stands (setting_of held.plan) (state_of held) ≡ true = standing (stands (setting_of held.plan) (state_of held)) (c.in_ok-stands.ensures []) in
    let counts : Counted (setting_of held.plan) (state_of held) = (stood (setting_of held.plan) (state_of held) upright).counts in
    -- a piece without a fault ends within its section
    let ends : let a = c.args in a.counts.now.s_words + length a.piece.now ≤ a.parts.outline.specialised * a.parts.outline.trace =
    let a = c.args in
    words_room (a.parts.outline.specialised * a.parts.outline.trace) a.counts.now.s_words a.piece.now counts.words_in (sym c.in_ok-s_words_fault.ensures)
    in
    let no_fault : plan_fault held.plan ≡ 0 = plan_fine held upright in
    let fine : Sound held.plan = sound held.plan no_fault in
    let q = c.args.parts.outline in
    let w = fine in
    omega (arith, product q.specialised q.trace 16 w.special w.ranges.long, product q.told.constants q.trace 47 w.height w.ranges.long, ends)

pub write_words-requires : goal.write_words-requires
write_words-requires c =
    let held : Intake = intake_in c.args.parts.outline c.args.parts.gates.now c.args.parts.nodes.now c.args.counts.now [] in
    let upright : stands (setting_of held.plan) (state_of held) ≡ true = standing (stands (setting_of held.plan) (state_of held)) (c.in_ok-stands.ensures []) in
    let counts : Counted (setting_of held.plan) (state_of held) = (stood (setting_of held.plan) (state_of held) upright).counts in
    -- a piece without a fault ends within its section
    let ends : let a = c.args in a.counts.now.s_words + length a.piece.now ≤ a.parts.outline.specialised * a.parts.outline.trace =
    let a = c.args in
    words_room (a.parts.outline.specialised * a.parts.outline.trace) a.counts.now.s_words a.piece.now counts.words_in (sym c.in_ok-s_words_fault.ensures)
    in
    let a = c.args in
    omega (arith, ends, c.if-constants-rooms_of.false, (c.rooms_of.ensures a.parts.gates.now a.parts.nodes.now).constants_are)

pub overflow_add-counts : goal.overflow_add-counts
overflow_add-counts c =
    let held : Intake = intake_in c.args.parts.outline c.args.parts.gates.now c.args.parts.nodes.now c.args.counts.now [] in
    let upright : stands (setting_of held.plan) (state_of held) ≡ true = standing (stands (setting_of held.plan) (state_of held)) (c.in_ok-stands.ensures []) in
    let counts : Counted (setting_of held.plan) (state_of held) = (stood (setting_of held.plan) (state_of held) upright).counts in
    -- a piece without a fault ends within its section
    let ends : let a = c.args in a.counts.now.s_words + length a.piece.now ≤ a.parts.outline.specialised * a.parts.outline.trace =
    let a = c.args in
    words_room (a.parts.outline.specialised * a.parts.outline.trace) a.counts.now.s_words a.piece.now counts.words_in (sym c.in_ok-s_words_fault.ensures)
    in
    let no_fault : plan_fault held.plan ≡ 0 = plan_fine held upright in
    let fine : Sound held.plan = sound held.plan no_fault in
    let q = c.args.parts.outline in
    let w = fine in
    omega (arith, product q.specialised q.trace 16 w.special w.ranges.long, ends)

pub returns : goal.returns
unfolding s_words_written
returns c =
    let held : Intake = intake_in c.args.parts.outline c.args.parts.gates.now c.args.parts.nodes.now c.args.counts.now [] in
    let upright : stands (setting_of held.plan) (state_of held) ≡ true = standing (stands (setting_of held.plan) (state_of held)) (c.in_ok-stands.ensures []) in
    -- the piece's number is its first faulty word's
    let own : let s = held in let a = c.args in s_words_number (setting_of s.plan) (state_of s) a.piece.now a.constants.now ≡ 0 =
    let a = c.args in
    let r = c.rooms_of.ensures a.parts.gates.now a.parts.nodes.now in
    words_own held a.piece.now a.constants.now upright (omega (arith, c.if-constants-rooms_of.false, r.constants_are)) ∙ sym c.in_ok-s_words_fault.ensures
    in
    let a = c.args in
    let k = words-taken held a.piece.now a.constants.now own in
    record { value = ap given_of k.0; constants_after = c.write_words.ensures ∙ k.1 }

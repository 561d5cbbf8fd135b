-- `opening::open_parts` meets its contract: 19, 10, 9, then labels written and all other named words zeroed.
use Rattle.std.proofs.Common.{ℕ, ◌*◌, ◌≤◌, le-leb, length, true, List, ◌≡◌, refl, sym, ap, ◌∙◌, arith}
use Rattle.refusal.specs.Refusal.{refusal_number}
use Rattle.refusal.proofs.Passing.{passed_up, refusal_nonzero}
use Rattle.labels.proofs.LabelLaws.{written_refused, written_is}
use Rattle.labels.specs.Labels.{search_number, fill_number}
use Rattle.labels.specs.Ranges.{ranges_fit}
use Rattle.tree.specs.Plan.{plan_fault, parts_plan}
use Rattle.tree.specs.SoundLaws.{sound}
use Rattle.tree.specs.declared.plan.Plan.{Plan}
use Rattle.pieces.specs.Opening.{room_to_open, open_number}
use Rattle.pieces.specs.Setting.{Store}
use Rattle.pieces.specs.Writing.{cleared}
use Rattle.columns.specs.GivenLaws.{small}
use Rattle.columns.specs.Intake.{setting_of, store_of}
use Rattle.columns.specs.IntakeLaws.{short_room, long_room, open_19, open_10, open_own, opened_long, open_refused, open_taken}
use Rattle.columns.specs.Rooms.{RoomsOf}
use Rattle.columns.proofs.Standing.{made-up}
use Rattle.columns.proofs.opening.open_parts.Goals as goal

-- with the ranges and the room that opening has tested, the labels' number is the search's
fill_is : (n k : ℕ) (copies : List ℕ) → ranges_fit n k ≡ true → k * n ≤ length copies → fill_number n k copies ≡ search_number n k
unfolding fill_number
fill_is n k copies r h = rw (r, le-leb (k * n) (length copies) h)

four : {a a' b b' s s' t t' : List ℕ} → a ≡ a' → b ≡ b' → s ≡ s' → t ≡ t' → store_of a b s t ≡ store_of a' b' s' t'
four e f g h = cc

pub returns-in_err-fault : goal.returns-in_err-fault
returns-in_err-fault c =
    -- the plan that the parts are, and the four lent buffers
    let plan : Plan = parts_plan c.args.parts in
    let store : Store = store_of c.args.constants.now c.args.copies.now c.args.scratch.now c.args.tables.now in
    let m = made-up plan c.in_err-fault.field-0.0 c.in_err-fault.ensures in
    let e = open_19 plan store m.0 in
    record { value = passed_up c.from_residual.result _ c.from_residual.ensures.1 ∙ m.1 ∙ sym e; tables_after = (open_refused plan store 19 e (λ z. omega arith)).1 }

pub room_number-requires : goal.room_number-requires
room_number-requires c =
    -- the plan that the parts are, and the four lent buffers
    let plan : Plan = parts_plan c.args.parts in
    let fine : plan_fault plan ≡ 0 = sym c.in_ok-fault.ensures in
    let a = c.args in
    small a.parts.outline a.parts.gates.now a.parts.nodes.now fine

pub returns-in_err-room_number : goal.returns-in_err-room_number
returns-in_err-room_number c =
    -- the plan that the parts are, and the four lent buffers
    let p = c.args.parts in
    let plan : Plan = parts_plan p in
    let store : Store = store_of c.args.constants.now c.args.copies.now c.args.scratch.now c.args.tables.now in
    let fine : plan_fault plan ≡ 0 = sym c.in_ok-fault.ensures in
    let r = c.in_err-room_number.field-0.0 in
    let h = short_room (room_to_open (setting_of plan) store) (refusal_number r) (c.in_err-room_number.ensures p.gates.now p.nodes.now) (refusal_nonzero r) in
    let e = open_10 plan store fine h.0 ∙ sym h.1 in
    let f = c.from_residual-in_err-room_number in
    record { value = passed_up f.result _ f.ensures.1 ∙ sym e; tables_after = (open_refused plan store (refusal_number r) e (refusal_nonzero r)).1 }

pub returns-in_err-fill_labels : goal.returns-in_err-fill_labels
returns-in_err-fill_labels c =
    -- the plan that the parts are, and the four lent buffers
    let a = c.args in
    let p = a.parts in
    let plan : Plan = parts_plan p in
    let store : Store = store_of a.constants.now a.copies.now a.scratch.now a.tables.now in
    let fine : plan_fault plan ≡ 0 = sym c.in_ok-fault.ensures in
    let room : room_to_open (setting_of plan) store ≡ true = long_room (room_to_open (setting_of plan) store) 0 (c.in_ok-room_number.ensures p.gates.now p.nodes.now) refl in
    let r = c.in_err-fill_labels.field-0.0 in
    let e : open_number (setting_of plan) store ≡ refusal_number r =
    open_own plan store fine room ∙ sym (c.in_err-fill_labels.ensures.value ∙ fill_is plan.trace plan.copy store.cells.copies (sound plan fine).ranges_fit_too (opened_long plan store room).1)
    in
    let f = c.from_residual-in_err-fill_labels in
    let kept = c.in_err-fill_labels.ensures.copies_after ∙ written_refused plan.trace plan.copy a.copies.now (λ z. refusal_nonzero r (c.in_err-fill_labels.ensures.value ∙ z)) in
    record { value = passed_up f.result _ f.ensures.1 ∙ sym e; tables_after = ap (λ (y : List ℕ). store_of a.constants.now y a.scratch.now a.tables.now) kept ∙ (open_refused plan store (refusal_number r) e (refusal_nonzero r)).1 }

pub rooms_of-rooms-requires : goal.rooms_of-rooms-requires
rooms_of-rooms-requires c =
    -- the plan that the parts are, and the four lent buffers
    let plan : Plan = parts_plan c.args.parts in
    let fine : plan_fault plan ≡ 0 = sym c.in_ok-fault.ensures in
    let a = c.args in
    small a.parts.outline a.parts.gates.now a.parts.nodes.now fine

pub clear-requires : goal.clear-requires
clear-requires c =
    -- the plan that the parts are, and the four lent buffers
    let plan : Plan = parts_plan c.args.parts in
    let store : Store = store_of c.args.constants.now c.args.copies.now c.args.scratch.now c.args.tables.now in
    let room : room_to_open (setting_of plan) store ≡ true = long_room (room_to_open (setting_of plan) store) 0 (c.in_ok-room_number.ensures c.args.parts.gates.now c.args.parts.nodes.now) refl in
    let rooms-are : RoomsOf (setting_of plan) c.rooms_of-rooms.result = let a = c.args in c.rooms_of-rooms.ensures a.parts.gates.now a.parts.nodes.now in
    omega (arith, (opened_long plan store room).3, rooms-are.tables_are)

pub clear-requires-2 : goal.clear-requires-2
clear-requires-2 c =
    -- the plan that the parts are, and the four lent buffers
    let plan : Plan = parts_plan c.args.parts in
    let store : Store = store_of c.args.constants.now c.args.copies.now c.args.scratch.now c.args.tables.now in
    let room : room_to_open (setting_of plan) store ≡ true = long_room (room_to_open (setting_of plan) store) 0 (c.in_ok-room_number.ensures c.args.parts.gates.now c.args.parts.nodes.now) refl in
    let rooms-are : RoomsOf (setting_of plan) c.rooms_of-rooms.result = let a = c.args in c.rooms_of-rooms.ensures a.parts.gates.now a.parts.nodes.now in
    omega (arith, (opened_long plan store room).2, rooms-are.scratch_is)

pub clear-requires-3 : goal.clear-requires-3
clear-requires-3 c =
    -- the plan that the parts are, and the four lent buffers
    let plan : Plan = parts_plan c.args.parts in
    let store : Store = store_of c.args.constants.now c.args.copies.now c.args.scratch.now c.args.tables.now in
    let room : room_to_open (setting_of plan) store ≡ true = long_room (room_to_open (setting_of plan) store) 0 (c.in_ok-room_number.ensures c.args.parts.gates.now c.args.parts.nodes.now) refl in
    let rooms-are : RoomsOf (setting_of plan) c.rooms_of-rooms.result = let a = c.args in c.rooms_of-rooms.ensures a.parts.gates.now a.parts.nodes.now in
    omega (arith, (opened_long plan store room).0, rooms-are.constants_are)

pub returns : goal.returns
returns c =
    -- the plan that the parts are, and the four lent buffers
    let plan : Plan = parts_plan c.args.parts in
    let store : Store = store_of c.args.constants.now c.args.copies.now c.args.scratch.now c.args.tables.now in
    let fine : plan_fault plan ≡ 0 = sym c.in_ok-fault.ensures in
    let room : room_to_open (setting_of plan) store ≡ true = long_room (room_to_open (setting_of plan) store) 0 (c.in_ok-room_number.ensures c.args.parts.gates.now c.args.parts.nodes.now) refl in
    let e : open_number (setting_of plan) store ≡ 0 =
    open_own plan store fine room ∙ sym (c.in_ok-fill_labels.ensures.value ∙ fill_is plan.trace plan.copy store.cells.copies (sound plan fine).ranges_fit_too (opened_long plan store room).1)
    in
    let rooms-are : RoomsOf (setting_of plan) c.rooms_of-rooms.result = let a = c.args in c.rooms_of-rooms.ensures a.parts.gates.now a.parts.nodes.now in
    let a = c.args in
    let q = plan in
    let f = c.in_ok-fill_labels.ensures in
    let r = rooms-are in
    let labelled = f.copies_after ∙ written_is q.trace q.copy a.copies.now (sym f.value) in
    let constants = c.clear-3.ensures ∙ ap (λ (n : ℕ). cleared n a.constants.now) r.constants_are in
    let scratch = c.clear-2.ensures ∙ ap (λ (n : ℕ). cleared n a.scratch.now) r.scratch_is in
    let tables = c.clear.ensures ∙ ap (λ (n : ℕ). cleared n a.tables.now) r.tables_are in
    record { value = sym e; tables_after = four constants labelled scratch tables ∙ (open_taken q store e).1 }

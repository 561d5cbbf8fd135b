-- `calls::list::run_calls` meets its contract: counted first; then each call of the list is a step of the chain. The loop's invariant: the calls from the place on leave
-- what the whole list leaves. No call changes the plan. The measure is what is left of the list.
use Rattle.std.proofs.Common.{◌≡◌, refl, sym, ap, ◌∙◌, ℕ, ◌+◌, ◌-◌, ◌*◌, ◌<◌, arith, length, get_or, set, subst, take, drop, length-set}
use Rattle.refusal.specs.Refusal.{answer_number}
use Rattle.columns.specs.Given.{marked_of, marked_with}
use Rattle.claim.specs.Chain.{Kept, answer, left}
use Rattle.std.specs.Prelude.{Some, None}
use Rattle.calls.specs.KindLaws.{kind_known, kind_there}
use Rattle.calls.specs.Encoded.{Ran, call_by, count_told, end_at}
use Rattle.calls.specs.Kinds.{kind_word}
use Rattle.calls.specs.EncodedLaws.{Fits, ran_20, ran_10, Turn, turn_start, turn_fits, turn_next, turn_end}
use Rattle.calls.proofs.list.run_calls.Invariants.{within}
use Rattle.calls.proofs.list.run_calls.Goals as goal

pub returns-in_default : goal.returns-in_default
returns-in_default c =
    let a = c.args in
    let start : Kept = within a.parts a.counts.now a.used.now a.constants.now a.copies.now a.scratch.now a.tables.now in
    let e = ran_20 a.list.now start a.numbers.now (count_told None) c.in_default.ensures (omega arith) in
    record { value = sym (ap (λ (y : Ran). marked_of y.answer) e); tables_after = sym (ap (λ (y : Ran). y.store) e); numbers_after = sym (ap (λ (y : Ran). y.numbers) e) }

pub unwrap-kind-requires : goal.unwrap-kind-requires
unwrap-kind-requires c =
    let a = c.args in
    let start : Kept = within a.parts a.counts.now a.used.now a.constants.now a.copies.now a.scratch.now a.tables.now in
    let l = c.loop-at in
    let kept : Kept = within a.parts l.counts l.used l.constants l.copies l.scratch l.tables in
    -- the call at the place is of a known kind
    let there : Fits a.list.now l.at × (l.place < length l.numbers) = turn_fits a.list.now start a.numbers.now l.at l.place kept l.numbers l.invariant.6 (omega arith) in
    kind_there (get_or a.list.now l.at 0) c.of.result c.of.ensures there.0.low there.0.high

pub returns-then-numbers-count : goal.returns-then-numbers-count
returns-then-numbers-count c =
    let a = c.args in
    let start : Kept = within a.parts a.counts.now a.used.now a.constants.now a.copies.now a.scratch.now a.tables.now in
    let e = ran_10 a.list.now start a.numbers.now (count_told (Some c.in-Some.count)) c.in-Some.ensures (omega arith) c.if-numbers-count.true in
    record { value = sym (ap (λ (y : Ran). marked_of y.answer) e); tables_after = sym (ap (λ (y : Ran). y.store) e); numbers_after = sym (ap (λ (y : Ran). y.numbers) e) }

pub loop-at-init : goal.loop-at-init
loop-at-init c =
    let a = c.args in
    let start : Kept = within a.parts a.counts.now a.used.now a.constants.now a.copies.now a.scratch.now a.tables.now in
    (omega arith, refl, refl, refl, refl, refl, turn_start a.list.now start a.numbers.now (count_told (Some c.in-Some.count)) c.in-Some.ensures (omega arith) (omega arith), omega arith)

pub overflow_add-start : goal.overflow_add-start
overflow_add-start c =
    let a = c.args in
    let start : Kept = within a.parts a.counts.now a.used.now a.constants.now a.copies.now a.scratch.now a.tables.now in
    let l = c.loop-at in
    let kept : Kept = within a.parts l.counts l.used l.constants l.copies l.scratch l.tables in
    -- the call at the place is all there, and there is room for its number
    let there : Fits a.list.now l.at × (l.place < length l.numbers) = turn_fits a.list.now start a.numbers.now l.at l.place kept l.numbers l.invariant.6 (omega arith) in
    omega (arith, there.0.head)

pub overflow_add-end : goal.overflow_add-end
overflow_add-end c =
    let a = c.args in
    let start : Kept = within a.parts a.counts.now a.used.now a.constants.now a.copies.now a.scratch.now a.tables.now in
    let l = c.loop-at in
    let kept : Kept = within a.parts l.counts l.used l.constants l.copies l.scratch l.tables in
    -- the call at the place is all there, and there is room for its number
    let there : Fits a.list.now l.at × (l.place < length l.numbers) = turn_fits a.list.now start a.numbers.now l.at l.place kept l.numbers l.invariant.6 (omega arith) in
    omega (arith, there.0.head)

pub bounds-list-at-in-loop-at : goal.bounds-list-at-in-loop-at
bounds-list-at-in-loop-at c =
    let a = c.args in
    let start : Kept = within a.parts a.counts.now a.used.now a.constants.now a.copies.now a.scratch.now a.tables.now in
    let l = c.loop-at in
    let kept : Kept = within a.parts l.counts l.used l.constants l.copies l.scratch l.tables in
    -- the call at the place is all there, and there is room for its number
    let there : Fits a.list.now l.at × (l.place < length l.numbers) = turn_fits a.list.now start a.numbers.now l.at l.place kept l.numbers l.invariant.6 (omega arith) in
    omega (arith, there.0.head)

pub overflow_add-end-in-loop-at : goal.overflow_add-end-in-loop-at
overflow_add-end-in-loop-at c =
    let a = c.args in
    let start : Kept = within a.parts a.counts.now a.used.now a.constants.now a.copies.now a.scratch.now a.tables.now in
    let l = c.loop-at in
    let kept : Kept = within a.parts l.counts l.used l.constants l.copies l.scratch l.tables in
    -- the call at the place is all there, and there is room for its number
    let there : Fits a.list.now l.at × (l.place < length l.numbers) = turn_fits a.list.now start a.numbers.now l.at l.place kept l.numbers l.invariant.6 (omega arith) in
    omega (arith, there.0.piece)

pub slice_bounds-one_call-count : goal.slice_bounds-one_call-count
slice_bounds-one_call-count c =
    let a = c.args in
    let start : Kept = within a.parts a.counts.now a.used.now a.constants.now a.copies.now a.scratch.now a.tables.now in
    let l = c.loop-at in
    let kept : Kept = within a.parts l.counts l.used l.constants l.copies l.scratch l.tables in
    -- the call at the place is all there, and there is room for its number
    let there : Fits a.list.now l.at × (l.place < length l.numbers) = turn_fits a.list.now start a.numbers.now l.at l.place kept l.numbers l.invariant.6 (omega arith) in
    omega (arith, there.0.piece)

pub slice_bounds-one_call-start : goal.slice_bounds-one_call-start
slice_bounds-one_call-start c =
    let a = c.args in
    let start : Kept = within a.parts a.counts.now a.used.now a.constants.now a.copies.now a.scratch.now a.tables.now in
    let l = c.loop-at in
    let kept : Kept = within a.parts l.counts l.used l.constants l.copies l.scratch l.tables in
    -- the call at the place is all there, and there is room for its number
    let there : Fits a.list.now l.at × (l.place < length l.numbers) = turn_fits a.list.now start a.numbers.now l.at l.place kept l.numbers l.invariant.6 (omega arith) in
    omega (arith, there.0.piece)

pub slice_bounds-one_call-end : goal.slice_bounds-one_call-end
slice_bounds-one_call-end c =
    let a = c.args in
    let start : Kept = within a.parts a.counts.now a.used.now a.constants.now a.copies.now a.scratch.now a.tables.now in
    let l = c.loop-at in
    let kept : Kept = within a.parts l.counts l.used l.constants l.copies l.scratch l.tables in
    -- the call at the place is all there, and there is room for its number
    let there : Fits a.list.now l.at × (l.place < length l.numbers) = turn_fits a.list.now start a.numbers.now l.at l.place kept l.numbers l.invariant.6 (omega arith) in
    omega (arith, there.0.piece)

pub offset_bounds-numbers-place : goal.offset_bounds-numbers-place
offset_bounds-numbers-place c =
    let small : (c.loop-at.place + 1) * 8 < 18446744073709551616 = omega (arith, c.loop-at.invariant.7) in
    omega (arith, small)

pub bounds-numbers-place : goal.bounds-numbers-place
bounds-numbers-place c =
    let a = c.args in
    let start : Kept = within a.parts a.counts.now a.used.now a.constants.now a.copies.now a.scratch.now a.tables.now in
    let l = c.loop-at in
    let kept : Kept = within a.parts l.counts l.used l.constants l.copies l.scratch l.tables in
    -- the call at the place is all there, and there is room for its number
    let there : Fits a.list.now l.at × (l.place < length l.numbers) = turn_fits a.list.now start a.numbers.now l.at l.place kept l.numbers l.invariant.6 (omega arith) in
    there.1

pub overflow_add-place : goal.overflow_add-place
overflow_add-place c =
    let small : (c.loop-at.place + 1) * 8 < 18446744073709551616 = omega (arith, c.loop-at.invariant.7) in
    omega (arith, small)

pub loop-at-smaller : goal.loop-at-smaller
loop-at-smaller c =
    let a = c.args in
    let start : Kept = within a.parts a.counts.now a.used.now a.constants.now a.copies.now a.scratch.now a.tables.now in
    let l = c.loop-at in
    let kept : Kept = within a.parts l.counts l.used l.constants l.copies l.scratch l.tables in
    -- the call at the place is all there, and there is room for its number
    let there : Fits a.list.now l.at × (l.place < length l.numbers) = turn_fits a.list.now start a.numbers.now l.at l.place kept l.numbers l.invariant.6 (omega arith) in
    omega (arith, there.0.piece)

pub loop-at-preserved : goal.loop-at-preserved
loop-at-preserved c =
    let a = c.args in
    let start : Kept = within a.parts a.counts.now a.used.now a.constants.now a.copies.now a.scratch.now a.tables.now in
    let l = c.loop-at in
    let kept : Kept = within a.parts l.counts l.used l.constants l.copies l.scratch l.tables in
    -- the call at the place is all there, and there is room for its number
    let there : Fits a.list.now l.at × (l.place < length l.numbers) = turn_fits a.list.now start a.numbers.now l.at l.place kept l.numbers l.invariant.6 (omega arith) in
    let o = c.one_call-answer in
    let ws = a.list.now in
    let k = c.unwrap-kind.result in
    let w : kind_word k ≡ get_or ws l.at 0 = kind_known (get_or ws l.at 0) k (sym c.of.ensures ∙ c.unwrap-kind.ensures) in
    let after : Kept = within a.parts o.new.counts o.new.used o.new.constants o.new.copies o.new.scratch o.new.tables in
    let e : (l.at + 2 + get_or ws (l.at + 1) 0) - (l.at + 2) ≡ get_or ws (l.at + 1) 0 = omega arith in (
      there.0.piece,
      length-set l.numbers l.place c.answer_number.result ∙ l.invariant.1,
      o.auto.constants ∙ l.invariant.2,
      o.auto.copies ∙ l.invariant.3,
      o.auto.scratch ∙ l.invariant.4,
      o.auto.tables ∙ l.invariant.5,
      subst (λ (n : ℕ). Turn ws start a.numbers.now (end_at ws l.at) (l.place + 1) after (set l.numbers l.place n)) (sym c.answer_number.ensures)
          (turn_next ws start a.numbers.now l.at l.place kept l.numbers l.invariant.6 (omega arith) (marked_with (answer_number o.result) o.new.counts o.new.used) o.new.constants o.new.copies o.new.scratch o.new.tables
          (o.ensures.value ∙ ap (λ (v : ℕ). marked_of (answer (call_by v (take (l.at + 2 + get_or ws (l.at + 1) 0 - (l.at + 2)) (drop (l.at + 2) ws))) kept)) w ∙ ap (λ (n : ℕ). marked_of (answer (call_by (get_or ws l.at 0) (take n (drop (l.at + 2) ws))) kept)) e)
          (o.ensures.tables_after ∙ ap (λ (v : ℕ). left (call_by v (take (l.at + 2 + get_or ws (l.at + 1) 0 - (l.at + 2)) (drop (l.at + 2) ws))) kept) w ∙ ap (λ (n : ℕ). left (call_by (get_or ws l.at 0) (take n (drop (l.at + 2) ws))) kept) e)),
      omega arith,
    )

pub shape_of-numbers : goal.shape_of-numbers
shape_of-numbers c = c.loop-at.invariant.1

pub shape_of-constants : goal.shape_of-constants
shape_of-constants c = c.loop-at.invariant.2

pub shape_of-copies : goal.shape_of-copies
shape_of-copies c = c.loop-at.invariant.3

pub shape_of-scratch : goal.shape_of-scratch
shape_of-scratch c = c.loop-at.invariant.4

pub shape_of-tables : goal.shape_of-tables
shape_of-tables c = c.loop-at.invariant.5

pub returns : goal.returns
returns c =
    let a = c.args in
    let start : Kept = within a.parts a.counts.now a.used.now a.constants.now a.copies.now a.scratch.now a.tables.now in
    let l = c.loop-at in
    let kept : Kept = within a.parts l.counts l.used l.constants l.copies l.scratch l.tables in
    let e = turn_end a.list.now start a.numbers.now l.at l.place kept l.numbers l.invariant.6 (omega arith) in
    record { value = sym (ap (λ (y : Ran). marked_of y.answer) e); tables_after = sym (ap (λ (y : Ran). y.store) e); numbers_after = sym (ap (λ (y : Ran). y.numbers) e) }

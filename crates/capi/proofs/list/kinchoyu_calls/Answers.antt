-- `list::kinchoyu_calls` meets its contract: the list is run from the state that the words encode, in its parts, or from that of the plan of zeros; the words are
-- written where they are as many as a state has.
use Rattle.std.proofs.Common.{ℕ, List, ◌∙◌, ◌≡◌, ap, refl, sym, arith}
use Rattle.std.specs.Prelude.{Option, Some, None}
use Rattle.refusal.specs.Refusal.{answer_number}
use Rattle.tree.specs.Plan.{parts_plan, zero_plan}
use Rattle.tree.specs.declared.plan.Outline.{Outline}
use Rattle.tree.specs.declared.plan.Plan.{Plan}
use Rattle.columns.specs.Intake.{state_in, store_of, with_state}
use Rattle.columns.specs.Given.{Marked, intake_in, marked_of, marked_with}
use Rattle.columns.specs.declared.intake.Intake.{Intake}
use Rattle.claim.specs.Keeping.{keeping}
use Rattle.calls.specs.Encoded.{calls_of, ran_by}
use Rattle.encoding.specs.Encoding.{intake_of}
use Rattle.encoding.specs.Holding.{Held, gates_in, held_at, held_with, nodes_in, outlined}
use Rattle.encoding.proofs.HeldLaws.{holds, holds_none}
use Rattle.capi.specs.CallsLaws.{list_given, list_kept}
use Rattle.capi.specs.Intake.{marked_after}
use Rattle.capi.proofs.list.kinchoyu_calls.Goals as goal
use Rattle.capi.proofs.list.kinchoyu_calls.Goals.{in-Some, in-None}

pub parts_in-requires : goal.parts_in-requires
parts_in-requires c =
    let ws = c.args.state.now in
    let k = c.held_at-held.result.counts in
    let h : Held = held_with (outlined (Some c.in-Some.outline)) k in
    let d : h ≡ held_at ws = ap (λ (x : Option Outline). held_with (outlined x) k) (sym c.in-Some.is) ∙ c.held_at-held.ensures in
    omega (arith, (holds ws h d refl).long)

pub returns-then-state-ne-STATE_WORDS : goal.returns-then-state-ne-STATE_WORDS
returns-then-state-ne-STATE_WORDS c =
    let a = c.args in
    let ws = a.state.now in
    let k = c.held_at-held.result.counts in
    let us = c.marks_of-used.result in
    let n = c.match-held in
    -- what the list does, by the state that it starts from
    let ran = λ (s : Intake). ran_by (calls_of a.list.now) (keeping s a.constants.now a.copies.now a.scratch.now a.tables.now) a.numbers.now in
    let t = ran (intake_of ws) in
    let did : (marked_with (answer_number n.answer) n.counts n.used ≡ marked_of t.answer) × ((n.numbers ≡ t.numbers) × (store_of n.constants n.copies n.scratch n.tables ≡ t.store)) =
    elim n.branch [
      | in-Some w ↦
          let h : Held = held_with (outlined (Some w.in-Some.outline)) k in
          let d : h ≡ held_at ws = ap (λ (x : Option Outline). held_with (outlined x) k) (sym w.in-Some.is) ∙ c.held_at-held.ensures in
          let there = holds ws h d refl in
          let e : with_state (parts_plan w.parts_in.result) (state_in k us) ≡ intake_of ws =
          ap (λ (q : Plan). with_state q (state_in k us)) w.parts_in.ensures
          ∙ ap (λ (m : List ℕ). intake_in w.in-Some.outline (gates_in ws) (nodes_in ws) k m) (c.marks_of-used.ensures ∙ there.marks) ∙ there.parts
          in
          let r = w.run_calls-answer.ensures in (
            rw (w.answer-is, w.counts-is, w.used-is) (r.value ∙ ap (λ (s : Intake). marked_of (ran s).answer) e),
            (
              w.numbers-is ∙ r.numbers_after ∙ ap (λ (s : Intake). (ran s).numbers) e,
              rw (w.constants-is, w.copies-is, w.scratch-is, w.tables-is) (r.tables_after ∙ ap (λ (s : Intake). (ran s).store) e),
            ),
          )
      | in-None w ↦
          let h : Held = held_with (outlined None) k in
          let d : h ≡ held_at ws = ap (λ (x : Option Outline). held_with (outlined x) k) (sym w.in-None.is) ∙ c.held_at-held.ensures in
          let e : with_state zero_plan (state_in k us) ≡ intake_of ws =
          ap (λ (m : List ℕ). with_state zero_plan (state_in k m)) c.marks_of-used.ensures ∙ holds_none ws h d refl
          in
          let r = w.run_zero-answer.ensures in (
            rw (w.answer-is, w.counts-is, w.used-is) (r.value ∙ ap (λ (s : Intake). marked_of (ran s).answer) e),
            (
              w.numbers-is ∙ r.numbers_after ∙ ap (λ (s : Intake). (ran s).numbers) e,
              rw (w.constants-is, w.copies-is, w.scratch-is, w.tables-is) (r.tables_after ∙ ap (λ (s : Intake). (ran s).store) e),
            ),
          )
    ] in
    record {
      value = ap (λ (x : Marked). x.number) did.0;
      state_after = list_kept t.answer ws c.if-state-ne-STATE_WORDS.true;
      numbers_after = did.1.0;
      tables_after = did.1.1;
    }

pub returns : goal.returns
returns c =
    let a = c.args in
    let ws = a.state.now in
    let k = c.held_at-held.result.counts in
    let us = c.marks_of-used.result in
    let n = c.match-held in
    -- what the list does, by the state that it starts from
    let ran = λ (s : Intake). ran_by (calls_of a.list.now) (keeping s a.constants.now a.copies.now a.scratch.now a.tables.now) a.numbers.now in
    let t = ran (intake_of ws) in
    let did : (marked_with (answer_number n.answer) n.counts n.used ≡ marked_of t.answer) × ((n.numbers ≡ t.numbers) × (store_of n.constants n.copies n.scratch n.tables ≡ t.store)) =
    elim n.branch [
      | in-Some w ↦
          let h : Held = held_with (outlined (Some w.in-Some.outline)) k in
          let d : h ≡ held_at ws = ap (λ (x : Option Outline). held_with (outlined x) k) (sym w.in-Some.is) ∙ c.held_at-held.ensures in
          let there = holds ws h d refl in
          let e : with_state (parts_plan w.parts_in.result) (state_in k us) ≡ intake_of ws =
          ap (λ (q : Plan). with_state q (state_in k us)) w.parts_in.ensures
          ∙ ap (λ (m : List ℕ). intake_in w.in-Some.outline (gates_in ws) (nodes_in ws) k m) (c.marks_of-used.ensures ∙ there.marks) ∙ there.parts
          in
          let r = w.run_calls-answer.ensures in (
            rw (w.answer-is, w.counts-is, w.used-is) (r.value ∙ ap (λ (s : Intake). marked_of (ran s).answer) e),
            (
              w.numbers-is ∙ r.numbers_after ∙ ap (λ (s : Intake). (ran s).numbers) e,
              rw (w.constants-is, w.copies-is, w.scratch-is, w.tables-is) (r.tables_after ∙ ap (λ (s : Intake). (ran s).store) e),
            ),
          )
      | in-None w ↦
          let h : Held = held_with (outlined None) k in
          let d : h ≡ held_at ws = ap (λ (x : Option Outline). held_with (outlined x) k) (sym w.in-None.is) ∙ c.held_at-held.ensures in
          let e : with_state zero_plan (state_in k us) ≡ intake_of ws =
          ap (λ (m : List ℕ). with_state zero_plan (state_in k m)) c.marks_of-used.ensures ∙ holds_none ws h d refl
          in
          let r = w.run_zero-answer.ensures in (
            rw (w.answer-is, w.counts-is, w.used-is) (r.value ∙ ap (λ (s : Intake). marked_of (ran s).answer) e),
            (
              w.numbers-is ∙ r.numbers_after ∙ ap (λ (s : Intake). (ran s).numbers) e,
              rw (w.constants-is, w.copies-is, w.scratch-is, w.tables-is) (r.tables_after ∙ ap (λ (s : Intake). (ran s).store) e),
            ),
          )
    ] in
    let g = c.give_marked_back.ensures in
    record {
      value = ap answer_number g.value ∙ ap (λ (x : Marked). x.number) did.0;
      state_after = g.state_after ∙ ap (λ (x : Marked). marked_after x ws) did.0 ∙ list_given t.answer ws c.if-state-ne-STATE_WORDS.false;
      numbers_after = did.1.0;
      tables_after = did.1.1;
    }

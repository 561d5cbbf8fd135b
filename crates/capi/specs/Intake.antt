-- What opening and the calls after it leave in the state's words, and what opening answers. A later call's number and columns are those of `columns` for the
-- state that its words encode.
--
-- Main definitions: `open_call`, `opened_state`, `opened_store`, `opened_words`, `state_words_after`, `progress_after`, `marked_after`, `counted_after`.
use Rattle.std.specs.Prelude.{ℕ, eqb, leb, length, replicate, List}
use Rattle.base.specs.Pick.{pick}
use Rattle.columns.specs.Given.{marked_of, marked_with}
use Rattle.columns.specs.Intake.{open_answer, open_left, with_state}
use Rattle.columns.specs.Intake.{Taken}
use Rattle.columns.specs.Given.{Given, Marked}
use Rattle.pieces.specs.Opening.{open_state}
use Rattle.pieces.specs.Setting.{Store}
use Rattle.tree.specs.Plan.{plan_fault, zero_plan}
use Rattle.writer.specs.Hand.{handed}
use Rattle.encoding.specs.Encoding.{intake_words, marks_at, plan_of, progress_in, progress_of, progressed, state_length}

-- "Open: 19; 10; 9 candidates reach p." The state's slice is tested just before the columns.
unfoldable pub open_call : List ℕ → List ℕ → Store → ℕ
open_call ws state b =
    pick (eqb (plan_fault (plan_of ws)) 0) (pick (leb state_length (length state)) (open_answer (plan_of ws) b).number 10) 19

-- "Refused .. opening hands back a .. state of zeros", where there is room for it
unfoldable pub opened_state : List ℕ → List ℕ → Store → List ℕ
opened_state ws state b = handed (intake_words (open_answer (plan_of ws) b).state) state

-- a state's slice that is too short leaves the columns as they were
unfoldable pub opened_store : List ℕ → List ℕ → Store → Store
opened_store ws state b = pick (leb state_length (length state)) (open_left (plan_of ws) b) b

-- the state's words after an opening with this number: the plan's words and no piece so far, or zeros
unfoldable pub opened_words : ℕ → List ℕ → List ℕ → List ℕ
opened_words n ws old = pick (eqb n 0) (progressed (progress_of (with_state zero_plan open_state)) (handed ws old)) (handed (replicate state_length 0) old)

-- "A refusal returns its number and the state given": its words stay as they were, made-up ones too
unfoldable pub state_words_after : Taken → List ℕ → List ℕ
state_words_after t old = pick (eqb t.number 0) (handed (intake_words t.state) old) old

-- the same with the words of the plan as they were: no call after opening changes the plan
unfoldable pub marked_after : Marked → List ℕ → List ℕ
marked_after m old = pick (eqb m.number 0) (progressed (progress_in m.counts m.used) old) old

abbrev pub progress_after : Taken → List ℕ → List ℕ
progress_after t old = marked_after (marked_of t) old

-- and with the marks as they were
abbrev pub counted_after : Given → List ℕ → List ℕ
counted_after g old = marked_after (marked_with g.number g.counts (marks_at old)) old

-- Opening and the calls after it, case by case.
--
-- Main definitions: `PlanThere`. Main statements: `state_given`, `state_kept`; `progress_given`, `progress_kept`, `progress_state`, `passed`; `rows_there`, `words_there`, `cells_there`, `tables_there`, `finish_there`; `rows_back`, `words_back`, `cells_back`, `tables_back`, `finish_back` and `..-none`; `open_short`,
-- `open_made-up`, `open_given`, `open_none`.
use Rattle.std.specs.Prelude.{◌<◌, ◌≤◌, ℕ, eqb, leb, replicate, Bool, ◌≢◌, ◌≡◌}
use borrow.Author.Tests.{eq-eqb, le-leb, lt-leb, ne_eqb}
use Rattle.std.proofs.Math.ListN.{length}
use Rattle.std.proofs.Math.Bool.{false, true}
use mathlib.Core.List.{List, []}
use Rattle.std.proofs.Common.{◌∙◌, arith}
use Rattle.std.proofs.Math.Path.{ap, refl, sym}
use Rattle.std.proofs.Math.Decide.{ℕ_discrete}
use Rattle.base.specs.Pick.{pick, pick_no, pick_yes}
use Rattle.columns.specs.Given.{counted, given_of, intake_in, marked_of, marked_with}
use Rattle.columns.specs.GivenLaws.{bare, cells_whole, finish_whole, tables_whole, words_whole}
use Rattle.columns.specs.Intake.{answered, cells_answer, cells_left, finish_answer, finish_left, open_answer, open_left, refused_with, rows_answer, rows_left, s_words_answer, s_words_left, setting_of, state_of, tables_answer, tables_left, with_state}
use Rattle.columns.specs.IntakeLaws.{cells_19, cells_refused, falls_plan, finish_19, finish_refused, open_19, open_refused, open_taken, plan_fine, rows_19, rows_refused, tables_19, tables_refused, words_19, words_refused}
use Rattle.columns.specs.declared.intake.Intake.{Intake}
use Rattle.columns.specs.Intake.{Taken}
use Rattle.columns.specs.Given.{Given}
use Rattle.columns.specs.Given.{Marked}
use Rattle.pieces.specs.Cells.{cells_number, cells_state}
use Rattle.pieces.specs.Finishing.{finish_number, finished_state}
use Rattle.pieces.specs.Opening.{open_number, open_state, zero_state}
use Rattle.pieces.specs.Records.{rows_of}
use Rattle.pieces.specs.Rows.{rows_number, rows_state}
use Rattle.pieces.specs.SWords.{s_words_number, s_words_state}
use Rattle.pieces.specs.Setting.{Cols, State, Store, stands}
use Rattle.pieces.specs.Tables.{tables_number, tables_state}
use Rattle.tree.specs.Plan.{plan_fault, zero_plan}
use Rattle.tree.specs.declared.plan.Plan.{Plan}
use Rattle.writer.specs.Hand.{handed}
use Rattle.encoding.specs.Encoding.{intake_of, intake_words, marks_at, plan_of, plan_words, progress_in, progress_of, progressed, state_length}
use Rattle.encoding.specs.Holding.{Held, gates_in, held_at, marks_read, nodes_in}
use Rattle.encoding.proofs.HeldLaws.{Holds, holds, none_fault}
use Rattle.writer.proofs.HandLaws.{handed_short}
use Rattle.encoding.proofs.EncodingLaws.{plan_there, sound_again, state-length, state_progressed, state_written}
use Rattle.selector.specs.Gates.{gate_slots}
use Rattle.base.specs.Limits.{most_gates}
use Rattle.selector.specs.Nodes.{node_slots}
use Rattle.capi.specs.Lengths.{Long, long_like, marked-long, own_plan, plan-long, used_long}
use Rattle.capi.specs.Intake.{counted_after, marked_after, open_call, opened_state, opened_store, opened_words, progress_after, state_words_after}

-- ---- the state's words after a call
pub state_given : (t : Taken) (old : List ℕ) → t.number ≡ 0 → handed (intake_words t.state) old ≡ state_words_after t old
unfolding state_words_after
state_given t old e = sym (pick_yes (eqb t.number 0) (handed (intake_words t.state) old) old (eq-eqb t.number 0 e))

-- where a call is accepted its state has arrays of their lengths, and the words that it is written over start with those of its plan
abbrev pub PlanThere : Taken → List ℕ → Type 0
PlanThere t old = t.number ≡ 0 → Long t.state × (handed (plan_words t.state.plan) old ≡ old)

-- all but the plan's words are written, or nothing
pub marked-given : (m : Marked) (old : List ℕ) → m.number ≡ 0 → progressed (progress_in m.counts m.used) old ≡ marked_after m old
unfolding marked_after
marked-given m old e = sym (pick_yes (eqb m.number 0) (progressed (progress_in m.counts m.used) old) old (eq-eqb m.number 0 e))

pub marked-kept : (m : Marked) (old : List ℕ) → m.number ≢ 0 → old ≡ marked_after m old
unfolding marked_after
marked-kept m old d = sym (pick_no (eqb m.number 0) (progressed (progress_in m.counts m.used) old) old (ne_eqb m.number 0 d))

pub progress_given : (t : Taken) (old : List ℕ) → t.number ≡ 0 → progressed (progress_of t.state) old ≡ progress_after t old
progress_given t old e = marked-given (marked_of t) old e

pub progress_kept : (t : Taken) (old : List ℕ) → t.number ≢ 0 → old ≡ progress_after t old
progress_kept t old d = marked-kept (marked_of t) old d

pub state_kept : (t : Taken) (old : List ℕ) → t.number ≢ 0 → old ≡ state_words_after t old
unfolding state_words_after
state_kept t old d = sym (pick_no (eqb t.number 0) (handed (intake_words t.state) old) old (ne_eqb t.number 0 d))

-- and that is all of the state, where the plan's words are there already
pub progress_state : (t : Taken) (old : List ℕ) → PlanThere t old → progress_after t old ≡ state_words_after t old
progress_state t old h = by (ℕ_discrete t.number 0)
  where
    by : Dec (t.number ≡ 0) → progress_after t old ≡ state_words_after t old
    by (yes e) = sym (progress_given t old e) ∙ state_progressed t.state old (h e).0.plan.gates (h e).0.plan.nodes (h e).0.used (h e).1 ∙ state_given t old e
    by (no d) = sym (progress_kept t old d) ∙ state_kept t old d

-- an accepted call through the state's words is the call of the state that they encode
pub passed : (ws : List ℕ) (t : Taken) (r : ℕ) (w : List ℕ)
    → r ≡ t.number
    → w ≡ progress_after t ws
    → PlanThere t ws
    → (r ≡ t.number) × (w ≡ state_words_after t ws)
passed ws t r w er ew p = (er, ew ∙ progress_state t ws p)

-- ---- an accepted call finds the words of its plan in the state's
answered-number : (n : ℕ) (s : Intake) (x : State) → (answered n s x).number ≡ n
answered-number n s x = by (ℕ_discrete n 0)
  where
    by : Dec (n ≡ 0) → (answered n s x).number ≡ n
    by (yes e) = rw (eq-eqb n 0 e) (sym e)
    by (no d) = rw (ne_eqb n 0 d)

answered-plan : (n : ℕ) (s : Intake) (x : State) → (answered n s x).state.plan ≡ s.plan
answered-plan n s x = by (eqb n 0)
  where
    by : (t : Bool) → (pick t (record { number = 0; state = with_state s.plan x }) (refused_with n s)).state.plan ≡ s.plan
    by true = refl
    by false = refl

answered_used : (n : ℕ) (s : Intake) (x : State) → length x.used ≡ most_gates → length s.used ≡ most_gates → length (answered n s x).state.used ≡ most_gates
answered_used n s x a b = by (eqb n 0)
  where
    by : (t : Bool) → length (pick t (record { number = 0; state = with_state s.plan x }) (refused_with n s)).state.used ≡ most_gates
    by true = a
    by false = b

-- an accepted call was given a state that stands, and keeps its plan
answered_there : (ws : List ℕ) (s : Intake) (n : ℕ) (x : State) (t : Taken) → s ≡ intake_of ws → t ≡ answered n s x → length x.used ≡ most_gates → (stands (setting_of s.plan) (state_of s) ≡ false → n ≡ 19)
    → PlanThere t ws
answered_there ws s n x t es et u f z = by (stands (setting_of s.plan) (state_of s)) refl
  where
    plan_same : t.state.plan ≡ (intake_of ws).plan
    plan_same = ap (λ (y : Taken). y.state.plan) et ∙ answered-plan n s x ∙ ap (λ (y : Intake). y.plan) es

    used_before : length s.used ≡ most_gates
    used_before = ap (λ (y : Intake). length y.used) es ∙ used_long ws

    by : (b : Bool) → stands (setting_of s.plan) (state_of s) ≡ b → Long t.state × (handed (plan_words t.state.plan) ws ≡ ws)
    by false e = absurd (omega (arith, f e, answered-number n s x, ap (λ (y : Taken). y.number) et, z))
    by true e = (
      record {
        plan = long_like (intake_of ws).plan t.state.plan (sym plan_same) (own_plan ws);
        used = ap (λ (y : Taken). length y.state.used) et ∙ answered_used n s x u used_before;
      },
      ap (λ (q : Plan). handed (plan_words q) ws) plan_same ∙ plan_there ws (ap (λ (y : Intake). plan_fault y.plan) (sym es) ∙ plan_fine s e),
    )

module _ (ws : List ℕ) (s : Intake) (t : Taken) (e : s ≡ intake_of ws) where
  still_long : length s.used ≡ most_gates
  still_long = ap (λ (y : Intake). length y.used) e ∙ used_long ws

  pub rows_there : (piece b : List ℕ) → t ≡ rows_answer s piece b → PlanThere t ws
  unfolding rows_answer
  rows_there piece b h = answered_there ws s (rows_number (setting_of s.plan) (state_of s) piece b) (rows_state (state_of s) piece) t e h (marked-long s.used (rows_of piece) ∙ still_long) (rows_19 s piece b)

  pub words_there : (piece b : List ℕ) → t ≡ s_words_answer s piece b → PlanThere t ws
  unfolding s_words_answer
  words_there piece b h = answered_there ws s (s_words_number (setting_of s.plan) (state_of s) piece b) (s_words_state (state_of s) piece) t e h still_long (words_19 s piece b)

  pub cells_there : (piece : List ℕ) (b : Cols) → t ≡ cells_answer s piece b → PlanThere t ws
  unfolding cells_answer
  cells_there piece b h = answered_there ws s (cells_number (setting_of s.plan) (state_of s) piece b) (cells_state (state_of s) piece) t e h still_long (cells_19 s piece b)

  pub tables_there : (piece b : List ℕ) → t ≡ tables_answer s piece b → PlanThere t ws
  unfolding tables_answer
  tables_there piece b h = answered_there ws s (tables_number (setting_of s.plan) (state_of s) piece b) (tables_state (state_of s) piece) t e h still_long (tables_19 s piece b)

  pub finish_there : (b : Cols) → t ≡ finish_answer s b → PlanThere t ws
  unfolding finish_answer
  finish_there b h = answered_there ws s (finish_number (setting_of s.plan) (state_of s) b) (finished_state (state_of s)) t e h still_long (finish_19 s b)

-- ---- the calls on the parts that stand in the words
module _ (ws : List ℕ) (h : Held) (e : h ≡ held_at ws) (f : h.fits ≡ true) where
  there : Holds ws h
  there = holds ws h e f

  -- the state that the words encode, and it without its marks
  abbrev it : Intake
  it = intake_of ws

  abbrev parts : List ℕ → Intake
  parts us = intake_in h.outline (gates_in ws) (nodes_in ws) h.counts us

  bare_parts : parts [] ≡ bare it
  bare_parts = ap bare there.parts

  marks_are : it.used ≡ marks_at ws
  marks_are = sym (ap (λ (s : Intake). s.used) there.parts)

  -- what such a call gave back, with the state's plan and marks, is the call's answer
  pub given_back : (g : Given) (t : Taken) (r : ℕ) (w : List ℕ) → t ≡ counted it g → r ≡ g.number → w ≡ counted_after g ws → PlanThere t ws
      → (r ≡ t.number) × (w ≡ state_words_after t ws)
  given_back g t r w et er ew p =
      let m : marked_with g.number g.counts (marks_at ws) ≡ marked_of t = ap (λ (us : List ℕ). marked_with g.number g.counts us) (sym marks_are) ∙ ap marked_of (sym et) in
      passed ws t r w (er ∙ ap (λ (x : Taken). x.number) (sym et)) (ew ∙ ap (λ (x : Marked). marked_after x ws) m) p

  pub words_back : (piece b : List ℕ) (g : Given) (r : ℕ) (w a : List ℕ) → g ≡ given_of (s_words_answer (parts []) piece b) → a ≡ s_words_left (parts []) piece b → r ≡ g.number → w ≡ counted_after g ws
      → (r ≡ (s_words_answer it piece b).number) × ((w ≡ state_words_after (s_words_answer it piece b) ws) × (a ≡ s_words_left it piece b))
  words_back piece b g r w a eg ea er ew =
      let k = words_whole it piece b in
      let t : s_words_answer it piece b ≡ counted it g = sym (ap (counted it) (eg ∙ ap (λ (s : Intake). given_of (s_words_answer s piece b)) bare_parts) ∙ k.0) in
      let d = given_back g (s_words_answer it piece b) r w t er ew (words_there ws it (s_words_answer it piece b) refl piece b refl) in
      (d.0, (d.1, ea ∙ ap (λ (s : Intake). s_words_left s piece b) bare_parts ∙ k.1))

  pub cells_back : (piece : List ℕ) (b : Cols) (g : Given) (r : ℕ) (w : List ℕ) (a : Cols) → g ≡ given_of (cells_answer (parts []) piece b) → a ≡ cells_left (parts []) piece b → r ≡ g.number → w ≡ counted_after g ws
      → (r ≡ (cells_answer it piece b).number) × ((w ≡ state_words_after (cells_answer it piece b) ws) × (a ≡ cells_left it piece b))
  cells_back piece b g r w a eg ea er ew =
      let k = cells_whole it piece b in
      let t : cells_answer it piece b ≡ counted it g = sym (ap (counted it) (eg ∙ ap (λ (s : Intake). given_of (cells_answer s piece b)) bare_parts) ∙ k.0) in
      let d = given_back g (cells_answer it piece b) r w t er ew (cells_there ws it (cells_answer it piece b) refl piece b refl) in
      (d.0, (d.1, ea ∙ ap (λ (s : Intake). cells_left s piece b) bare_parts ∙ k.1))

  pub tables_back : (piece b : List ℕ) (g : Given) (r : ℕ) (w a : List ℕ) → g ≡ given_of (tables_answer (parts []) piece b) → a ≡ tables_left (parts []) piece b → r ≡ g.number → w ≡ counted_after g ws
      → (r ≡ (tables_answer it piece b).number) × ((w ≡ state_words_after (tables_answer it piece b) ws) × (a ≡ tables_left it piece b))
  tables_back piece b g r w a eg ea er ew =
      let k = tables_whole it piece b in
      let t : tables_answer it piece b ≡ counted it g = sym (ap (counted it) (eg ∙ ap (λ (s : Intake). given_of (tables_answer s piece b)) bare_parts) ∙ k.0) in
      let d = given_back g (tables_answer it piece b) r w t er ew (tables_there ws it (tables_answer it piece b) refl piece b refl) in
      (d.0, (d.1, ea ∙ ap (λ (s : Intake). tables_left s piece b) bare_parts ∙ k.1))

  -- where the marks are read and lent too
  whole_parts : (us : List ℕ) → us ≡ marks_read ws → parts us ≡ it
  whole_parts us u = ap parts (u ∙ there.marks) ∙ there.parts

  pub finish_back : (us : List ℕ) → us ≡ marks_read ws → (b : Cols) (g : Given) (r : ℕ) (w a : List ℕ) → g ≡ given_of (finish_answer (parts us) b) → a ≡ finish_left (parts us) b → r ≡ g.number → w ≡ counted_after g ws
      → (r ≡ (finish_answer it b).number) × ((w ≡ state_words_after (finish_answer it b) ws) × (a ≡ finish_left it b))
  finish_back us u b g r w a eg ea er ew =
      let t : finish_answer it b ≡ counted it g = sym (ap (counted it) (eg ∙ ap (λ (s : Intake). given_of (finish_answer s b)) (whole_parts us u)) ∙ finish_whole it b) in
      let d = given_back g (finish_answer it b) r w t er ew (finish_there ws it (finish_answer it b) refl b refl) in
      (d.0, (d.1, ea ∙ ap (λ (s : Intake). finish_left s b) (whole_parts us u)))

  pub rows_back : (us : List ℕ) → us ≡ marks_read ws → (piece b : List ℕ) (m : Marked) (r : ℕ) (w a : List ℕ) → m ≡ marked_of (rows_answer (parts us) piece b) → a ≡ rows_left (parts us) piece b → r ≡ m.number → w ≡ marked_after m ws
      → (r ≡ (rows_answer it piece b).number) × ((w ≡ state_words_after (rows_answer it piece b) ws) × (a ≡ rows_left it piece b))
  rows_back us u piece b m r w a em ea er ew =
      let k : m ≡ marked_of (rows_answer it piece b) = em ∙ ap (λ (s : Intake). marked_of (rows_answer s piece b)) (whole_parts us u) in
      let d = passed ws (rows_answer it piece b) r w (er ∙ ap (λ (x : Marked). x.number) k) (ew ∙ ap (λ (x : Marked). marked_after x ws) k) (rows_there ws it (rows_answer it piece b) refl piece b refl) in
      (d.0, (d.1, ea ∙ ap (λ (s : Intake). rows_left s piece b) (whole_parts us u)))

-- words that hold no state: 19, and nothing is written
module _ (ws : List ℕ) (h : Held) (e : h ≡ held_at ws) (f : h.fits ≡ false) where
  abbrev made_up : Intake
  made_up = intake_of ws

  falls : stands (setting_of made_up.plan) (state_of made_up) ≡ false
  falls = falls_plan made_up (none_fault ws h e f)

  refused_back : {B : Type 0} (t : Taken) (b a : B) → (refused_with 19 made_up ≡ t) × (b ≡ a) → (19 ≡ t.number) × ((ws ≡ state_words_after t ws) × (b ≡ a))
  refused_back t b a k =
      let n = ap (λ (x : Taken). x.number) k.0 in
      (n, (state_kept t ws (λ z. omega (arith, n, z)), k.1))

  pub rows_none : (piece b : List ℕ) → (19 ≡ (rows_answer made_up piece b).number) × ((ws ≡ state_words_after (rows_answer made_up piece b) ws) × (b ≡ rows_left made_up piece b))
  rows_none piece b = refused_back (rows_answer made_up piece b) b (rows_left made_up piece b) (rows_refused made_up piece b 19 (rows_19 made_up piece b falls) (λ z. omega arith))

  pub words-none : (piece b : List ℕ) → (19 ≡ (s_words_answer made_up piece b).number) × ((ws ≡ state_words_after (s_words_answer made_up piece b) ws) × (b ≡ s_words_left made_up piece b))
  words-none piece b = refused_back (s_words_answer made_up piece b) b (s_words_left made_up piece b) (words_refused made_up piece b 19 (words_19 made_up piece b falls) (λ z. omega arith))

  pub cells_none : (piece : List ℕ) (b : Cols) → (19 ≡ (cells_answer made_up piece b).number) × ((ws ≡ state_words_after (cells_answer made_up piece b) ws) × (b ≡ cells_left made_up piece b))
  cells_none piece b = refused_back (cells_answer made_up piece b) b (cells_left made_up piece b) (cells_refused made_up piece b 19 (cells_19 made_up piece b falls) (λ z. omega arith))

  pub tables-none : (piece b : List ℕ) → (19 ≡ (tables_answer made_up piece b).number) × ((ws ≡ state_words_after (tables_answer made_up piece b) ws) × (b ≡ tables_left made_up piece b))
  tables-none piece b = refused_back (tables_answer made_up piece b) b (tables_left made_up piece b) (tables_refused made_up piece b 19 (tables_19 made_up piece b falls) (λ z. omega arith))

  pub finish_none : (b : Cols) → (19 ≡ (finish_answer made_up b).number) × ((ws ≡ state_words_after (finish_answer made_up b) ws) × (b.copies ≡ finish_left made_up b))
  finish_none b = refused_back (finish_answer made_up b) b.copies (finish_left made_up b) (finish_refused made_up b 19 (finish_19 made_up b falls) (λ z. omega arith))

-- ---- opening
-- the state that opening hands back has a state's words
opened_long : (q : Plan) (b : Store) → length q.gates ≡ gate_slots → length q.nodes ≡ node_slots → length (intake_words (open_answer q b).state) ≡ state_length
unfolding open_answer
opened_long q b g n = by (eqb (open_number (setting_of q) b) 0)
  where
    by : (t : Bool) → length (intake_words (pick t (record { number = 0; state = with_state q open_state }) (refused_with (open_number (setting_of q) b) (with_state zero_plan zero_state))).state) ≡ state_length
    by true = state-length (with_state q open_state) g n refl
    by false = state-length (with_state zero_plan zero_state) refl refl refl

-- a made_up plan is 19 and writes nothing
open_fault : (q : Plan) (b : Store) → plan_fault q ≢ 0 → (19 ≡ (open_answer q b).number) × (b ≡ open_left q b)
open_fault q b d =
    let k = open_refused q b 19 (open_19 q b d) (λ z. omega arith) in
    (ap (λ (x : Taken). x.number) k.0, k.1)

-- where the state has room the number is the opening's own: 19 comes first there too
own_number : (q : Plan) (b : Store) → (open_answer q b).number ≡ pick (eqb (plan_fault q) 0) (open_answer q b).number 19
own_number q b = by (ℕ_discrete (plan_fault q) 0)
  where
    by : Dec (plan_fault q ≡ 0) → (open_answer q b).number ≡ pick (eqb (plan_fault q) 0) (open_answer q b).number 19
    by (yes z) = sym (pick_yes (eqb (plan_fault q) 0) (open_answer q b).number 19 (eq-eqb (plan_fault q) 0 z))
    by (no d) = sym (open_fault q b d).0 ∙ sym (pick_no (eqb (plan_fault q) 0) (open_answer q b).number 19 (ne_eqb (plan_fault q) 0 d))

module _ (ws state : List ℕ) (b : Store) where
  abbrev q : Plan
  q = plan_of ws

  short_state : length state < state_length → (state ≡ opened_state ws state b) × (b ≡ opened_store ws state b)
  unfolding opened_state opened_store
  short_state h =
      let k : length state < length (intake_words (open_answer q b).state) = omega (arith, opened_long q b (plan-long ws).gates (plan-long ws).nodes) in (
        handed_short (intake_words (open_answer q b).state) state k,
        sym (pick_no (leb state_length (length state)) (open_left q b) b (lt-leb state_length (length state) h)),
      )

  pub open_short : plan_fault q ≡ 0 → length state < state_length → (10 ≡ open_call ws state b) × ((state ≡ opened_state ws state b) × (b ≡ opened_store ws state b))
  unfolding open_call
  open_short f h = (
    sym (pick_yes (eqb (plan_fault q) 0) _ 19 (eq-eqb (plan_fault q) 0 f) ∙ pick_no (leb state_length (length state)) (open_answer q b).number 10 (lt-leb state_length (length state) h)),
    short_state h,
  )

  pub open_made-up : plan_fault q ≢ 0 → length state < state_length → (19 ≡ open_call ws state b) × ((state ≡ opened_state ws state b) × (b ≡ opened_store ws state b))
  unfolding open_call
  open_made-up f h = (sym (pick_no (eqb (plan_fault q) 0) _ 19 (ne_eqb (plan_fault q) 0 f)), short_state h)

  -- the state's words are those of the state that opening hands back: a refused one is of zeros, and the words of an accepted plan are its own
  words_refused_opening : (r : ℕ) → open_number (setting_of q) b ≡ r → r ≢ 0 → opened_words r ws state ≡ opened_state ws state b
  unfolding opened_words opened_state
  words_refused_opening r e d =
      pick_no (eqb r 0) _ (handed (replicate state_length 0) state) (ne_eqb r 0 d)
      ∙ ap (λ (t : Taken). handed (intake_words t.state) state) (open_refused q b r e d).0

  words-opening : state_length ≤ length state → open_number (setting_of q) b ≡ 0 → opened_words 0 ws state ≡ opened_state ws state b
  unfolding opened_words opened_state
  words-opening h e =
      let f : plan_fault q ≡ 0 = by (ℕ_discrete (plan_fault q) 0) in
      state_written (with_state q open_state) state (plan-long ws).gates (plan-long ws).nodes refl h (handed ws state) (ap (λ (l : List ℕ). handed l state) (sym (sound_again ws f)))
      ∙ ap (λ (t : Taken). handed (intake_words t.state) state) (open_taken q b e).0
    where
      by : Dec (plan_fault q ≡ 0) → plan_fault q ≡ 0
      by (yes z) = z
      by (no d) = absurd (omega (arith, open_19 q b d, e))

  pub open_given : state_length ≤ length state → (r : ℕ) (w : List ℕ) (a : Store)
      → r ≡ open_number (setting_of q) b
      → w ≡ opened_words r ws state
      → a ≡ open_left q b
      → (r ≡ open_call ws state b) × ((w ≡ opened_state ws state b) × (a ≡ opened_store ws state b))
  unfolding open_call opened_store
  open_given h r w a er ew ea =
      let l = le-leb state_length (length state) h in (
        er
            ∙ own_opening
            ∙ own_number q b
            ∙ ap (λ (k : ℕ). pick (eqb (plan_fault q) 0) k 19) (sym (pick_yes (leb state_length (length state)) (open_answer q b).number 10 l)),
        (
          ew ∙ by (ℕ_discrete r 0),
          ea ∙ sym (pick_yes (leb state_length (length state)) (open_left q b) b l),
        ),
      )
    where
      by : Dec (r ≡ 0) → opened_words r ws state ≡ opened_state ws state b
      by (yes z) = ap (λ (k : ℕ). opened_words k ws state) z ∙ words-opening h (sym er ∙ z)
      by (no d) = words_refused_opening r (sym er) d

      own_opening : open_number (setting_of q) b ≡ (open_answer q b).number
      own_opening = opening-number (ℕ_discrete (open_number (setting_of q) b) 0)
        where
          opening-number : Dec (open_number (setting_of q) b ≡ 0) → open_number (setting_of q) b ≡ (open_answer q b).number
          opening-number (yes z) = z ∙ ap (λ (t : Taken). t.number) (open_taken q b z).0
          opening-number (no d) = ap (λ (t : Taken). t.number) (open_refused q b _ refl d).0

  -- words that hold no plan are 19, whatever room the state has
  pub open_none : plan_fault q ≢ 0 → (w : List ℕ) → w ≡ opened_words 19 ws state → (19 ≡ open_call ws state b) × ((w ≡ opened_state ws state b) × (b ≡ opened_store ws state b))
  unfolding open_call opened_store
  open_none f w e = (
    sym (pick_no (eqb (plan_fault q) 0) _ 19 (ne_eqb (plan_fault q) 0 f)),
    (
      e ∙ words_refused_opening 19 (open_19 q b f) (λ z. omega arith),
      by (leb state_length (length state)),
    ),
  )
    where
      by : (t : Bool) → b ≡ pick t (open_left q b) b
      by true = (open_fault q b f).1
      by false = refl

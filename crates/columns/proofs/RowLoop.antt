-- The loops over the records of a rows piece: the records that are left, from the present row on, give what the whole piece gives. Assumes nothing.
use mathlib.Core.Path.{◌≡◌, refl, sym, ap, ◌∙◌}
use mathlib.Core.Logic.{◌≢◌}
use mathlib.Core.List.{List, [], ◌∷◌}
use Prim.Native.Nat.{ℕ, suc, ◌+◌, ◌-◌, ◌≤◌, ◌<◌}
use native.Mathlib.Numerals.{add-one}
use native.Mathlib.Decide.{ℕ_discrete}
use native.Mathlib.Omega.{arith}
use lib.ListN.{length, get_or, set, take, drop, length-drop}
use borrow.Author.Tests.{eq-eqb, ne_eqb}
use lib.Dec.{eqb}
use mathlib.Core.Bool.{Bool, true, false}
use Rattle.base.specs.Pick.{pick}
use Rattle.pieces.specs.Setting.{barred}
use Rattle.pieces.specs.Records.{Read, whole, row_size, rows_of, first_fault}
use Rattle.pieces.specs.Front.{front}
use Rattle.pieces.specs.Rows.{Gates, gates_of, row_fault, rows_fault, marked}
use Rattle.pieces.specs.RecordLaws.{Rest, fault_here, fault_later, read_fuel, rest_whole, rest_done, rest-front}
use Rattle.pieces.proofs.FaultLaws.{RowFine, Alike, row_good, rows_alike}
use Rattle.pieces.proofs.LineLaws.{marks_turn, marks_done}
use Rattle.tree.specs.Answers.{rows_told}
use Rattle.tree.specs.Plan.{gate_rows_answer, gate_rows_of, no_gate_rows, plan_fault, plan_path}
use Rattle.tree.specs.SoundLaws.{sound, gate-words, gates-many}
use Rattle.tree.specs.declared.gate_rows.GateRows.{GateRows}
use Rattle.tree.specs.declared.plan.Plan.{Plan}
use Rattle.refusal.specs.Refusal.{refusal_number}
use Rattle.refusal.specs.declared.Refusal.{Refusal}
use Rattle.refusal.proofs.Passing.{refusal_nonzero}
use Rattle.columns.specs.Intake.{setting_of}
use Rattle.columns.specs.Placed.{told_by, Spells, Fits}

-- the records from place i on
left : (piece : List ℕ) (i : ℕ) → Rest row_size piece i (rows_of (drop i piece))
unfolding rows_of
left piece i = record { turns = length (drop i piece); enough = omega (arith, length-drop i piece); are = refl }

-- the one at the front, which is whole, and those after it
left_split : (piece : List ℕ) (i : ℕ) → i + 1 < length piece → get_or piece (i + 1) 0 ≤ length piece - (i + 2)
    → rows_of (drop i piece) ≡ whole (get_or piece i 0) (get_or piece (i + 1) 0) (take (get_or piece (i + 1) 0) (drop (i + 2) piece)) ∷ rows_of (drop (i + 2 + get_or piece (i + 1) 0) piece)
unfolding rows_of
left_split piece i two fits =
    let next = rest_whole row_size piece i (rows_of (drop i piece)) (left piece i) two fits in
    let r = next.rest in
    let k = i + 2 + get_or piece (i + 1) 0 in
    next.split ∙ ap (λ (l : List Read). whole (get_or piece i 0) (get_or piece (i + 1) 0) (take (get_or piece (i + 1) 0) (drop (i + 2) piece)) ∷ l)
    (r.are ∙ read_fuel row_size r.turns (length (drop k piece)) (drop k piece) (omega (arith, r.enough, length-drop k piece)) (omega arith))

-- ---- a walk that meets nothing wrong: it has come from row `row₀` at the front of the piece, with the marks `used₀`, to row `row` at place i with the marks
-- `used`, and the records that are left there decide what all of them decide
module _ (gs : Gates) (trace : ℕ) (piece used₀ : List ℕ) (row₀ : ℕ) where
  pub record Passed (used : List ℕ) (row i : ℕ) : Type 0 where
    pub within : i ≤ length piece
    pub low : row ≤ trace
    pub fault : rows_fault gs trace row₀ (rows_of piece) ≡ rows_fault gs trace row (rows_of (drop i piece))
    pub counted : row₀ + length (rows_of piece) ≡ row + length (rows_of (drop i piece))
    pub marks : marked used₀ (rows_of piece) ≡ marked used (rows_of (drop i piece))

  pub passed_none : row₀ ≤ trace → Passed used₀ row₀ 0
  passed_none low = record { within = omega arith; low = low; fault = refl; counted = refl; marks = refl }

  module _ (used : List ℕ) (row i : ℕ) (w : Passed used row i) where
    abbrev g : ℕ
    g = get_or piece i 0

    abbrev n : ℕ
    n = get_or piece (i + 1) 0

    abbrev cs : List ℕ
    cs = take n (drop (i + 2) piece)

    -- one record further
    pub passed-next : i + 1 < length piece → n ≤ length piece - (i + 2) → RowFine gs trace row g n cs → Passed (set used g 1) (row + 1) (i + 2 + n)
    passed-next two fits fine =
        let later = rows_of (drop (i + 2 + n) piece) in
        let split = left_split piece i two fits in
        record {
          within = omega arith;
          low = omega (arith, fine.room);
          fault = w.fault ∙ ap (rows_fault gs trace row) split ∙ rw (add-one row) (fault_later (row_fault gs trace) (λ r _. suc r) row (whole g n cs) later (row_good gs trace row g n cs fine));
          counted = omega (arith, w.counted, ap length split);
          marks = w.marks ∙ ap (marked used) split ∙ marks_turn used g n cs later;
        }

    -- the record at the front has a fault: it is the first one
    pub passed-found : i < length piece → row_fault gs trace row (front row_size (drop i piece)) ≢ 0
        → rows_fault gs trace row₀ (rows_of piece) ≡ row_fault gs trace row (front row_size (drop i piece))
    passed-found h d =
        let f = rest-front row_size piece i (rows_of (drop i piece)) (left piece i) h in
        w.fault ∙ ap (rows_fault gs trace row) f.1 ∙ fault_here (row_fault gs trace) (λ r _. suc r) row (front row_size (drop i piece)) f.0 d

    -- nothing is left
    module _ (h : length piece ≤ i) where
      none : rows_of (drop i piece) ≡ []
      none = rest_done row_size piece i (rows_of (drop i piece)) (left piece i) h

      pub passed_fine : rows_fault gs trace row₀ (rows_of piece) ≡ 0
      unfolding first_fault
      passed_fine = w.fault ∙ ap (rows_fault gs trace row) none

      pub passed_count : row ≡ row₀ + length (rows_of piece)
      passed_count = omega (arith, w.counted, ap length none)

      pub passed_marks : used ≡ marked used₀ (rows_of piece)
      passed_marks = sym (w.marks ∙ ap (marked used) none ∙ marks_done used)

-- ---- the gates of a sound plan, as its own answer has them
pub record GatesOf (q : Plan) (r : GateRows) : Type 0 where
  pub alike : Alike (told_by r) (gates_of (setting_of q))
  pub spells_paths : Spells r.many (plan_path q) r.bits r.steps
  pub room : Fits (told_by r) q.constants r.steps

-- a mark is 1 just where the rows are turned away
marked_bar : (t : Bool) → eqb (pick t 1 0) 1 ≡ t
marked_bar true = refl
marked_bar false = refl

pub gates-of : (q : Plan) (r : GateRows) → plan_fault q ≡ 0 → r ≡ rows_told (gate_rows_answer q) → GatesOf q r
gates-of q r e a =
    let w = gate-words q e r a in
    let m = gates-many q e r a in
    let listed : (g : ℕ) → g < r.many → g < q.gate_count = λ g h. omega (arith, m) in
    record {
      alike = record { many_same = m; own_same = λ g h. (w g (listed g h)).own; bar_same = λ g h. ap (λ (k : ℕ). eqb k 1) (w g (listed g h)).barred ∙ marked_bar (barred (setting_of q) g) };
      spells_paths = record { spells = λ g h. (w g (listed g h)).path };
      room = record { fits = λ g h. let k = listed g h in omega (arith, (w g k).path.steps_are, (w g k).own, (sound q e).fits g k) };
    }

-- its number is 19 or 0, and 0 just where the plan has no fault
rows-number : (q : Plan) → (gate_rows_answer q).number ≡ pick (eqb (plan_fault q) 0) 0 19
unfolding gate_rows_answer
rows-number q = by (eqb (plan_fault q) 0)
  where
    by : (t : Bool) → (pick t (gate_rows_of q) no_gate_rows).number ≡ pick t 0 19
    by true = refl
    by false = refl

pub gates-sound : (q : Plan) → 0 ≡ (gate_rows_answer q).number → plan_fault q ≡ 0
gates-sound q e = go (ℕ_discrete (plan_fault q) 0)
  where
    go : Dec (plan_fault q ≡ 0) → plan_fault q ≡ 0
    go (yes f) = f
    go (no d) =
        let n : (gate_rows_answer q).number ≡ 19 = rows-number q ∙ rw (ne_eqb (plan_fault q) 0 d) in
        absurd (omega (arith, e, n))

pub gates_refused : (q : Plan) (r : Refusal) → refusal_number r ≡ (gate_rows_answer q).number → (plan_fault q ≢ 0) × (refusal_number r ≡ 19)
gates_refused q r e = (fault, e ∙ rows-number q ∙ rw (ne_eqb (plan_fault q) 0 fault))
  where
    fault : plan_fault q ≢ 0
    fault z =
        let n : (gate_rows_answer q).number ≡ 0 = rows-number q ∙ rw (eq-eqb (plan_fault q) 0 z) in
        refusal_nonzero r (e ∙ n)

-- so that the test of rows is the plan's
pub gates_fault : (q : Plan) (r : GateRows) → GatesOf q r → (N count : ℕ) (ts : List Read) → rows_fault (told_by r) N count ts ≡ rows_fault (gates_of (setting_of q)) N count ts
gates_fault q r g = rows_alike (told_by r) (gates_of (setting_of q)) g.alike

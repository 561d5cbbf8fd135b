-- A list of calls in one exported call leaves what its calls leave, made one by one: every word of the state, of the four buffers and of the numbers. So the claim
-- holds of it too.
--
-- Main statements: `calls_carried`, `numbers_carried`, `calls_right`, `calls_20`, `calls_10`.
use Rattle.std.specs.Prelude.{◌+◌, ◌<◌, ◌≤◌, suc, ℕ, leb, drop, get_or, length, set, take, List, [], ◌++◌, ◌∷◌, ◌≢◌, ◌≡◌, refl}
use Rattle.std.proofs.Common.{le-leb, le-ltb, lt-ltb, length-append, take-append-drop, drop-cons, drop-drop, length-take-le, take_at, append-nil, ◌∙◌, ap, subst, sym, zero-add, add-one, arith}
use Rattle.std.proofs.Math.Seq.{drop-length}
use Rattle.std.proofs.lemmas.List.Edits.{sets, sets-eq}
use Rattle.std.proofs.Math.Option.{Option, none, some}
use Rattle.std.proofs.Math.Decide.{ℕ_discrete}
use Rattle.base.specs.Pick.{pick_yes}
use Rattle.calls.specs.Encoded.{Ran, calls_of, numbered, ran_by, untouched}
use Rattle.capi.specs.Calls.{list_after}
use Rattle.capi.specs.CallsLaws.{list_given, list_kept}
use Rattle.capi.specs.Intake.{state_words_after}
use Rattle.capi.proofs.IntakeLaws.{PlanThere, cells_there, finish_there, progress_given, progress_kept, progress_state, rows_there, state_kept, tables_there, words_there}
use Rattle.claim.specs.Chain.{Kept, answer, chained}
use Rattle.claim.specs.Statement.{Right, setting_for}
use Rattle.columns.specs.declared.intake.Intake.{Intake}
use Rattle.columns.specs.Intake.{Taken}
use Rattle.parameters.specs.Parameters.{parameter_words, parameters_at}
use Rattle.encoding.specs.Encoding.{counts_from, intake_of, phase_at, plan_length, progress_length, progress_of, progressed, state_length, used_from}
use Rattle.encoding.proofs.EncodingLaws.{state_read}
use Rattle.pieces.specs.Calls.{Call, cell_words, finishing, rows, s_words, table_words}
use Rattle.pieces.specs.Setting.{Store}
use Rattle.base.specs.Limits.{most_gates}
use Rattle.carried.proofs.Carried.{other_state}
use Rattle.carried.specs.Exported.{AcceptsFinish, Lent, answer_to, called_by, call_numbers, circuit_of, exported, exported_all, exported_number, exported_numbers, opened_by}
use Rattle.carried.proofs.Lists.{answer_same, call_carried, decoded, exported_right, list_carried}

abbrev lent : List ℕ → Store → Lent
lent ws b = record { words = ws; store = b }

-- ---- the words of a state behind those of its plan
over : (new ws : List ℕ) → length ws ≡ state_length → progressed new ws ≡ take plan_length ws ++ new
over new ws e =
    let l : state_length ≤ length ws = omega arith in
    let d : drop state_length ws ≡ [] = ap (λ (j : ℕ). drop j ws) (sym e) ∙ drop-length ws in
    pick_yes (leb state_length (length ws)) (take plan_length ws ++ (new ++ drop state_length ws)) ws (le-leb state_length (length ws) l)
    ∙ ap (λ (r : List ℕ). take plan_length ws ++ (new ++ r)) d
    ∙ ap (λ (r : List ℕ). take plan_length ws ++ r) (append-nil new)

-- those that were decoded are the words themselves
word : (ws : List ℕ) (i : ℕ) (rest : List ℕ) → i < length ws → rest ≡ drop (suc i) ws → get_or ws i 0 ∷ rest ≡ drop i ws
word ws i rest h e = ap (λ (l : List ℕ). get_or ws i 0 ∷ l) e ∙ sym (drop-cons ws i 0 h)

marks : (ws : List ℕ) (i n : ℕ) (rest : List ℕ) → rest ≡ drop (i + n) ws → take n (drop i ws) ++ rest ≡ drop i ws
marks ws i n rest e = ap (λ (l : List ℕ). take n (drop i ws) ++ l) (e ∙ sym (drop-drop n i ws)) ∙ take-append-drop n (drop i ws)

own_progress : (ws : List ℕ) → length ws ≡ state_length → progress_of (intake_of ws) ≡ drop plan_length ws
own_progress ws e =
    let ends : [] ≡ drop state_length ws = sym (ap (λ (j : ℕ). drop j ws) (sym e) ∙ drop-length ws) in
    ap progress_of (sym (state_read ws e))
    ∙ word ws counts_from _ (omega arith)
    (word ws (counts_from + 1) _ (omega arith)
    (word ws (counts_from + 2) _ (omega arith)
    (word ws (counts_from + 3) _ (omega arith) (word ws (counts_from + 4) _ (omega arith) (marks ws used_from most_gates _ (word ws phase_at [] (omega arith) ends))))))

progress_long : (s : Intake) → length s.used ≡ most_gates → length (progress_of s) ≡ progress_length
progress_long s u =
    let a = length-append s.used (s.counts.phase ∷ []) in
    omega (arith, a, u)

-- ---- one call
there : (c : Call) (k : Lent) → PlanThere (answer_to c k) k.words
unfolding answer_to
there (rows ws) k = rows_there k.words (intake_of k.words) _ refl ws k.store.constants refl
there (s_words ws) k = words_there k.words (intake_of k.words) _ refl ws k.store.constants refl
there (cell_words ws) k = cells_there k.words (intake_of k.words) _ refl ws k.store.cells refl
there (table_words ws) k = tables_there k.words (intake_of k.words) _ refl ws k.store.tables refl
there finishing k = finish_there k.words (intake_of k.words) _ refl k.store.cells refl

-- it leaves as many words, and those of the plan
pub record Same (old new : List ℕ) : Type 0 where
  pub many : length new ≡ state_length
  pub plan : take plan_length new ≡ take plan_length old

same_after : (c : Call) (k : Lent) → length k.words ≡ state_length → Same k.words (exported c k).words
same_after c k e = by (ℕ_discrete (answer_to c k).number 0)
  where
    t : Taken
    t = answer_to c k

    ws : List ℕ
    ws = k.words

    like : (x y : List ℕ) → x ≡ y → Same ws y → Same ws x
    like x y p s = subst (Same ws) (sym p) s

    by : Dec ((answer_to c k).number ≡ 0) → Same k.words (exported c k).words
    by (no d) = like (state_words_after t ws) ws (sym (state_kept t ws d)) (record { many = e; plan = refl })
    by (yes z) =
        let l : length (take plan_length ws) ≡ plan_length = length-take-le plan_length ws (omega arith) in
        like (state_words_after t ws) (take plan_length ws ++ progress_of t.state) (sym (progress_state t ws (there c k)) ∙ sym (progress_given t ws z) ∙ over (progress_of t.state) ws e)
        (record {
          many = omega (arith, l, length-append (take plan_length ws) (progress_of t.state), progress_long t.state (there c k z).0.used);
          plan = take_at (take plan_length ws) (progress_of t.state) plan_length l;
        })

-- words that are not as many as a state has stay as they were
none-answer : (c : Call) (k : Lent) → length k.words ≢ state_length → exported_number c k ≡ 19
unfolding answer_to
none-answer (rows ws) k d = (other_state k.words d).rows ws k.store.constants
none-answer (s_words ws) k d = (other_state k.words d).s-words ws k.store.constants
none-answer (cell_words ws) k d = (other_state k.words d).cells ws k.store.cells
none-answer (table_words ws) k d = (other_state k.words d).tables ws k.store.tables
none-answer finishing k d = (other_state k.words d).finish k.store.cells

none_after : (c : Call) (k : Lent) → length k.words ≢ state_length → (exported c k).words ≡ k.words
none_after c k d = sym (state_kept (answer_to c k) k.words (λ z. omega (arith, z, none-answer c k d)))

-- ---- every list
words_all : (cs : List Call) (k : Lent) → length k.words ≡ state_length → (exported_all cs k).words ≡ take plan_length k.words ++ progress_of (chained cs (decoded k)).state
unfolding exported_all chained
words_all [] k e = sym (ap (λ (l : List ℕ). take plan_length k.words ++ l) (own_progress k.words e) ∙ take-append-drop plan_length k.words)
words_all (c ∷ cs) k e =
    let s = same_after c k e in
    words_all cs (exported c k) s.many
    ∙ ap (λ (l : List ℕ). l ++ progress_of (chained cs (decoded (exported c k))).state) s.plan
    ∙ ap (λ (h : Kept). take plan_length k.words ++ progress_of (chained cs h).state) (call_carried c k)

words-none : (cs : List Call) (k : Lent) → length k.words ≢ state_length → (exported_all cs k).words ≡ k.words
unfolding exported_all
words-none [] k d = refl
words-none (c ∷ cs) k d =
    let e = none_after c k d in
    words-none cs (exported c k) (λ z. d (ap length (sym e) ∙ z)) ∙ e

abbrev ended : List Call → Lent → Taken
ended cs k = record { number = 0; state = (chained cs (decoded k)).state }

words-run : (cs : List Call) (k : Lent) → list_after (ended cs k) k.words ≡ (exported_all cs k).words
words-run cs k = by (ℕ_discrete (length k.words) state_length)
  where
    by : Dec (length k.words ≡ state_length) → list_after (ended cs k) k.words ≡ (exported_all cs k).words
    by (yes e) =
        sym (list_given (ended cs k) k.words e) ∙ sym (progress_given (ended cs k) k.words refl) ∙ over (progress_of (chained cs (decoded k)).state) k.words e ∙ sym (words_all cs k e)
    by (no d) = sym (list_kept (ended cs k) k.words d) ∙ sym (words-none cs k d)

numbers_run : (cs : List Call) (k : Lent) (i : ℕ) (ns : List ℕ) → numbered cs (decoded k) i ns ≡ sets ns i (exported_numbers cs k)
unfolding numbered exported_numbers
numbers_run [] k i ns = refl
numbers_run (c ∷ cs) k i ns =
    let n = exported c k in
    ap (λ (h : Kept). numbered cs h (i + 1) (set ns i (answer c (decoded k)).number)) (sym (call_carried c k))
    ∙ ap (λ (t : Taken). numbered cs (decoded n) (i + 1) (set ns i t.number)) (sym (answer_same c k))
    ∙ ap (λ (j : ℕ). numbered cs (decoded n) j (set ns i (exported_number c k))) (add-one i)
    ∙ numbers_run cs n (suc i) (set ns i (exported_number c k))

numbers_many : (cs : List Call) (k : Lent) → length (exported_numbers cs k) ≡ length cs
unfolding exported_numbers
numbers_many [] k = refl
numbers_many (c ∷ cs) k = ap suc (numbers_many cs (exported c k))

-- ---- a whole list, with room for the numbers
module _ (list ns : List ℕ) (cs : List Call) (whole : calls_of list ≡ some cs) (room : length cs ≤ length ns) where
  module _ (k : Lent) where
    ran : ran_by (calls_of list) (decoded k) ns ≡ record { answer = ended cs k; store = (chained cs (decoded k)).store; numbers = numbered cs (decoded k) 0 ns }
    ran = ap (λ (o : Option (List Call)). ran_by o (decoded k) ns) whole ∙ rw (le-ltb (length ns) (length cs) room)

    -- the state's words and the buffers are those that the calls leave, one by one
    pub calls_carried : called_by list ns k ≡ exported_all cs k
    calls_carried =
        ap (λ (r : Ran). lent (list_after r.answer k.words) r.store) ran
        ∙ ap (λ (ws : List ℕ). lent ws (chained cs (decoded k)).store) (words-run cs k)
        ∙ ap (λ (h : Kept). lent (exported_all cs k).words h.store) (sym (list_carried cs k))

    -- and the numbers are those that the calls return
    pub numbers_carried : call_numbers list ns k ≡ exported_numbers cs k ++ drop (length cs) ns
    numbers_carried =
        let m = numbers_many cs k in
        ap (λ (r : Ran). r.numbers) ran ∙ numbers_run cs k 0 ns ∙ sets-eq (exported_numbers cs k) ns 0 (omega arith)
        ∙ ap (λ (j : ℕ). exported_numbers cs k ++ drop j ns) (zero-add (length (exported_numbers cs k)) ∙ m)

  -- from planning and opening on: where a finishing of the list returned 0 the columns are right for the circuit of the pieces that returned 0
  pub calls_right : (ps gs out state : List ℕ) (b : Store) → length ps ≡ parameter_words → length out ≡ plan_length → length state ≡ state_length
      → AcceptsFinish cs (opened_by ps gs out state b)
      → Right (setting_for (parameters_at ps) gs) (circuit_of cs (opened_by ps gs out state b)) (called_by list ns (opened_by ps gs out state b)).store
  calls_right ps gs out state b eight plan-room state-room f =
      let k = opened_by ps gs out state b in
      subst (λ (l : Lent). Right (setting_for (parameters_at ps) gs) (circuit_of cs k) l.store) (sym (calls_carried k)) (exported_right ps gs out state b eight plan-room state-room cs f)

-- ---- a list that is refused writes nothing
module _ (list ns : List ℕ) (k : Lent) where
  nothing_written : (n : ℕ) → n ≢ 0 → ran_by (calls_of list) (decoded k) ns ≡ untouched n (decoded k) ns → (called_by list ns k ≡ k) × (call_numbers list ns k ≡ ns)
  nothing_written n d e = (
    ap (λ (r : Ran). lent (list_after r.answer k.words) r.store) e
        ∙ ap (λ (ws : List ℕ). lent ws k.store) (by (ℕ_discrete (length k.words) state_length)),
    ap (λ (r : Ran). r.numbers) e,
  )
    where
      t : Taken
      t = record { number = n; state = intake_of k.words }

      by : Dec (length k.words ≡ state_length) → list_after t k.words ≡ k.words
      by (yes z) = sym (list_given t k.words z) ∙ sym (progress_kept t k.words d)
      by (no z) = sym (list_kept t k.words z)

  pub calls_20 : calls_of list ≡ none → (called_by list ns k ≡ k) × (call_numbers list ns k ≡ ns)
  calls_20 e = nothing_written 20 (λ z. omega arith) (ap (λ (o : Option (List Call)). ran_by o (decoded k) ns) e)

  pub calls_10 : (cs : List Call) → calls_of list ≡ some cs → length ns < length cs → (called_by list ns k ≡ k) × (call_numbers list ns k ≡ ns)
  calls_10 cs e h = nothing_written 10 (λ z. omega arith) (ap (λ (o : Option (List Call)). ran_by o (decoded k) ns) e ∙ rw (lt-ltb (length ns) (length cs) h))

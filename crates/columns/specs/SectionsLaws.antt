-- Laws of the sections' numbers. Once opening is accepted and while each call is, the state stands and every buffer stays long enough, so that a call's number is
-- its own section's and reads no buffer.
--
-- Main definition: `Ready`. Main statements: `first-append`, `first_pieces`, `run_pieces`, `number_19`, `number_10`, `number_contents`, `finish-tested`.
use Rattle.std.specs.Prelude.{◌≡◌, refl, ◌≢◌, Bool, true, false, ℕ, suc, ◌+◌, ◌*◌, ◌≤◌, drop, set, replicate, ltb, eqb}
use Rattle.std.proofs.Math.Path.{sym, ap}
use Rattle.std.proofs.Common.{◌∙◌, arith, length-append, length-set}
use mathlib.Core.List.{List, [], ◌∷◌, ◌++◌}
use Rattle.std.proofs.Math.Decide.{ℕ_discrete}
use Rattle.std.proofs.Math.ListN.{length}
use borrow.Author.Tests.{eq-eqb, le-leb}
use Rattle.base.specs.Firsts.{or_number, first-none, first_found, first-zero}
use Rattle.base.specs.Pick.{pick, pick-zero}
use Rattle.base.specs.Tables.{table-length}
use Rattle.labels.specs.Labels.{representatives_of, label_of}
use Rattle.tree.specs.Plan.{plan_fault}
use Rattle.tree.specs.declared.plan.Plan.{Plan}
use Rattle.pieces.specs.Setting.{Setting, State, Store, Held, Cols, constant_room, copy_room, scratch_room, table_room, special_room, most_tables, is_opened, counts_fit, stands}
use Rattle.pieces.specs.Records.{Read, rows_of, tables_of}
use Rattle.base.specs.Limits.{most_gates}
use Rattle.pieces.specs.Opening.{room_to_open, open_number, open_state, fresh}
use Rattle.pieces.specs.Rows.{gates_of, row_lines, rows_fault, rows_number, rows_written, marked}
use Rattle.pieces.specs.SWords.{s_words_fault, s_words_number, s_words_written}
use Rattle.pieces.specs.Cells.{placeholder, index_of, value, first_seen, seen_again, place_cell, cells_run, cells_fault, cells_number, room_for_cells}
use Rattle.pieces.specs.Tables.{table_lines, tables_fault, tables_number, tables_written, stack_of, sum_rows}
use Rattle.pieces.specs.Finishing.{complete, all_used, scratch_fine, finish_number}
use Rattle.pieces.specs.Calls.{Call, rows, s_words, cell_words, table_words, number, taken, after, run}
use Rattle.pieces.specs.WriteLaws.{put-length, lines-length}
use Rattle.pieces.proofs.LineLaws.{sum_done}
use Rattle.pieces.specs.CellLaws.{run_copies, cells_room}
use Rattle.pieces.proofs.FaultLaws.{rows_room, words_room, tables_room, no_tables}
use Rattle.pieces.proofs.ClosedForms.{cleared-long}
use Rattle.columns.specs.Intake.{setting_of}
use Rattle.columns.specs.IntakeLaws.{open_19, open_10, open_own}
use Rattle.columns.specs.Sections.{first_refusal, sections, pieces_fault, after_pieces, last_tests, finish_tested, sections_number, contents_number}

-- ---- the first refusal of a list
pub or_under : (f a b : ℕ) → (f ≡ 0 → a ≡ b) → or_number f a ≡ or_number f b
or_under f a b e = go (ℕ_discrete f 0)
  where
    go : Dec (f ≡ 0) → or_number f a ≡ or_number f b
    go (yes z) = ap (or_number f) (e z)
    go (no d) = first_found f a d ∙ sym (first_found f b d)

pub or_nothing : (a : ℕ) → or_number a 0 ≡ a
or_nothing a = go (ℕ_discrete a 0)
  where
    go : Dec (a ≡ 0) → or_number a 0 ≡ a
    go (yes z) = first-none a 0 z ∙ sym z
    go (no d) = first_found a 0 d

pub or_assoc : (a b c : ℕ) → or_number (or_number a b) c ≡ or_number a (or_number b c)
or_assoc a b c = go (ℕ_discrete a 0)
  where
    go : Dec (a ≡ 0) → or_number (or_number a b) c ≡ or_number a (or_number b c)
    go (yes z) = ap (λ (n : ℕ). or_number n c) (first-none a b z) ∙ sym (first-none a (or_number b c) z)
    go (no d) = ap (λ (n : ℕ). or_number n c) (first_found a b d) ∙ first_found a c d ∙ sym (first_found a (or_number b c) d)

after-taken : (x : Setting) (c : Call) (h : Held) → number x c h ≡ 0 → after x c h ≡ taken x c h
unfolding after
after-taken x c h e = rw (eq-eqb (number x c h) 0 e)

pub first-append : (x : Setting) (cs ds : List Call) (h : Held) → first_refusal x (cs ++ ds) h ≡ or_number (first_refusal x cs h) (first_refusal x ds (run x cs h))
unfolding first_refusal run
first-append x [] ds h = sym (first-none 0 (first_refusal x ds h) refl)
first-append x (c ∷ cs) ds h =
    ap (or_number (number x c h)) (first-append x cs ds (after x c h)) ∙ sym (or_assoc (number x c h) (first_refusal x cs (after x c h)) (first_refusal x ds (run x cs (after x c h))))

-- one call more, by its number
first_step : (x : Setting) (c : Call) (cs : List Call) (h : Held) (f g : ℕ) → number x c h ≡ f → (f ≡ 0 → first_refusal x cs (taken x c h) ≡ g) → first_refusal x (c ∷ cs) h ≡ or_number f g
unfolding first_refusal
first_step x c cs h f g e rest =
    ap (λ (n : ℕ). or_number n (first_refusal x cs (after x c h))) e
    ∙ or_under f (first_refusal x cs (after x c h)) g (λ z. ap (first_refusal x cs) (after-taken x c h (e ∙ z)) ∙ rest z)

-- ---- lengths of scratch
pick-cols : (t : Bool) (a b : Cols) (n : ℕ) → length a.scratch ≡ n → length b.scratch ≡ n → length (pick t a b).scratch ≡ n
pick-cols true a b n p q = p
pick-cols false a b n p q = q

place_scratch : (k w : ℕ) (s : Cols) → length (place_cell k w s).scratch ≡ length s.scratch
unfolding place_cell first_seen seen_again
place_scratch k w s =
    pick-cols (ltb w placeholder) _ s (length s.scratch)
    (pick-cols (eqb (value s (index_of w)) 0) (first_seen k (index_of w) s) (seen_again k (index_of w) s) (length s.scratch) (length-set (set s.scratch _ _) _ _ ∙ length-set s.scratch _ _) (length-set s.scratch _ _))
    refl

run_scratch : (k : ℕ) (ws : List ℕ) (s : Cols) → length (cells_run k ws s).scratch ≡ length s.scratch
unfolding cells_run
run_scratch k [] s = refl
run_scratch k (w ∷ ws) s = run_scratch (suc k) ws (place_cell k w s) ∙ place_scratch k w s

-- ---- what is held while the sections come: the state stands and every buffer is long enough
pub record Ready (x : Setting) (h : Held) : Type 0 where
  pub sound_plan : x.sound ≡ true
  pub is_open : h.state.phase ≡ is_opened
  pub rows_in : h.state.row_count ≤ x.trace
  pub words_in : h.state.word_count ≤ special_room x
  pub cells_in : h.state.cell_count ≤ copy_room x
  pub tables_in : h.state.table_count ≤ pick x.lookup most_tables 0
  pub stack_in : h.state.stacked ≤ pick x.lookup x.trace 0
  pub constants-long : constant_room x ≤ length h.store.constants
  pub copies_long : copy_room x ≤ length h.store.cells.copies
  pub scratch_long : scratch_room x ≤ length h.store.cells.scratch
  pub tables-long : table_room x ≤ length h.store.tables

-- a fresh opening, whatever the buffers held
fresh_ready : (x : Setting) (b : Store) → x.sound ≡ true → length x.labels ≡ copy_room x → Ready x (fresh x b)
fresh_ready x b e l =
    record {
      sound_plan = e;
      is_open = refl;
      rows_in = omega arith;
      words_in = omega arith;
      cells_in = omega arith;
      tables_in = omega arith;
      stack_in = omega arith;
      constants-long = cleared-long (constant_room x) b.constants;
      copies_long = omega (arith, l, length-append x.labels (drop (copy_room x) b.cells.copies));
      scratch_long = cleared-long (scratch_room x) b.cells.scratch;
      tables-long = cleared-long (table_room x) b.tables;
    }

within : (t : Bool) (a n N : ℕ) → (t ≡ true → n ≤ N) → (t ≡ false → n ≡ a) → a ≤ pick t N 0 → n ≤ pick t N 0
within true a n N p q h = p refl
within false a n N p q h = omega (arith, q refl)

from_lookup : (t : Bool) (n N : ℕ) → n ≤ pick t N 0 → n ≤ N
from_lookup true n N h = h
from_lookup false n N h = omega arith

module _ (x : Setting) (h : Held) (k : Ready x h) where
  abbrev s : State
  s = h.state

  abbrev b : Store
  b = h.store

  ready_stands : stands x s ≡ true
  unfolding stands counts_fit
  ready_stands =
      rw (
        k.sound_plan,
        eq-eqb s.phase is_opened k.is_open,
        le-leb s.row_count x.trace k.rows_in,
        le-leb s.word_count (special_room x) k.words_in,
        le-leb s.cell_count (copy_room x) k.cells_in,
        le-leb s.table_count (pick x.lookup most_tables 0) k.tables_in,
        le-leb s.stacked (pick x.lookup x.trace 0) k.stack_in,
      )

  room_is : room_for_cells x b.cells ≡ true
  unfolding room_for_cells
  room_is = rw (le-leb (copy_room x) (length b.cells.copies) k.copies_long, le-leb (scratch_room x) (length b.cells.scratch) k.scratch_long)

  -- ---- the numbers
  rows-number : (ws : List ℕ) → number x (rows ws) h ≡ rows_fault (gates_of x) x.trace s.row_count (rows_of ws)
  unfolding number rows_number
  rows-number ws = rw (ready_stands, le-leb (constant_room x) (length b.constants) k.constants-long)

  words-number : (ws : List ℕ) → number x (s_words ws) h ≡ s_words_fault (special_room x) s.word_count ws
  unfolding number s_words_number
  words-number ws = rw (ready_stands, le-leb (constant_room x) (length b.constants) k.constants-long)

  cells-number : (ws : List ℕ) → number x (cell_words ws) h ≡ cells_fault (copy_room x) x.variables s.cell_count ws
  unfolding number cells_number
  cells-number ws = rw (ready_stands, room_is)

  tables-number : (ws : List ℕ) → number x (table_words ws) h ≡ tables_fault x.lookup x.width x.trace (stack_of s) (tables_of ws)
  unfolding number tables_number
  tables-number ws = rw (ready_stands, le-leb (table_room x) (length b.tables) k.tables-long)

  last_number : finish_tested x h ≡ pick (complete x s) (pick (all_used x.gates s.used) 0 17) 16
  unfolding finish_tested
  last_number = rw (ready_stands, room_is)

  -- ---- each accepted call leaves the next one ready
  rows_ready : (ws : List ℕ) → rows_fault (gates_of x) x.trace s.row_count (rows_of ws) ≡ 0 → Ready x (taken x (rows ws) h)
  unfolding taken rows_written
  rows_ready ws e =
      record {
        sound_plan = k.sound_plan;
        is_open = k.is_open;
        rows_in = rows_room (gates_of x) x.trace s.row_count (rows_of ws) k.rows_in e;
        words_in = k.words_in;
        cells_in = k.cells_in;
        tables_in = k.tables_in;
        stack_in = k.stack_in;
        constants-long = omega (arith, k.constants-long, lines-length x.height x.trace s.row_count (row_lines x.path (rows_of ws)) b.constants);
        copies_long = k.copies_long;
        scratch_long = k.scratch_long;
        tables-long = k.tables-long;
      }

  words_ready : (ws : List ℕ) → s_words_fault (special_room x) s.word_count ws ≡ 0 → Ready x (taken x (s_words ws) h)
  unfolding taken s_words_written
  words_ready ws e =
      record {
        sound_plan = k.sound_plan;
        is_open = k.is_open;
        rows_in = k.rows_in;
        words_in = words_room (special_room x) s.word_count ws k.words_in e;
        cells_in = k.cells_in;
        tables_in = k.tables_in;
        stack_in = k.stack_in;
        constants-long = omega (arith, k.constants-long, put-length 1 b.constants (x.height * x.trace + s.word_count) ws);
        copies_long = k.copies_long;
        scratch_long = k.scratch_long;
        tables-long = k.tables-long;
      }

  cells_ready : (ws : List ℕ) → cells_fault (copy_room x) x.variables s.cell_count ws ≡ 0 → Ready x (taken x (cell_words ws) h)
  unfolding taken
  cells_ready ws e =
      record {
        sound_plan = k.sound_plan;
        is_open = k.is_open;
        rows_in = k.rows_in;
        words_in = k.words_in;
        cells_in = cells_room (copy_room x) x.variables s.cell_count ws k.cells_in e;
        tables_in = k.tables_in;
        stack_in = k.stack_in;
        constants-long = k.constants-long;
        copies_long = omega (arith, k.copies_long, run_copies s.cell_count ws b.cells);
        scratch_long = omega (arith, k.scratch_long, run_scratch s.cell_count ws b.cells);
        tables-long = k.tables-long;
      }

  -- in mode 0 no table comes
  mode_0 : (t : Bool) (ts : List Read) → tables_fault t x.width x.trace (stack_of s) ts ≡ 0 → t ≡ false → ts ≡ []
  mode_0 true ts e q = absurd (let z : ◌≡◌ {A = ℕ} 0 1 = cc in omega arith)
  mode_0 false ts e q = no_tables x.width x.trace (stack_of s) ts e

  tables_ready : (ws : List ℕ) → tables_fault x.lookup x.width x.trace (stack_of s) (tables_of ws) ≡ 0 → Ready x (taken x (table_words ws) h)
  unfolding taken tables_written
  tables_ready ws e =
      let r = tables_room x.lookup x.width x.trace (stack_of s) (tables_of ws) (from_lookup x.lookup s.stacked x.trace k.stack_in) (from_lookup x.lookup s.table_count most_tables k.tables_in) e in
      record {
        sound_plan = k.sound_plan;
        is_open = k.is_open;
        rows_in = k.rows_in;
        words_in = k.words_in;
        cells_in = k.cells_in;
        tables_in = within x.lookup s.table_count (s.table_count + length (tables_of ws)) most_tables (λ q. r.1) (λ q. omega (arith, ap length (mode_0 x.lookup (tables_of ws) e q))) k.tables_in;
        stack_in = within x.lookup s.stacked (sum_rows s.stacked (tables_of ws)) x.trace (λ q. r.0) (λ q. ap (sum_rows s.stacked) (mode_0 x.lookup (tables_of ws) e q) ∙ sum_done s.stacked) k.stack_in;
        constants-long = k.constants-long;
        copies_long = k.copies_long;
        scratch_long = k.scratch_long;
        tables-long = omega (arith, k.tables-long, lines-length (x.width + 1) x.trace s.stacked (table_lines x.width s.table_count (tables_of ws)) b.tables);
      }

-- ---- the four sections, by their own numbers alone
module _ (x : Setting) (b : Store) (r s c t : List ℕ) (k : Ready x (fresh x b)) where
  abbrev f₁ : ℕ
  f₁ = rows_fault (gates_of x) x.trace 0 (rows_of r)

  abbrev f₂ : ℕ
  f₂ = s_words_fault (special_room x) 0 s

  abbrev f₃ : ℕ
  f₃ = cells_fault (copy_room x) x.variables 0 c

  abbrev f₄ : ℕ
  f₄ = tables_fault x.lookup x.width x.trace (stack_of open_state) (tables_of t)

  abbrev h₁ : Held
  h₁ = taken x (rows r) (fresh x b)

  abbrev h₂ : Held
  h₂ = taken x (s_words s) h₁

  abbrev h₃ : Held
  h₃ = taken x (cell_words c) h₂

  abbrev h₄ : Held
  h₄ = taken x (table_words t) h₃

  -- the counts that a section reads are still opening's
  n₁ : number x (rows r) (fresh x b) ≡ f₁
  n₁ = rows-number x (fresh x b) k r

  k₁ : f₁ ≡ 0 → Ready x h₁
  k₁ e = rows_ready x (fresh x b) k r e

  n₂ : f₁ ≡ 0 → number x (s_words s) h₁ ≡ f₂
  unfolding taken
  n₂ e = words-number x h₁ (k₁ e) s

  k₂ : f₁ ≡ 0 → f₂ ≡ 0 → Ready x h₂
  unfolding taken
  k₂ e f = words_ready x h₁ (k₁ e) s f

  n₃ : f₁ ≡ 0 → f₂ ≡ 0 → number x (cell_words c) h₂ ≡ f₃
  unfolding taken
  n₃ e f = cells-number x h₂ (k₂ e f) c

  k₃ : f₁ ≡ 0 → f₂ ≡ 0 → f₃ ≡ 0 → Ready x h₃
  unfolding taken
  k₃ e f g = cells_ready x h₂ (k₂ e f) c g

  n₄ : f₁ ≡ 0 → f₂ ≡ 0 → f₃ ≡ 0 → number x (table_words t) h₃ ≡ f₄
  unfolding taken
  n₄ e f g = tables-number x h₃ (k₃ e f g) t

  k₄ : f₁ ≡ 0 → f₂ ≡ 0 → f₃ ≡ 0 → f₄ ≡ 0 → Ready x h₄
  unfolding taken
  k₄ e f g i = tables_ready x h₃ (k₃ e f g) t i

  pub first_pieces : first_refusal x (sections r s c t) (fresh x b) ≡ pieces_fault x r s c t
  unfolding first_refusal
  first_pieces =
      first_step x (rows r) (s_words s ∷ cell_words c ∷ table_words t ∷ []) (fresh x b) f₁ _ n₁
      (λ e. first_step x (s_words s) (cell_words c ∷ table_words t ∷ []) h₁ f₂ _ (n₂ e)
      (λ f. first_step x (cell_words c) (table_words t ∷ []) h₂ f₃ _ (n₃ e f)
      (λ g. first_step x (table_words t) [] h₃ f₄ 0 (n₄ e f g) (λ i. refl) ∙ or_nothing f₄)))

  -- what is held after the four sections without a fault
  pub run_pieces : f₁ ≡ 0 → f₂ ≡ 0 → f₃ ≡ 0 → f₄ ≡ 0 → run x (sections r s c t) (fresh x b) ≡ h₄
  unfolding run
  run_pieces e f g i =
      rw (after-taken x (rows r) (fresh x b) (n₁ ∙ e), after-taken x (s_words s) h₁ (n₂ e ∙ f), after-taken x (cell_words c) h₂ (n₃ e f ∙ g), after-taken x (table_words t) h₃ (n₄ e f g ∙ i))

  -- "16 ..; 17 .." of what is held then
  last_pieces : f₁ ≡ 0 → f₂ ≡ 0 → f₃ ≡ 0 → f₄ ≡ 0 → finish_tested x (run x (sections r s c t) (fresh x b)) ≡ last_tests x (after_pieces r s c t)
  unfolding taken
  last_pieces e f g i = ap (finish_tested x) (run_pieces e f g i) ∙ last_number x h₄ (k₄ e f g i)

-- ---- the number of a whole circuit, case by case
opened_sound : (x : Setting) (b : Store) → open_number x b ≡ 0 → x.sound ≡ true
unfolding open_number
opened_sound x b e = (pick-zero x.sound (pick (room_to_open x b) x.labelled 10) 19 (λ z. omega arith) e).0

module _ (x : Setting) (b : Store) (r s c t : List ℕ) where
  number_open : open_number x b ≢ 0 → open_number x b ≡ sections_number x b r s c t
  unfolding sections_number
  number_open d = sym (first_found (open_number x b) _ d)

  module _ (o : open_number x b ≡ 0) (l : length x.labels ≡ copy_room x) where
    ready : Ready x (fresh x b)
    ready = fresh_ready x b (opened_sound x b o) l

    number_pieces : pieces_fault x r s c t ≢ 0 → pieces_fault x r s c t ≡ sections_number x b r s c t
    unfolding sections_number
    number_pieces d =
        let e = first_pieces x b r s c t ready in
        sym (first-none (open_number x b) _ o ∙ first_found (first_refusal x (sections r s c t) (fresh x b)) _ (λ z. d (sym e ∙ z)) ∙ e)

    number_last : pieces_fault x r s c t ≡ 0 → last_tests x (after_pieces r s c t) ≡ sections_number x b r s c t
    unfolding sections_number
    number_last z =
        let e = first_pieces x b r s c t ready in
        let a = first-zero _ _ z in
        let d = first-zero _ _ a.1 in
        let f = first-zero _ _ d.1 in
        sym (first-none (open_number x b) _ o ∙ first-none (first_refusal x (sections r s c t) (fresh x b)) _ (e ∙ z) ∙ last_pieces x b r s c t ready a.0 d.0 f.0 f.1)

-- ---- by its three parts: 19, 10, then what is wrong with the circuit itself
module _ (q : Plan) (b : Store) (r s c t : List ℕ) where
  abbrev o : Setting
  o = setting_of q

  pub number_19 : plan_fault q ≢ 0 → 19 ≡ sections_number o b r s c t
  number_19 d =
      let e = open_19 q b d in
      sym e ∙ number_open o b r s c t (λ z. omega (arith, e, z))

  module _ (f : plan_fault q ≡ 0) where
    pub number_10 : room_to_open o b ≡ false → 10 ≡ sections_number o b r s c t
    number_10 h =
        let e = open_10 q b f h in
        sym e ∙ number_open o b r s c t (λ z. omega (arith, e, z))

    pub number_contents : room_to_open o b ≡ true → contents_number o r s c t ≡ sections_number o b r s c t
    unfolding contents_number
    number_contents h = go (ℕ_discrete o.labelled 0)
      where
        e : open_number o b ≡ o.labelled
        e = open_own q b f h

        -- the labels of the code's plan fill its copy columns
        long : length o.labels ≡ copy_room o
        long = table-length (q.copy * q.trace) (label_of q.trace (representatives_of q.trace q.copy))

        later : o.labelled ≡ 0 → Dec (pieces_fault o r s c t ≡ 0) → or_number (pieces_fault o r s c t) (last_tests o (after_pieces r s c t)) ≡ sections_number o b r s c t
        later z (yes k) = first-none _ _ k ∙ number_last o b r s c t (e ∙ z) long k
        later z (no d) = first_found _ _ d ∙ number_pieces o b r s c t (e ∙ z) long d

        go : Dec (o.labelled ≡ 0) → or_number o.labelled (or_number (pieces_fault o r s c t) (last_tests o (after_pieces r s c t))) ≡ sections_number o b r s c t
        go (yes z) = first-none o.labelled _ z ∙ later z (ℕ_discrete (pieces_fault o r s c t) 0)
        go (no d) = first_found o.labelled _ d ∙ sym e ∙ number_open o b r s c t (λ z. d (sym e ∙ z))

-- the last tests read the three counts and the marks alone
pub last_same : (x : Setting) (r s c t : List ℕ) (a : State) → a.row_count ≡ 0 + length (rows_of r) → a.word_count ≡ length s → a.cell_count ≡ length c
    → a.used ≡ marked (replicate most_gates 0) (rows_of r) → last_tests x a ≡ last_tests x (after_pieces r s c t)
unfolding complete
last_same x r s c t a e f g u =
    let y : 0 + length s ≡ length s = omega arith in
    let z : 0 + length c ≡ length c = omega arith in
    rw (e, f, g, u, y, z)

-- a finishing that is not refused with 18 is refused by the other tests alone
pub finish-tested : (x : Setting) (h : Held) → finish_number x h.state h.store.cells ≢ 18 → finish_number x h.state h.store.cells ≡ finish_tested x h
unfolding finish_number finish_tested
finish-tested x h d = go (stands x h.state) (room_for_cells x h.store.cells) (complete x h.state) (all_used x.gates h.state.used) (scratch_fine x.variables (copy_room x) h.store.cells.scratch) d
  where
    whole : Bool → Bool → Bool → Bool → Bool → ℕ
    whole st ro co us sc = pick st (pick ro (pick co (pick us (pick sc 0 18) 17) 16) 10) 19

    tested : Bool → Bool → Bool → Bool → ℕ
    tested st ro co us = pick st (pick ro (pick co (pick us 0 17) 16) 10) 19

    go : (st ro co us sc : Bool) → whole st ro co us sc ≢ 18 → whole st ro co us sc ≡ tested st ro co us
    go true true true true true n = refl
    go true true true true false n = absurd (n refl)
    go true true true false sc n = refl
    go true true false us sc n = refl
    go true false co us sc n = refl
    go false ro co us sc n = refl

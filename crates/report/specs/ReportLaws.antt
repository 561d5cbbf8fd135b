-- Lines put one after the other are the report put whole.
--
-- Main statements: `digits_turn`, `digits_done`, `paths_turn`, `paths_done`, `columns_turn`, `columns_done`, `all_there`, `table-room`.
use Rattle.std.specs.Prelude.{◌≡◌, refl, Bool, true, false, ◌≢◌, List, [], ◌∷◌, ℕ, suc, ◌+◌, ◌-◌, ◌*◌, ◌≤◌, ◌<◌, length, get_or, take, drop, leb, eqb}
use Rattle.std.proofs.Math.Path.{sym}
use Rattle.std.proofs.Common.{ap, ◌∙◌, zero-mul, arith, drop_of_length-le, drop-cons, le-leb, leb-true, eq-eqb, ne_eqb}
use Rattle.std.proofs.lemmas.Bool.{lt-leb}
use Rattle.base.specs.Pick.{pick, pick_yes, pick_no, both_true}
use Rattle.pieces.specs.Setting.{Setting, constant_room, copy_room, table_room}
use Rattle.selector.specs.Paths.{Selector}
use Rattle.tree.specs.Plan.{plan_fault}
use Rattle.tree.specs.declared.plan.Plan.{Plan}
use Rattle.columns.specs.Intake.{setting_of}
use Rattle.octets.specs.Text.{Sink, put}
use Rattle.octets.specs.TextLaws.{put-append, then}
use Rattle.report.specs.Report.{digit, digits_of, steps_field, column, path_line, path_lines, column_line, column_lines, table_columns, columns_there, refused_line, report_lines, report_of}

pub digits_turn : (s t : Sink) (path : List ℕ) (i : ℕ) → i < length path → t ≡ put s (digit (get_or path i 0)) → put s (digits_of (drop i path)) ≡ put t (digits_of (drop (i + 1) path))
unfolding digits_of
digits_turn s t path i h e =
    let n : i + 1 ≡ suc i = omega arith in
    rw (drop-cons path i 0 h, n) (put-append s (digit (get_or path i 0)) (digits_of (drop (suc i) path)) ∙ ap (λ (u : Sink). put u (digits_of (drop (suc i) path))) (sym e))

pub digits_done : (s : Sink) (path : List ℕ) (i : ℕ) → length path ≤ i → put s (digits_of (drop i path)) ≡ s
unfolding digits_of put
digits_done s path i h =
    let e : drop i path ≡ [] = drop_of_length-le path h in
    rw e

-- of m lines those from g on are left
pub paths_turn : (s t : Sink) (selector : ℕ → Selector) (g m : ℕ) → g < m → t ≡ put s (path_line selector g) → put s (path_lines selector g (m - g)) ≡ put t (path_lines selector (g + 1) (m - (g + 1)))
unfolding path_lines
paths_turn s t selector g m h e =
    let n : m - g ≡ suc (m - (g + 1)) = omega arith in
    let k : suc g ≡ g + 1 = omega arith in
    rw n (put-append s (path_line selector g) (path_lines selector (suc g) (m - (g + 1))) ∙ ap (λ (u : Sink). put u (path_lines selector (suc g) (m - (g + 1)))) (sym e) ∙ ap (λ (j : ℕ). put t (path_lines selector j (m - (g + 1)))) k)

pub paths_done : (s : Sink) (selector : ℕ → Selector) (g m : ℕ) → m ≤ g → put s (path_lines selector g (m - g)) ≡ s
unfolding path_lines put
paths_done s selector g m h =
    let n : m - g ≡ 0 = omega arith in
    rw n

pub columns_turn : (s t : Sink) (name : List ℕ) (n : ℕ) (b : List ℕ) (c m : ℕ) → c < m → t ≡ put s (column_line name n b c)
    → put s (column_lines name n b c (m - c)) ≡ put t (column_lines name n b (c + 1) (m - (c + 1)))
unfolding column_lines
columns_turn s t name n b c m h e =
    let l : m - c ≡ suc (m - (c + 1)) = omega arith in
    let k : suc c ≡ c + 1 = omega arith in
    rw l (put-append s (column_line name n b c) (column_lines name n b (suc c) (m - (c + 1))) ∙ ap (λ (u : Sink). put u (column_lines name n b (suc c) (m - (c + 1)))) (sym e) ∙ ap (λ (j : ℕ). put t (column_lines name n b j (m - (c + 1)))) k)

pub columns_done : (s : Sink) (name : List ℕ) (n : ℕ) (b : List ℕ) (c m : ℕ) → m ≤ c → put s (column_lines name n b c (m - c)) ≡ s
unfolding column_lines put
columns_done s name n b c m h =
    let l : m - c ≡ 0 = omega arith in
    rw l

-- the field of a path: none for an empty one, else a space and the digits
pub steps-none : (s : Sink) (path : List ℕ) → 0 ≡ length path → s ≡ put s (steps_field path)
unfolding put
steps-none s [] e = refl
steps-none s (d ∷ ds) e = absurd (omega (arith, e))

pub steps-some : (s t u : Sink) (path : List ℕ) → 0 < length path → t ≡ put s (32 ∷ []) → u ≡ put t (digits_of path) → u ≡ put s (steps_field path)
steps-some s t u [] h e f = absurd (omega arith)
steps-some s t u (d ∷ ds) h e f = then s t u (32 ∷ []) (digits_of (d ∷ ds)) e f

-- the words from a column's first place on, as many as the column has
pub part-column : (n : ℕ) (b : List ℕ) (from c : ℕ) → from ≡ c * n → take (from + n - from) (drop from b) ≡ column n b c
part-column n b from c e =
    let k : from + n - from ≡ n = omega arith in
    rw (k, e)

-- ---- whether the columns are all there, buffer by buffer
module _ (x : Setting) (constants copies tables : List ℕ) where
  pub few_constants : length constants < constant_room x → false ≡ columns_there x constants copies tables
  few_constants h = rw (lt-leb (constant_room x) (length constants) h)

  pub few_copies : constant_room x ≤ length constants → length copies < copy_room x → false ≡ columns_there x constants copies tables
  few_copies h k = rw (le-leb (constant_room x) (length constants) h, lt-leb (copy_room x) (length copies) k)

  pub by_tables : constant_room x ≤ length constants → copy_room x ≤ length copies → leb (table_room x) (length tables) ≡ columns_there x constants copies tables
  by_tables h k = rw (le-leb (constant_room x) (length constants) h, le-leb (copy_room x) (length copies) k)

  pub all_there : columns_there x constants copies tables ≡ true → (constant_room x ≤ length constants) × (copy_room x ≤ length copies) × (table_room x ≤ length tables)
  all_there e =
      let a = both_true (leb (constant_room x) (length constants)) _ e in
      let b = both_true (leb (copy_room x) (length copies)) _ a.1 in
      (leb-true _ _ a.0, leb-true _ _ b.0, leb-true _ _ b.1)

pub table-room : (x : Setting) → table_columns x * x.trace ≡ table_room x
table-room x = go x.lookup
  where
    go : (t : Bool) → pick t (x.width + 1) 0 * x.trace ≡ pick t ((x.width + 1) * x.trace) 0
    go true = refl
    go false = zero-mul x.trace

pub few_tables : (x : Setting) → x.width ≤ 16 → table_columns x ≤ 17
few_tables x h = go x.lookup
  where
    go : (t : Bool) → pick t (x.width + 1) 0 ≤ 17
    go true = omega arith
    go false = omega arith

-- ---- the report, by the tests
module _ (q : Plan) (constants copies tables : List ℕ) where
  pub report_19 : plan_fault q ≢ 0 → refused_line 19 ≡ report_of q constants copies tables
  unfolding report_of
  report_19 h = sym (pick_no (eqb (plan_fault q) 0) _ (refused_line 19) (ne_eqb (plan_fault q) 0 h))

  pub report_10 : plan_fault q ≡ 0 → columns_there (setting_of q) constants copies tables ≡ false → refused_line 10 ≡ report_of q constants copies tables
  unfolding report_of
  report_10 h e = sym (pick_yes (eqb (plan_fault q) 0) _ (refused_line 19) (eq-eqb (plan_fault q) 0 h) ∙ pick_no (columns_there (setting_of q) constants copies tables) _ (refused_line 10) e)

  pub report_whole : plan_fault q ≡ 0 → columns_there (setting_of q) constants copies tables ≡ true → report_lines q constants copies tables ≡ report_of q constants copies tables
  unfolding report_of
  report_whole h e = sym (pick_yes (eqb (plan_fault q) 0) _ (refused_line 19) (eq-eqb (plan_fault q) 0 h) ∙ pick_yes (columns_there (setting_of q) constants copies tables) _ (refused_line 10) e)

-- The closed form of each section's columns over the words accepted so far: what the columns hold, for pieces put end to end.
--
-- Main definitions: `Consts` (constant columns), `Tabled` (table columns); the copy columns' are `cells_run` and `ended`.
-- Main statements: `rows_append`, `tables-append` (the records of two pieces), `rows_consts`, `words_consts`, `tables_tabled` (a piece more; words of the other
-- section are kept), `good_rows`, `good_tables`, `good_cells` (what an accepted record is), `fresh_consts`, `fresh_tabled` (after opening).
use Rattle.std.specs.Prelude.{◌≡◌, refl, List, [], ◌∷◌, ◌++◌, Bool, false, ℕ, zero, suc, ◌+◌, ◌-◌, ◌*◌, ◌≤◌, ◌<◌, length, get_or, drop, replicate}
use Rattle.std.proofs.Common.{sym, ap, ◌∙◌, append_assoc, add-zero, add-suc, suc-add, arith, length-append, get_or-append-add}
use Rattle.std.proofs.Math.Decide.{dec_lt}
use Rattle.std.proofs.lemmas.List.{length-replicate, get_or-replicate}
use Rattle.std.proofs.Math.ListN.{get_or-append, get_or-eq_default}
use Rattle.pieces.specs.Setting.{Setting, constant_room, special_room}
use Rattle.pieces.specs.Records.{Read, whole, cut, read_by, row_size, table_size, rows_of, tables_of}
use Rattle.pieces.specs.Writing.{put, put_lines, cleared}
use Rattle.pieces.specs.Rows.{Gates, gates_of, row_fault, rows_fault, row_line, row_lines}
use Rattle.pieces.specs.Cells.{placeholder, index_of, cell_fault, cells_fault}
use Rattle.pieces.specs.Tables.{Stack, table_rows_in, stack_next, table_fault, tables_fault, entries, table_entries, table_lines, sum_rows}
use Rattle.pieces.specs.WriteLaws.{put-length, put_other, put-at, below_rows, Reads, lines-length, lines_reads, lines_other}
use Rattle.base.specs.Each.{Each}
use Rattle.pieces.specs.RecordLaws.{fault_each, Whole, read-append}
use Rattle.pieces.specs.CellLaws.{cell_named}
use Rattle.pieces.proofs.FaultLaws.{row_cut, row_fine, table-cut, table_fine}

-- ---- what an accepted record is
abbrev pub GoodRow : Gates → Read → Type 0
GoodRow gs cut = ⊥
GoodRow gs (whole g n cs) = (g < gs.many) × (n ≤ gs.own g) × (gs.bar g ≡ false)

abbrev pub GoodTable : ℕ → Read → Type 0
GoodTable W cut = ⊥
GoodTable W (whole w n cs) = w ≡ W

abbrev pub GoodCell : ℕ → ℕ → Type 0
GoodCell M w = w < placeholder → index_of w < M

good_row : (gs : Gates) (N r : ℕ) (t : Read) → row_fault gs N r t ≡ 0 → GoodRow gs t
good_row gs N r cut e = absurd (omega (arith, e, row_cut gs N r))
good_row gs N r (whole g n cs) e = let f = row_fine gs N r g n cs e in (f.known, f.few, f.free)

pub good_rows : (gs : Gates) (N r : ℕ) (ts : List Read) → rows_fault gs N r ts ≡ 0 → Each (GoodRow gs) ts
good_rows gs N r ts e = fault_each (row_fault gs N) (λ r _. suc r) (GoodRow gs) (good_row gs N) r ts e

good_table : (lookup : Bool) (W N : ℕ) (s : Stack) (t : Read) → table_fault lookup W N s t ≡ 0 → GoodTable W t
good_table lookup W N s cut e = absurd (omega (arith, e, table-cut lookup W N s))
good_table lookup W N s (whole w n cs) e = (table_fine lookup W N s w n cs e).wide

pub good_tables : (lookup : Bool) (W N : ℕ) (s : Stack) (ts : List Read) → tables_fault lookup W N s ts ≡ 0 → Each (GoodTable W) ts
good_tables lookup W N s ts e = fault_each (table_fault lookup W N) stack_next (GoodTable W) (good_table lookup W N) s ts e

pub good_cells : (total M k : ℕ) (ws : List ℕ) → cells_fault total M k ws ≡ 0 → Each (GoodCell M) ws
good_cells total M k ws e = fault_each (cell_fault total M) (λ k _. suc k) (GoodCell M) (λ k w z. cell_named total M k w z) k ws e

row_whole : (gs : Gates) (ts : List Read) → Each (GoodRow gs) ts → Each Whole ts
row_whole gs [] e = tt
row_whole gs (cut ∷ ts) (a, e) = absurd a
row_whole gs (whole g n cs ∷ ts) (a, e) = (tt, row_whole gs ts e)

table_whole : (W : ℕ) (ts : List Read) → Each (GoodTable W) ts → Each Whole ts
table_whole W [] e = tt
table_whole W (cut ∷ ts) (a, e) = absurd a
table_whole W (whole g n cs ∷ ts) (a, e) = (tt, table_whole W ts e)

-- ---- records and lines of pieces put end to end
pub rows_append : (gs : Gates) (R ws : List ℕ) → Each (GoodRow gs) (rows_of R) → rows_of (R ++ ws) ≡ rows_of R ++ rows_of ws
unfolding rows_of
rows_append gs R ws g =
    read-append row_size (length R) (length ws) (length (R ++ ws)) R ws (omega arith) (omega arith) (omega (arith, length-append R ws)) (row_whole gs (rows_of R) g)

pub tables-append : (W : ℕ) (T ws : List ℕ) → Each (GoodTable W) (tables_of T) → tables_of (T ++ ws) ≡ tables_of T ++ tables_of ws
unfolding tables_of
tables-append W T ws g =
    read-append table_size (length T) (length ws) (length (T ++ ws)) T ws (omega arith) (omega arith) (omega (arith, length-append T ws)) (table_whole W (tables_of T) g)

pub lines-append : (path : ℕ → List ℕ) (a b : List Read) → row_lines path (a ++ b) ≡ row_lines path a ++ row_lines path b
unfolding row_lines
lines-append path [] b = refl
lines-append path (t ∷ a) b = ap (λ (r : List (List ℕ)). row_line path t ∷ r) (lines-append path a b)

pub lines-many : (path : ℕ → List ℕ) (a : List Read) → length (row_lines path a) ≡ length a
unfolding row_lines
lines-many path [] = refl
lines-many path (t ∷ a) = ap suc (lines-many path a)

pub stacks_append : (W t : ℕ) (a b : List Read) → table_lines W t (a ++ b) ≡ table_lines W t a ++ table_lines W (t + length a) b
unfolding table_lines
stacks_append W t [] b = rw add-zero
stacks_append W t (r ∷ a) b =
    rw (add-suc, ← suc-add)
    (ap (λ (l : List (List ℕ)). table_entries W (suc t) r ++ l) (stacks_append W (suc t) a b) ∙ sym (append_assoc (table_entries W (suc t) r) (table_lines W (suc t) a) _))

pub entries-many : (W t n : ℕ) (cs : List ℕ) → length (entries W t n cs) ≡ n
unfolding entries
entries-many W t zero cs = refl
entries-many W t (suc n) cs = ap suc (entries-many W t n (drop W cs))

table-many : (W t : ℕ) (r : Read) → length (table_entries W t r) ≡ table_rows_in r
table-many W t cut = refl
table-many W t (whole w n cs) = entries-many W t n cs

pub stacks_many : (W n t : ℕ) (a : List Read) → sum_rows n a ≡ n + length (table_lines W t a)
unfolding table_lines sum_rows
stacks_many W n t [] = omega arith
stacks_many W n t (r ∷ a) =
    stacks_many W (n + table_rows_in r) (suc t) a
    ∙ omega (arith, length-append (table_entries W (suc t) r) (table_lines W (suc t) a), table-many W (suc t) r)

-- ---- the constant columns
pub record Consts (x : Setting) (R S b : List ℕ) : Type 0 where
  pub long : constant_room x ≤ length b
  pub left : Reads x.height x.trace (row_lines x.path (rows_of R)) b
  pub right : (j : ℕ) → j < special_room x → get_or b (x.height * x.trace + j) 0 ≡ get_or S j 0

-- a list's words from a place on
after_seam : (a b : List ℕ) (j : ℕ) → length a ≤ j → get_or (a ++ b) j 0 ≡ get_or b (j - length a) 0
after_seam a b j h =
    let e : j ≡ length a + (j - length a) = omega arith in
    ap (λ (i : ℕ). get_or (a ++ b) i 0) e ∙ get_or-append-add a b (j - length a) 0

module _ (x : Setting) (R S b : List ℕ) where
  pub rows_consts : (ws : List ℕ) → Each (GoodRow (gates_of x)) (rows_of R) → length (rows_of R) + length (rows_of ws) ≤ x.trace → Consts x R S b
      → Consts x (R ++ ws) S (put_lines x.height x.trace (length (rows_of R)) (row_lines x.path (rows_of ws)) b)
  rows_consts ws good room c =
      let e : row_lines x.path (rows_of (R ++ ws)) ≡ row_lines x.path (rows_of R) ++ row_lines x.path (rows_of ws) = rw (rows_append (gates_of x) R ws good) (lines-append x.path (rows_of R) (rows_of ws)) in
      let wide : x.height * x.trace ≤ length b = omega (arith, c.long) in
      let n = lines-many x.path (rows_of R) in
      let m = lines-many x.path (rows_of ws) in
      let new = lines_reads x.height x.trace (row_lines x.path (rows_of ws)) (row_lines x.path (rows_of R)) b wide (omega arith) c.left in
      record { long = rw lines-length c.long; left = rw e (rw n at new); right = λ j h. lines_other x.height x.trace (length (rows_of R)) (row_lines x.path (rows_of ws)) b _ (omega arith) (omega arith) ∙ c.right j h }

  pub words_consts : (ws : List ℕ) → length S + length ws ≤ special_room x → Consts x R S b
      → Consts x R (S ++ ws) (put 1 b (x.height * x.trace + length S) ws)
  words_consts ws room c =
      record { long = rw put-length c.long; left = λ r k hr hk. put_other 1 b _ ws _ (λ i q e. omega (arith, e, below_rows x.trace k r x.height hr hk)) ∙ c.left r k hr hk; right = λ j h. go j h (dec_lt j (length S)) (dec_lt j (length S + length ws)) }
    where
      K : ℕ
      K = x.height * x.trace

      go : (j : ℕ) → j < special_room x → Dec (j < length S) → Dec (j < length S + length ws) → get_or (put 1 b (K + length S) ws) (K + j) 0 ≡ get_or (S ++ ws) j 0
      go j h (yes a) d = rw (get_or-append S ws 0 j a) (put_other 1 b (K + length S) ws (K + j) (λ i q e. omega arith) ∙ c.right j h)
      go j h (no a) (yes d) =
          let e : K + j ≡ (K + length S) + (j - length S) * 1 = omega arith in
          rw (after_seam S ws j (omega arith), e) (put-at 1 b (K + length S) ws (j - length S) (omega arith) (omega arith) (omega (arith, c.long)))
      go j h (no a) (no d) =
          put_other 1 b (K + length S) ws (K + j) (λ i q e. omega arith) ∙ c.right j h ∙ get_or-eq_default S 0 (omega arith)
          ∙ sym (get_or-eq_default (S ++ ws) 0 (omega (arith, length-append S ws)))

-- ---- the table columns
pub record Tabled (x : Setting) (T b : List ℕ) : Type 0 where
  pub long : (x.width + 1) * x.trace ≤ length b
  pub lines : Reads (x.width + 1) x.trace (table_lines x.width 0 (tables_of T)) b

pub tables_tabled : (x : Setting) (T b ws : List ℕ) → Each (GoodTable x.width) (tables_of T) → length (table_lines x.width 0 (tables_of T)) + length (table_lines x.width (length (tables_of T)) (tables_of ws)) ≤ x.trace
    → Tabled x T b
    → Tabled x (T ++ ws) (put_lines (x.width + 1) x.trace (length (table_lines x.width 0 (tables_of T))) (table_lines x.width (length (tables_of T)) (tables_of ws)) b)
tables_tabled x T b ws good room c =
    let z : 0 + length (tables_of T) ≡ length (tables_of T) = omega arith in
    let s = rw z at (stacks_append x.width 0 (tables_of T) (tables_of ws)) in
    let e : table_lines x.width 0 (tables_of (T ++ ws)) ≡ table_lines x.width 0 (tables_of T) ++ table_lines x.width (length (tables_of T)) (tables_of ws) = rw (tables-append x.width T ws good) s in
    record { long = rw lines-length c.long; lines = rw e (lines_reads (x.width + 1) x.trace (table_lines x.width (length (tables_of T)) (tables_of ws)) (table_lines x.width 0 (tables_of T)) b c.long room c.lines) }

-- ---- after opening
zeros_at : (n i : ℕ) (l : List ℕ) → i < n → get_or (replicate n 0 ++ l) i 0 ≡ 0
zeros_at n i l h = get_or-append (replicate n 0) l 0 i (rw length-replicate h) ∙ get_or-replicate n i 0 0 h

pub cleared-long : (n : ℕ) (b : List ℕ) → n ≤ length (cleared n b)
cleared-long n b = omega (arith, length-append (replicate n 0) (drop n b), length-replicate {A = ℕ} n 0)

pub fresh_consts : (x : Setting) (b : List ℕ) → Consts x [] [] (cleared (constant_room x) b)
unfolding rows_of row_lines read_by
fresh_consts x b =
    record {
      long = cleared-long (constant_room x) b;
      left = λ r c hr hc. zeros_at (constant_room x) _ _ (omega (arith, below_rows x.trace c r x.height hr hc));
      right = λ j h. zeros_at (constant_room x) _ _ (omega arith);
    }

pub fresh_tabled : (x : Setting) (b : List ℕ) → Tabled x [] (cleared ((x.width + 1) * x.trace) b)
unfolding tables_of table_lines read_by
fresh_tabled x b =
    record {
      long = cleared-long ((x.width + 1) * x.trace) b;
      lines = λ r c hr hc. zeros_at ((x.width + 1) * x.trace) _ _ (below_rows x.trace c r (x.width + 1) hr hc);
    }

-- Loops that write lines: what is left to write, row by row and table by table.
--
-- Main statements: `lines_through` (lines put end to end), and for loops `marks_turn`, `tables_turn`, `sum_turn`.
use Rattle.std.specs.Prelude.{◌≡◌, List, [], ◌∷◌, ◌++◌, ℕ, suc, ◌+◌, length, set}
use Rattle.std.proofs.Math.Path.{refl, ap}
use Rattle.std.proofs.Common.{◌∙◌, add-zero, add-suc, suc-add, add-one}
use Rattle.pieces.specs.Records.{Read, whole}
use Rattle.pieces.specs.Writing.{put, padded, put_lines}
use Rattle.pieces.specs.Rows.{row_lines, marked}
use Rattle.pieces.specs.Tables.{entries, table_lines, sum_rows}
use Rattle.pieces.proofs.ClosedForms.{entries-many}

-- ---- rows
pub rows_done : (path : ℕ → List ℕ) (k N r : ℕ) (b : List ℕ) → put_lines k N r (row_lines path []) b ≡ b
unfolding put_lines row_lines
rows_done path k N r b = refl

pub marks_turn : (u : List ℕ) (g n : ℕ) (cs : List ℕ) (ts : List Read) → marked u (whole g n cs ∷ ts) ≡ marked (set u g 1) ts
unfolding marked
marks_turn u g n cs ts = refl

pub marks_done : (u : List ℕ) → marked u [] ≡ u
unfolding marked
marks_done u = refl

-- ---- lines put end to end
pub lines_through : (k N r : ℕ) (xs ys : List (List ℕ)) (b : List ℕ) → put_lines k N r (xs ++ ys) b ≡ put_lines k N (r + length xs) ys (put_lines k N r xs b)
unfolding put_lines
lines_through k N r [] ys b = rw add-zero
lines_through k N r (x ∷ xs) ys b = rw (add-suc, ← suc-add) (lines_through k N (suc r) xs ys (put N b r (padded k x)))

-- ---- tables
module _ (W N t h w n : ℕ) (cs : List ℕ) (ts : List Read) where
  pub tables_turn : (b : List ℕ) → put_lines (W + 1) N h (table_lines W t (whole w n cs ∷ ts)) b
      ≡ put_lines (W + 1) N (h + n) (table_lines W (t + 1) ts) (put_lines (W + 1) N h (entries W (t + 1) n cs) b)
  unfolding table_lines
  tables_turn b =
      let e = entries-many W (suc t) n cs in
      rw (add-one t)
      (lines_through (W + 1) N h (entries W (suc t) n cs) (table_lines W (suc t) ts) b
      ∙ ap (λ (m : ℕ). put_lines (W + 1) N (h + m) (table_lines W (suc t) ts) (put_lines (W + 1) N h (entries W (suc t) n cs) b)) e)

  pub sum_turn : sum_rows h (whole w n cs ∷ ts) ≡ sum_rows (h + n) ts
  unfolding sum_rows
  sum_turn = refl

pub tables_done : (W N t h : ℕ) (b : List ℕ) → put_lines (W + 1) N h (table_lines W t []) b ≡ b
unfolding table_lines put_lines
tables_done W N t h b = refl

pub sum_done : (h : ℕ) → sum_rows h [] ≡ h
unfolding sum_rows
sum_done h = refl

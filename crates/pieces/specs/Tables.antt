-- 01, 'Columns by pieces': lookup tables.
--
-- Main definitions: `table_fault`, `tables_fault`, `tables_number`, `table_lines`, `tables_written`, `tables_state`.
use Rattle.std.specs.Prelude.{Bool, List, [], ◌∷◌, ◌++◌, ℕ, zero, suc, ◌+◌, length, drop, ltb, leb, eqb}
use Rattle.base.specs.Pick.{pick}
use Rattle.field.specs.Field.{p}
use Rattle.pieces.specs.Setting.{Setting, State, table_room, most_tables, stands}
use Rattle.pieces.specs.Records.{Read, whole, cut, tables_of, first_fault, all_below}
use Rattle.pieces.specs.Writing.{padded, put_lines}

-- the tables so far: how many, and their rows, stacked
pub record Stack : Type 0 where
  pub count : ℕ
  pub high : ℕ

abbrev pub table_rows_in : Read → ℕ
table_rows_in cut = 0
table_rows_in (whole w n cs) = n

-- "empty ones counted"
abbrev pub stack_next : Stack → Read → Stack
stack_next s t = record { count = suc s.count; high = s.high + table_rows_in t }

-- "15 cut short, mode 0, width not W, over 255 tables, or rows past N; 11."
unfoldable pub table_fault : Bool → ℕ → ℕ → Stack → Read → ℕ
table_fault lookup W N s cut = 15
table_fault lookup W N s (whole w n cs) =
    pick lookup
    (pick (eqb w W) (pick (ltb s.count most_tables) (pick (leb (s.high + n) N) (pick (all_below p cs) 0 11) 15) 15) 15)
    15

-- "Tables, first faulty record"
abbrev pub tables_fault : Bool → ℕ → ℕ → Stack → List Read → ℕ
tables_fault lookup W N = first_fault (table_fault lookup W N) stack_next

abbrev pub stack_of : State → Stack
stack_of s = record { count = s.table_count; high = s.stacked }

unfoldable pub tables_number : Setting → State → List ℕ → List ℕ → ℕ
tables_number x s ws b =
    pick (stands x s)
    (pick (leb (table_room x) (length b)) (tables_fault x.lookup x.width x.trace (stack_of s) (tables_of ws)) 10)
    19

-- "W content columns and one of table numbers from 1, tables stacked": n rows of W words, each with the table's number t
unfoldable pub entries : ℕ → ℕ → ℕ → List ℕ → List (List ℕ)
entries W t zero cs = []
entries W t (suc n) cs = (padded W cs ++ (t ∷ [])) ∷ entries W t n (drop W cs)

abbrev pub table_entries : ℕ → ℕ → Read → List (List ℕ)
table_entries W t cut = []
table_entries W t (whole w n cs) = entries W t n cs

-- the tables after number t
unfoldable pub table_lines : ℕ → ℕ → List Read → List (List ℕ)
table_lines W t [] = []
table_lines W t (r ∷ rs) = table_entries W (suc t) r ++ table_lines W (suc t) rs

-- the table buffer after an accepted tables call
unfoldable pub tables_written : Setting → State → List ℕ → List ℕ → List ℕ
tables_written x s ws b = put_lines (x.width + 1) x.trace s.stacked (table_lines x.width s.table_count (tables_of ws)) b

unfoldable pub sum_rows : ℕ → List Read → ℕ
sum_rows n [] = n
sum_rows n (t ∷ ts) = sum_rows (n + table_rows_in t) ts

abbrev pub tables_state : State → List ℕ → State
tables_state s ws =
    record {
      row_count = s.row_count;
      word_count = s.word_count;
      cell_count = s.cell_count;
      table_count = s.table_count + length (tables_of ws);
      stacked = sum_rows s.stacked (tables_of ws);
      used = s.used;
      phase = s.phase;
    }

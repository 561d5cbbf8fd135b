-- 01, 'Columns by pieces': rows.
--
-- Main definitions: `Gates`, `gates_of`, `row_fault`, `rows_fault`, `rows_number`, `row_lines`, `rows_written`, `rows_state`.
use Rattle.std.specs.Prelude.{Bool, List, [], ◌∷◌, ◌++◌, ℕ, suc, ◌+◌, length, set, ltb, leb}
use Rattle.base.specs.Pick.{pick}
use Rattle.field.specs.Field.{p}
use Rattle.pieces.specs.Setting.{Setting, State, barred, constant_room, stands}
use Rattle.pieces.specs.Records.{Read, whole, cut, rows_of, first_fault, all_below}
use Rattle.pieces.specs.Writing.{put_lines}

-- what a row's test needs of the gates
pub record Gates : Type 0 where
  pub many : ℕ  -- how many are listed
  pub own : ℕ → ℕ  -- the number of constants that a gate has
  pub bar : ℕ → Bool  -- the rows of the gate are turned away

abbrev pub gates_of : Setting → Gates
gates_of x = record { many = x.gates; own = x.own; bar = barred x }

-- "12 record cut short, gate unknown, or more constants than its gate has; 11 a word not below p; 13 past N." of row r, for N rows. 02, Change 4: "23 .., tested
-- for each row after 12."
unfoldable pub row_fault : Gates → ℕ → ℕ → Read → ℕ
row_fault gs N r cut = 12
row_fault gs N r (whole g n cs) =
    pick (ltb g gs.many) (pick (leb n (gs.own g)) (pick (gs.bar g) 23 (pick (all_below p cs) (pick (ltb r N) 0 13) 11)) 12) 12

-- "Rows, first faulty record"
abbrev pub rows_fault : Gates → ℕ → ℕ → List Read → ℕ
rows_fault gs N = first_fault (row_fault gs N) (λ r _. suc r)

-- "19; 10; 12 ..": the number of a rows call
unfoldable pub rows_number : Setting → State → List ℕ → List ℕ → ℕ
rows_number x s ws b =
    pick (stands x s)
    (pick (leb (constant_room x) (length b)) (rows_fault (gates_of x) x.trace s.row_count (rows_of ws)) 10)
    19

-- "A row writes its gate's path, then its constants, then zeros"
abbrev pub row_line : (ℕ → List ℕ) → Read → List ℕ
row_line path cut = []
row_line path (whole g n cs) = path g ++ cs

unfoldable pub row_lines : (ℕ → List ℕ) → List Read → List (List ℕ)
row_lines path [] = []
row_lines path (t ∷ ts) = row_line path t ∷ row_lines path ts

-- the constant buffer after an accepted rows call: exactly K words a row, never an S column
unfoldable pub rows_written : Setting → State → List ℕ → List ℕ → List ℕ
rows_written x s ws b = put_lines x.height x.trace s.row_count (row_lines x.path (rows_of ws)) b

-- the gates of the records are marked as used
unfoldable pub marked : List ℕ → List Read → List ℕ
marked u [] = u
marked u (cut ∷ ts) = marked u ts
marked u (whole g n cs ∷ ts) = marked (set u g 1) ts

-- the state after an accepted rows call
abbrev pub rows_state : State → List ℕ → State
rows_state s ws =
    record {
      row_count = s.row_count + length (rows_of ws);
      word_count = s.word_count;
      cell_count = s.cell_count;
      table_count = s.table_count;
      stacked = s.stacked;
      used = marked s.used (rows_of ws);
      phase = s.phase;
    }

-- 01, 'Columns by pieces': cells, the words of the copy columns, "column by column".
--
-- Main definitions: `cell_fault`, `cells_fault`, `cells_number`, `place_cell`, `cells_run`, `cells_written`, `cells_state`.
use Rattle.std.specs.Prelude.{Bool, List, [], ◌∷◌, ℕ, suc, ◌+◌, ◌*◌, ◌%◌, ◌^◌, length, get_or, set, ltb, leb, eqb}
use Rattle.base.specs.Pick.{pick, both}
use Rattle.pieces.specs.Setting.{Setting, State, Cols, cols, copy_room, scratch_room, stands}
use Rattle.pieces.specs.Records.{first_fault}

-- "A word with bit 63 set is a placeholder and keeps its label." Below this a word names a variable
abbrev pub placeholder : ℕ
placeholder = 2 ^ 63

-- "Otherwise the low 48 bits are the index, bits 48 to 62 unread."
abbrev pub index_of : ℕ → ℕ
index_of w = w % 2 ^ 48

-- "for the first faulty word 13 past the section, then .. for cells 14 index not below V": of cell number k, in a section of `total` words
unfoldable pub cell_fault : ℕ → ℕ → ℕ → ℕ → ℕ
cell_fault total vars k w = pick (ltb k total) (pick (ltb w placeholder) (pick (ltb (index_of w) vars) 0 14) 0) 13

abbrev pub cells_fault : ℕ → ℕ → ℕ → List ℕ → ℕ
cells_fault total vars = first_fault (cell_fault total vars) (λ k _. suc k)

-- "10, a buffer too short": copies and scratch are lent
unfoldable pub room_for_cells : Setting → Cols → Bool
room_for_cells x b = both (leb (copy_room x) (length b.copies)) (leb (scratch_room x) (length b.scratch))

unfoldable pub cells_number : Setting → State → List ℕ → Cols → ℕ
cells_number x s ws b =
    pick (stands x s) (pick (room_for_cells x b) (cells_fault (copy_room x) x.variables s.cell_count ws) 10) 19

-- "Scratch: two words a variable, value and first cell (cN+r); value 0 is unseen."
abbrev pub value : Cols → ℕ → ℕ
value s v = get_or s.scratch (2 * v) 0

-- "An unseen variable stores the label and cell": the word that stands in the cell, and the cell's number
unfoldable pub first_seen : ℕ → ℕ → Cols → Cols
first_seen i v s = cols s.copies (set (set s.scratch (2 * v) (get_or s.copies i 0)) (2 * v + 1) i)

-- "a seen one exchanges its value with the cell's word"
unfoldable pub seen_again : ℕ → ℕ → Cols → Cols
seen_again i v s = cols (set s.copies i (get_or s.scratch (2 * v) 0)) (set s.scratch (2 * v) (get_or s.copies i 0))

-- one cell word
unfoldable pub place_cell : ℕ → ℕ → Cols → Cols
place_cell i w s =
    pick (ltb w placeholder) (pick (eqb (value s (index_of w)) 0) (first_seen i (index_of w) s) (seen_again i (index_of w) s)) s

-- the cell words from number k on
unfoldable pub cells_run : ℕ → List ℕ → Cols → Cols
cells_run k [] s = s
cells_run k (w ∷ ws) s = cells_run (suc k) ws (place_cell k w s)

-- copies and scratch after an accepted cells call
abbrev pub cells_written : State → List ℕ → Cols → Cols
cells_written s ws b = cells_run s.cell_count ws b

abbrev pub cells_state : State → List ℕ → State
cells_state s ws =
    record {
      row_count = s.row_count;
      word_count = s.word_count;
      cell_count = s.cell_count + length ws;
      table_count = s.table_count;
      stacked = s.stacked;
      used = s.used;
      phase = s.phase;
    }

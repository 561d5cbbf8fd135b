-- 01, 'Columns by pieces': finishing.
--
-- Main definitions: `complete`, `all_used`, `scratch_fine`, `finish_number`, `finished_copies`, `finished_state`.
use Rattle.std.specs.Prelude.{Bool, true, false, List, ℕ, zero, suc, ◌+◌, ◌*◌, get_or, set, ltb, eqb}
use Rattle.base.specs.Pick.{pick, both}
use Rattle.field.specs.Field.{p}
use Rattle.pieces.specs.Setting.{Setting, State, Cols, copy_room, special_room, is_finished, stands}
use Rattle.pieces.specs.Cells.{room_for_cells}

-- the test holds of the m numbers from n on
unfoldable pub every_from : ℕ → ℕ → (ℕ → Bool) → Bool
every_from n zero f = true
every_from n (suc m) f = let rest = every_from (suc n) m f in pick (f n) rest false

-- "16 rows, S words or cells incomplete"
unfoldable pub complete : Setting → State → Bool
complete x s =
    both (eqb s.row_count x.trace) (both (eqb s.word_count (special_room x)) (eqb s.cell_count (copy_room x)))

-- "17 a gate in no row": of the listed gates
unfoldable pub all_used : ℕ → List ℕ → Bool
all_used many used = every_from 0 many (λ g. pick (eqb (get_or used g 0) 0) false true)

-- "18 scratch with a value not below p or, where seen, a first cell outside": of one variable, for `cells` copy cells
unfoldable pub variable_fine : ℕ → List ℕ → ℕ → Bool
variable_fine cells scratch v =
    pick (ltb (get_or scratch (2 * v) 0) p) (pick (eqb (get_or scratch (2 * v) 0) 0) true (ltb (get_or scratch (2 * v + 1) 0) cells)) false

unfoldable pub scratch_fine : ℕ → ℕ → List ℕ → Bool
scratch_fine vars cells scratch = every_from 0 vars (variable_fine cells scratch)

-- "Finish: 19; 10; 16 ..; 17 ..; 18 .."
unfoldable pub finish_number : Setting → State → Cols → ℕ
finish_number x s b =
    pick (stands x s)
    (pick (room_for_cells x b)
    (pick (complete x s)
    (pick (all_used x.gates s.used) (pick (scratch_fine x.variables (copy_room x) b.scratch) 0 18) 17)
    16)
    10)
    19

-- "Finishing takes the seen variables by rising index and writes each value to its first cell."
unfoldable pub write_back : ℕ → List ℕ → List ℕ → List ℕ
write_back v scratch copies =
    pick (eqb (get_or scratch (2 * v) 0) 0) copies (set copies (get_or scratch (2 * v + 1) 0) (get_or scratch (2 * v) 0))

-- the m variables from v on
unfoldable pub finish_from : ℕ → ℕ → List ℕ → List ℕ → List ℕ
finish_from v zero scratch copies = copies
finish_from v (suc m) scratch copies = finish_from (suc v) m scratch (write_back v scratch copies)

-- the copy buffer after an accepted finishing; scratch stays
abbrev pub finished_copies : Setting → Cols → List ℕ
finished_copies x b = finish_from 0 x.variables b.scratch b.copies

abbrev pub finished_state : State → State
finished_state s =
    record {
      row_count = s.row_count;
      word_count = s.word_count;
      cell_count = s.cell_count;
      table_count = s.table_count;
      stacked = s.stacked;
      used = s.used;
      phase = is_finished;
    }

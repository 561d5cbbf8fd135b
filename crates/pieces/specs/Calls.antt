-- 01, 'Columns by pieces': calls, and lists of them.
--
-- Main definitions: `Call`, `number`, `taken`, `after`, `run`.
use Rattle.std.specs.Prelude.{List, [], ◌∷◌, ℕ, eqb}
use Rattle.base.specs.Pick.{pick}
use Rattle.pieces.specs.Setting.{Setting, Held, cols}
use Rattle.pieces.specs.Rows.{rows_number, rows_written, rows_state}
use Rattle.pieces.specs.SWords.{s_words_number, s_words_written, s_words_state}
use Rattle.pieces.specs.Cells.{cells_number, cells_written, cells_state}
use Rattle.pieces.specs.Tables.{tables_number, tables_written, tables_state}
use Rattle.pieces.specs.Finishing.{finish_number, finished_copies, finished_state}

-- "calls that give rows, S words, cells or tables or that finish": a call with its piece
pub data Call : Type 0 where
  rows : List ℕ → Call
  s_words : List ℕ → Call
  cell_words : List ℕ → Call
  table_words : List ℕ → Call
  finishing : Call

-- 0 where the call is accepted, else its refusal number
unfoldable pub number : Setting → Call → Held → ℕ
number x (rows ws) h = rows_number x h.state ws h.store.constants
number x (s_words ws) h = s_words_number x h.state ws h.store.constants
number x (cell_words ws) h = cells_number x h.state ws h.store.cells
number x (table_words ws) h = tables_number x h.state ws h.store.tables
number x finishing h = finish_number x h.state h.store.cells

-- what an accepted call leaves
unfoldable pub taken : Setting → Call → Held → Held
taken x (rows ws) h =
    record {
      state = rows_state h.state ws;
      store = record { constants = rows_written x h.state ws h.store.constants; cells = h.store.cells; tables = h.store.tables };
    }
taken x (s_words ws) h =
    record {
      state = s_words_state h.state ws;
      store = record { constants = s_words_written x h.state ws h.store.constants; cells = h.store.cells; tables = h.store.tables };
    }
taken x (cell_words ws) h =
    record {
      state = cells_state h.state ws;
      store = record { constants = h.store.constants; cells = cells_written h.state ws h.store.cells; tables = h.store.tables };
    }
taken x (table_words ws) h =
    record {
      state = tables_state h.state ws;
      store = record { constants = h.store.constants; cells = h.store.cells; tables = tables_written x h.state ws h.store.tables };
    }
taken x finishing h =
    record {
      state = finished_state h.state;
      store =
          record {
            constants = h.store.constants;
            cells = cols (finished_copies x h.store.cells) h.store.cells.scratch;
            tables = h.store.tables;
          };
    }

-- "A refusal returns its number and the state given; no word is written."
unfoldable pub after : Setting → Call → Held → Held
after x c h = pick (eqb (number x c h) 0) (taken x c h) h

-- "Each later call gets the state that the call before it gave back, .. and the same buffers."
unfoldable pub run : Setting → List Call → Held → Held
run x [] h = h
run x (c ∷ cs) h = run x cs (after x c h)

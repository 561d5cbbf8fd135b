-- 01, 'Columns by pieces': opening.
--
-- Main definitions: `open_number`, `open_store`, `open_state`, `zero_state`.
use Rattle.std.specs.Prelude.{◌++◌, ℕ, length, drop, replicate, leb, Bool}
use Rattle.base.specs.Pick.{pick, both}
use Rattle.base.specs.Limits.{most_gates}
use Rattle.pieces.specs.Setting.{Setting, State, Store, Cols, cols, Held, constant_room, copy_room, scratch_room, table_room, never_opened, is_opened}
use Rattle.pieces.specs.Writing.{cleared}

-- "10, a buffer too short": all four are lent
unfoldable pub room_to_open : Setting → Store → Bool
room_to_open x b =
    both (leb (constant_room x) (length b.constants))
    (both (leb (copy_room x) (length b.cells.copies))
    (both (leb (scratch_room x) (length b.cells.scratch)) (leb (table_room x) (length b.tables))))

-- "Open: 19; 10; 9 candidates reach p."
unfoldable pub open_number : Setting → Store → ℕ
open_number x b = pick x.sound (pick (room_to_open x b) x.labelled 10) 19

-- "Opening zeroes all named words and writes labels; words beyond them keep their values."
abbrev pub open_cells : Setting → Cols → Cols
open_cells x b = cols (x.labels ++ drop (copy_room x) b.copies) (cleared (scratch_room x) b.scratch)

abbrev pub open_store : Setting → Store → Store
open_store x b =
    record { constants = cleared (constant_room x) b.constants; cells = open_cells x b.cells; tables = cleared (table_room x) b.tables }

-- a state before its first piece, in a phase: a mark for each gate that may be listed, none made
abbrev pub start_state : ℕ → State
start_state phase =
    record { row_count = 0; word_count = 0; cell_count = 0; table_count = 0; stacked = 0; used = replicate most_gates 0; phase = phase }

abbrev pub open_state : State
open_state = start_state is_opened

-- "a plan, path or state of zeros, which counts as never opened"
abbrev pub zero_state : State
zero_state = start_state never_opened

-- what an accepted opening holds: "A fresh opening is an accepted one with the plan that planning gave, whatever its buffers held."
abbrev pub fresh : Setting → Store → Held
fresh x b = record { state = open_state; store = open_store x b }

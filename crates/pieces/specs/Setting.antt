-- 01, 'Columns by pieces': what a plan fixes for the columns, the state between calls, the lent buffers, and the test for a made-up state (19).
--
-- Main definitions: `Setting`, `barred`, `State`, `Store`, `Held`, the four rooms, `counts_fit`, `stands`.
use Rattle.std.specs.Prelude.{Bool, false, List, ℕ, ◌+◌, ◌*◌, leb, eqb}
use Rattle.base.specs.Pick.{pick, both}

-- What the columns need of a plan. A reader of a setting knows no tree and no field: only paths as digits and labels as words.
pub record Setting : Type 0 where
  pub sound : Bool  -- the plan is not a made-up one
  pub trace : ℕ  -- N, "the trace length"
  pub copied : ℕ  -- C, "copy columns"
  pub special : ℕ  -- S, "specialised constant columns"
  pub variables : ℕ  -- V, "variables"
  pub lookup : Bool  -- modes 1 to 4
  pub width : ℕ  -- W, "lookup width"
  pub gates : ℕ  -- how many gates are listed
  pub height : ℕ  -- K, "the greatest constants plus depth"
  pub path : ℕ → List ℕ  -- of a gate, by its place in the list: "1 left, 0 right; a dropped gate's is empty"
  pub own : ℕ → ℕ  -- the number of constants that a gate has
  pub placed : ℕ → Bool  -- the gate stands at a leaf: "A gate list's only gate counts as placed."
  pub evaluated : ℕ → Bool  -- the gate is of kind 0
  pub blocked : Bool  -- the all-0 path is not of kind 1
  pub labelled : ℕ  -- 0, or the number with which the labels are refused
  pub labels : List ℕ  -- of all copy cells, column by column

-- 02, Change 4: "a kind 2 row in a longer list whose all-0 path is not of kind 1": in a longer list just the gates of kind 2 are not placed
abbrev pub barred : Setting → ℕ → Bool
barred x g = pick (x.placed g) false x.blocked

-- 01's state: what a call hands back and the next one gets. A variable is seen by its scratch words, not here.
pub record State : Type 0 where
  pub row_count : ℕ
  pub word_count : ℕ  -- S words
  pub cell_count : ℕ
  pub table_count : ℕ
  pub stacked : ℕ  -- rows of the tables so far
  pub used : List ℕ  -- a mark for each gate: 0 where it is in no row yet
  pub phase : ℕ  -- 0 never opened, 1 open, 2 finished

abbrev pub never_opened : ℕ
never_opened = 0

abbrev pub is_opened : ℕ
is_opened = 1

abbrev pub is_finished : ℕ
is_finished = 2

-- the copy buffer and the scratch words, which the cells write together
pub record Cols : Type 0 where
  pub copies : List ℕ
  pub scratch : List ℕ

abbrev pub cols : List ℕ → List ℕ → Cols
cols copies scratch = record { copies = copies; scratch = scratch }

-- the four lent buffers
pub record Store : Type 0 where
  pub constants : List ℕ
  pub cells : Cols
  pub tables : List ℕ

-- "Each later call gets the state that the call before it gave back, the first one the opening's, and the same buffers."
pub record Held : Type 0 where
  pub state : State
  pub store : Store

-- "Constant buffer: K+S columns." "Copy buffer: C columns." "Scratch: two words a variable" "Table buffer, modes 1 to 4: W content columns and one of table numbers"
abbrev pub constant_room : Setting → ℕ
constant_room x = (x.height + x.special) * x.trace

abbrev pub copy_room : Setting → ℕ
copy_room x = x.copied * x.trace

abbrev pub scratch_room : Setting → ℕ
scratch_room x = 2 * x.variables

abbrev pub table_room : Setting → ℕ
table_room x = pick x.lookup ((x.width + 1) * x.trace) 0

-- the sections' lengths; in mode 0 there are no tables
abbrev pub special_room : Setting → ℕ
special_room x = x.special * x.trace

-- "over 255 tables"
abbrev pub most_tables : ℕ
most_tables = 255

-- no "count past its section"
unfoldable pub counts_fit : Setting → State → Bool
counts_fit x s =
    both (leb s.row_count x.trace)
    (both (leb s.word_count (special_room x))
    (both (leb s.cell_count (copy_room x))
    (both (leb s.table_count (pick x.lookup most_tables 0)) (leb s.stacked (pick x.lookup x.trace 0)))))

-- "It is given for a made-up state too: such a plan, a count past its section, never opened, or finished."
unfoldable pub stands : Setting → State → Bool
stands x s = both x.sound (both (eqb s.phase is_opened) (counts_fit x s))

-- 01, 'Listing': "as above in section order". The numbers of a whole circuit whose sections come as one piece each, told without a word written.
--
-- Main definitions: `first_refusal`, `sections`, `last_tests`, `finish_tested`, `sections_number`; `contents_number`, `unpadded_number`, without a buffer.
use Rattle.std.specs.Prelude.{List, [], ◌∷◌, ℕ, ◌*◌, eqb, leb, length, set}
use Rattle.base.specs.Firsts.{or_number}
use Rattle.base.specs.Pick.{pick, both}
use Rattle.labels.specs.Ranges.{longest_trace}
use Rattle.pieces.specs.Setting.{Setting, State, Store, Held, stands}
use Rattle.pieces.specs.Records.{rows_of, tables_of}
use Rattle.pieces.specs.Opening.{open_number, open_state, fresh}
use Rattle.pieces.specs.Rows.{gates_of, rows_fault, rows_state, marked}
use Rattle.pieces.specs.SWords.{s_words_fault, s_words_state}
use Rattle.pieces.specs.Cells.{cells_fault, cells_state, room_for_cells}
use Rattle.pieces.specs.Tables.{stack_of, tables_fault, tables_state}
use Rattle.pieces.specs.Finishing.{complete, all_used}
use Rattle.pieces.specs.Calls.{Call, rows, s_words, cell_words, table_words, number, after, run}

-- the number of the first call in a list that is refused, 0 where none is: "Each later call gets the state that the call before it gave back"
unfoldable pub first_refusal : Setting → List Call → Held → ℕ
first_refusal x [] h = 0
first_refusal x (c ∷ cs) h = let rest = first_refusal x cs (after x c h) in or_number (number x c h) rest

-- "Sections, each after its count: .. rows ..; S words; cell words; tables": one call for each
abbrev pub sections : List ℕ → List ℕ → List ℕ → List ℕ → List Call
sections r s c t = rows r ∷ s_words s ∷ cell_words c ∷ table_words t ∷ []

-- "16 rows, S words or cells incomplete; 17 a gate in no row"
abbrev pub last_tests : Setting → State → ℕ
last_tests x s = pick (complete x s) (pick (all_used x.gates s.used) 0 17) 16

-- "Finish: 19; 10; 16 ..; 17 ..": all but 18, which asks what scratch holds once the cells are written
unfoldable pub finish_tested : Setting → Held → ℕ
finish_tested x h = pick (stands x h.state) (pick (room_for_cells x h.store.cells) (last_tests x h.state) 10) 19

-- "Open: 19; 10; 9", then the sections, then finishing: the first refusal, for lent buffers b
unfoldable pub sections_number : Setting → Store → List ℕ → List ℕ → List ℕ → List ℕ → ℕ
sections_number x b r s c t =
    let calls = sections r s c t in
    let given = first_refusal x calls (fresh x b) in
    let last = finish_tested x (run x calls (fresh x b)) in
    or_number (open_number x b) (or_number given last)

-- ---- the same of a circuit by itself, with no buffer lent
-- the first fault of S words, cells and tables, each section from its start on; S words and cells are counted against columns of n words
abbrev pub later_under : Setting → ℕ → List ℕ → List ℕ → List ℕ → ℕ
later_under x n s c t =
    or_number (s_words_fault (x.special * n) 0 s)
    (or_number (cells_fault (x.copied * n) x.variables 0 c) (tables_fault x.lookup x.width x.trace (stack_of open_state) (tables_of t)))

-- of all four sections
abbrev pub pieces_under : Setting → ℕ → List ℕ → List ℕ → List ℕ → List ℕ → ℕ
pieces_under x n r s c t = or_number (rows_fault (gates_of x) x.trace 0 (rows_of r)) (later_under x n s c t)

-- for columns of the trace length: what the calls one after another refuse first (`first-Pieces`), and the state after them
abbrev pub pieces_fault : Setting → List ℕ → List ℕ → List ℕ → List ℕ → ℕ
pieces_fault x r s c t = pieces_under x x.trace r s c t

abbrev pub after_pieces : List ℕ → List ℕ → List ℕ → List ℕ → State
after_pieces r s c t = tables_state (cells_state (s_words_state (rows_state open_state r) s) c) t

-- every number of opening, the sections and finishing but 19, 10 and 18, which speak of a plan and of buffers: what is wrong with the circuit itself
-- (`number_contents`)
unfoldable pub contents_number : Setting → List ℕ → List ℕ → List ℕ → List ℕ → ℕ
contents_number x r s c t = or_number x.labelled (or_number (pieces_fault x r s c t) (last_tests x (after_pieces r s c t)))

-- 16 and 17 of a circuit that is still to be padded, with so many S words and cells and with marks u: S columns and copy columns have n words, and no row is
-- missing, since each missing one becomes a row of gate g
unfoldable pub unpadded_last : Setting → ℕ → ℕ → ℕ → ℕ → List ℕ → ℕ
unpadded_last x n g words cells u =
    pick (both (eqb words (x.special * n)) (eqb cells (x.copied * n)))
    (pick (all_used x.gates (set u g 1)) 0 17)
    16

-- 02, Change 1: "S words and cells are counted against the given N (13, 16); other faults are the padded circuit's", whose setting x is; n is the given N, and
-- the missing rows become rows of gate g
unfoldable pub unpadded_number : Setting → ℕ → ℕ → List ℕ → List ℕ → List ℕ → List ℕ → ℕ
unpadded_number x n g r s c t =
    or_number x.labelled (or_number (pieces_under x n r s c t) (unpadded_last x n g (length s) (length c) (marked open_state.used (rows_of r))))

-- of a plan that any words may have made: 19 first
abbrev pub contents_call : Setting → List ℕ → List ℕ → List ℕ → List ℕ → ℕ
contents_call x r s c t = pick x.sound (contents_number x r s c t) 19

-- "An unpadded circuit's N is 0..65,536": another one is 1
abbrev pub unpadded_call : Setting → ℕ → ℕ → List ℕ → List ℕ → List ℕ → List ℕ → ℕ
unpadded_call x n g r s c t = pick x.sound (pick (leb n longest_trace) (unpadded_number x n g r s c t) 1) 19

-- 02, Change 1, 'Padding to the trace length': what a call that pads answers and leaves, for any words and any buffer.
--
-- Main definitions: `least`, `length_of`, `filler_of`, `fillers`, `stretched`, `padded`, `pad_number`, `pad_answer`, `pad_left`.
use Rattle.std.specs.Prelude.{List, [], ◌∷◌, ◌++◌, ℕ, zero, suc, ◌+◌, ◌-◌, ◌*◌, ◌^◌, max, length, drop, replicate, leb, ltb, eqb}
use Rattle.base.specs.Exponent.{exponent}
use Rattle.base.specs.Firsts.{or_number}
use Rattle.base.specs.Pick.{pick}
use Rattle.selector.specs.Gates.{kind_of}
use Rattle.selector.specs.Refusals.{count_of_gates}
use Rattle.labels.specs.Ranges.{longest_trace}
use Rattle.parameters.specs.Parameters.{parameters_at}
use Rattle.parameters.specs.declared.parameters.Parameters.{Parameters}
use Rattle.tree.specs.Plan.{plan_number}
use Rattle.pieces.specs.Setting.{Setting}
use Rattle.pieces.specs.Records.{rows_of, tables_of}
use Rattle.pieces.specs.Cells.{placeholder}
use Rattle.pieces.specs.Tables.{sum_rows}
use Rattle.columns.specs.Sections.{unpadded_number}
use Rattle.claim.specs.Statement.{setting_for}
use Rattle.listing.specs.Listing.{Words, Reading, whole, refused, read}
use Rattle.listing.specs.Writing.{written}
use Rattle.writer.specs.Besides.{besides}
use Rattle.writer.specs.Hand.{hand_answer, hand_left}
use Rattle.writer.specs.Hand.{Wrote}

-- "An unpadded circuit's N is 0..65,536, the height of its S and cell columns": the given N
abbrev pub given : Words → ℕ
given w = (parameters_at w.parameters).trace

-- "not below used rows plus one, the table rows and N": used rows are the row records, table rows are summed as whole numbers
unfoldable pub least : Words → ℕ
least w = max (length (rows_of w.rows) + 1) (max (sum_rows 0 (tables_of w.tables)) (given w))

-- "The length is the smallest power of two" not below these
unfoldable pub length_of : Words → ℕ
length_of w = 2 ^ exponent (least w)

-- the parameters with a trace length of n
abbrev pub with_trace : ℕ → Parameters → Parameters
with_trace n p =
    record {
      trace = n;
      copy = p.copy;
      allowed = p.allowed;
      specialised = p.specialised;
      variables = p.variables;
      mode = p.mode;
      width = p.width;
      share = p.share;
    }

-- the setting of the padded circuit
abbrev pub padded_setting : Words → Setting
padded_setting w = setting_for (with_trace (length_of w) (parameters_at w.parameters)) w.gates

-- "the first kind 1 gate", looked for k times from g on; the number of gates where none is listed
unfoldable pub filler_from : ℕ → ℕ → List ℕ → ℕ
filler_from zero g gs = g
filler_from (suc k) g gs = pick (eqb (kind_of gs g) 1) g (filler_from k (suc g) gs)

abbrev pub filler_of : List ℕ → ℕ
filler_of gs = filler_from (count_of_gates gs) 0 gs

-- "Missing rows become those of the first kind 1 gate": n records of gate g without constants
unfoldable pub fillers : ℕ → ℕ → List ℕ
fillers zero g = []
fillers (suc n) g = g ∷ (0 ∷ fillers n g)

-- k columns of n words, each filled up to l words
abbrev pub stretched : ℕ → ℕ → ℕ → ℕ → List ℕ → List ℕ
stretched fill n l k ws = besides n (l - n) k ws (replicate (k * (l - n)) fill)

-- "Missing rows become those of the first kind 1 gate, missing cells 9223372036854775808, missing S words zero."
abbrev pub padded_to : ℕ → ℕ → Words → Words
padded_to l g w =
    record {
      parameters = l ∷ drop 1 w.parameters;
      gates = w.gates;
      rows = w.rows ++ fillers (l - length (rows_of w.rows)) g;
      s_words = stretched 0 (given w) l (parameters_at w.parameters).specialised w.s_words;
      cells = stretched placeholder (given w) l (parameters_at w.parameters).copy w.cells;
      tables = w.tables;
    }

abbrev pub padded : Words → Words
padded w = padded_to (length_of w) (filler_of w.gates) w

-- "Parameter and gate faults come first": 1 to 8. N has its own range; 1 is in every range of a trace length and stands for "the parameters but N"
unfoldable pub planning_number : Words → ℕ
planning_number w = pick (leb (given w) longest_trace) (plan_number (with_trace 1 (parameters_at w.parameters)) w.gates) 1

-- "After the plan, turned away: 21 no kind 1 gate is listed, tested first; 22 the length passes 65,536, tested second; both before opening." "S words and cells
-- are counted against the given N (13, 16); other faults are the padded circuit's"
unfoldable pub pad_number : Words → ℕ
pad_number w =
    or_number (planning_number w)
    (pick (ltb (filler_of w.gates) (count_of_gates w.gates))
    (pick (leb (length_of w) longest_trace)
    (unpadded_number (padded_setting w) (given w) (filler_of w.gates) w.rows w.s_words w.cells w.tables)
    22)
    21)

-- "Circuits come and go as listings.": 20 first
abbrev pub pad_by : Reading → List ℕ → Wrote
pad_by (whole w) out = hand_answer (pad_number w) (written (padded w)) out
pad_by (refused n) out = record { number = n; words = 0 }

abbrev pub pad_left_by : Reading → List ℕ → List ℕ
pad_left_by (whole w) out = hand_left (pad_number w) (written (padded w)) out
pad_left_by (refused n) out = out

unfoldable pub pad_answer : List ℕ → List ℕ → Wrote
pad_answer ws out = pad_by (read ws) out

unfoldable pub pad_left : List ℕ → List ℕ → List ℕ
pad_left ws out = pad_left_by (read ws) out

-- The sections' rules computed at settings written out here: a piece of rows, cells with finishing, without and with refused calls, and the order of a row's numbers. So a rule of this crate that is
-- changed is refused here; P7 and P9 themselves, through planning, opening and the caller's chain, stand in `cases`.
--
-- Main statement: `worked`.
use Rattle.std.specs.Prelude.{◌≡◌, refl, Bool, true, false, List, [], ◌∷◌, ℕ, zero, suc, ◌-◌, replicate, ltb}
use Rattle.field.specs.Field.{p}
use Rattle.pieces.specs.Setting.{Setting, Store, cols, counts_fit, stands}
use Rattle.pieces.specs.Records.{whole, read_by, rows_of, first_fault, all_below}
use Rattle.pieces.specs.Writing.{put, padded, put_lines}
use Rattle.pieces.specs.Opening.{fresh}
use Rattle.pieces.specs.Rows.{Gates, row_fault, rows_number, row_lines, rows_written, marked}
use Rattle.pieces.specs.SWords.{s_words_number}
use Rattle.pieces.specs.Cells.{cell_fault, cells_number, room_for_cells, first_seen, seen_again, place_cell, cells_run, placeholder}
use Rattle.pieces.specs.Tables.{tables_number}
use Rattle.pieces.specs.Finishing.{every_from, complete, all_used, variable_fine, scratch_fine, finish_number, write_back, finish_from}
use Rattle.pieces.specs.Calls.{Call, rows, cell_words, finishing, number, taken, after, run}

-- the paths of P6: "paths 1, 01, 00"
unfoldable pub paths : ℕ → List ℕ
paths zero = 1 ∷ []
paths (suc zero) = 0 ∷ (1 ∷ [])
paths (suc (suc g)) = 0 ∷ (0 ∷ [])

-- the constants of P6: "gates (0,2,1), (0,1,0), (1,0,0)"
unfoldable pub constants : ℕ → ℕ
constants zero = 1
constants (suc g) = 0

-- N = 4 and no copy cells to speak of: one column of labels. Which gates are placed, and whether the all-0 path is of another kind than 1, is left open
unfoldable pub p7_setting : (ℕ → Bool) → Bool → Setting
p7_setting placed blocked =
    record {
      sound = true;
      trace = 4;
      copied = 1;
      special = 0;
      variables = 0;
      lookup = false;
      width = 0;
      gates = 3;
      height = 2;
      path = paths;
      own = constants;
      placed = placed;
      evaluated = λ g. ltb g 2;
      blocked = blocked;
      labelled = 0;
      labels = 1 ∷ (2 ∷ (3 ∷ (4 ∷ [])));
    }

-- N = 2, C = 2, one gate without path or constants, one variable: labels 1, p − 1, 7, p − 7
unfoldable pub p9_setting : Setting
p9_setting =
    record {
      sound = true;
      trace = 2;
      copied = 2;
      special = 0;
      variables = 1;
      lookup = false;
      width = 0;
      gates = 1;
      height = 0;
      path = λ g. [];
      own = λ g. 0;
      placed = λ g. true;
      evaluated = λ g. false;
      blocked = false;
      labelled = 0;
      labels = 1 ∷ ((p - 1) ∷ (7 ∷ ((p - 7) ∷ [])));
    }

-- one gate with a constant, whose rows are turned away
unfoldable pub turned_away : Gates
turned_away = record { many = 1; own = λ g. 1; bar = λ g. true }

-- buffers of one old word more than is named
unfoldable pub old : ℕ → ℕ → ℕ → Store
old k c s = record { constants = replicate k 9; cells = cols (replicate c 9) (replicate s 9); tables = [] }

unfoldable pub p7_words : List ℕ
p7_words = 0 ∷ (1 ∷ (5 ∷ (1 ∷ (0 ∷ (2 ∷ (0 ∷ (2 ∷ (0 ∷ []))))))))

unfoldable pub p9_calls : List Call
p9_calls = rows (0 ∷ (0 ∷ (0 ∷ (0 ∷ [])))) ∷ (cell_words (0 ∷ (0 ∷ (0 ∷ (placeholder ∷ [])))) ∷ (finishing ∷ []))

-- the same pieces with refused calls among them: a gate that is not listed, finishing too early, an index that is too high, finishing twice
unfoldable pub p9_refused : List Call
p9_refused =
    rows (1 ∷ (0 ∷ [])) ∷ (rows (0 ∷ (0 ∷ (0 ∷ (0 ∷ [])))) ∷ (finishing ∷ (cell_words (0 ∷ (1 ∷ [])) ∷ (cell_words (0 ∷ (0 ∷ (0 ∷ (placeholder ∷ [])))) ∷ (finishing ∷ (finishing ∷ []))))))

-- P7's setting, and two in which gate 2 is not placed
abbrev all_placed : Setting
all_placed = p7_setting (λ g. true) false

abbrev marker-ends : Setting
marker-ends = p7_setting (λ g. ltb g 2) false

abbrev other_ends : Setting
other_ends = p7_setting (λ g. ltb g 2) true

pub record Worked : Type 0 where
  -- "P7 with N=4 and rows 0 (constant 5), 1, 2, 2: columns 1 0 0 0 and 5 1 0 0."
  pub p7 : (run all_placed (rows p7_words ∷ []) (fresh all_placed (old 9 5 1))).store.constants
      ≡ 1 ∷ (0 ∷ (0 ∷ (0 ∷ (5 ∷ (1 ∷ (0 ∷ (0 ∷ (9 ∷ []))))))))
  -- "P9 N=2, C=2, one variable in the first three cells: 7 1, p−1 p−7."
  pub p9 : (run p9_setting p9_calls (fresh p9_setting (old 1 5 3))).store.cells.copies ≡ 7 ∷ (1 ∷ ((p - 1) ∷ ((p - 7) ∷ (9 ∷ []))))
  -- "A refusal returns its number and the state given; no word is written."
  pub p9_same : run p9_setting p9_refused (fresh p9_setting (old 1 5 3)) ≡ run p9_setting p9_calls (fresh p9_setting (old 1 5 3))
  -- "23 a kind 2 row in a longer list whose all-0 path is not of kind 1": of gate 2, and of no other
  pub taken : number marker-ends (rows (2 ∷ (0 ∷ []))) (fresh marker-ends (old 9 5 1)) ≡ 0
  pub barred_23 : number other_ends (rows (2 ∷ (0 ∷ []))) (fresh other_ends (old 9 5 1)) ≡ 23
  pub placed : number other_ends (rows (0 ∷ (1 ∷ (5 ∷ [])))) (fresh other_ends (old 9 5 1)) ≡ 0
  -- "23 .., tested for each row after 12": two constants, a constant that is not below p, and a row past N
  pub after_12 : row_fault turned_away 4 0 (whole 0 2 (p ∷ (p ∷ []))) ≡ 12
  pub before_11 : row_fault turned_away 4 0 (whole 0 1 (p ∷ [])) ≡ 23
  pub before_13 : row_fault turned_away 4 4 (whole 0 1 (7 ∷ [])) ≡ 23

pub worked : Worked
unfolding p7_setting p9_setting turned_away p7_words p9_calls p9_refused paths constants old counts_fit stands read_by rows_of first_fault all_below put padded put_lines row_fault rows_number row_lines rows_written marked s_words_number cell_fault cells_number room_for_cells first_seen seen_again place_cell cells_run tables_number every_from complete all_used variable_fine scratch_fine finish_number write_back finish_from number taken after run
worked = record { p7 = refl; p9 = refl; p9_same = refl; taken = refl; barred_23 = refl; placed = refl; after_12 = refl; before_11 = refl; before_13 = refl }

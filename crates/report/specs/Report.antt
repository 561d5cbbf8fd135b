-- 01, 'Listing': the whole output, byte by byte. "Whole output: D, K, F; gate and path digits; constant column and words; copy column and words; then table columns
-- as `table`; then id indexes. Fields are parted by one space, path digits by nothing; an empty path or id list ends its line after the field before it."
--
-- Main definitions: `selector_field`, `report_lines`, `refused_line`, `report_of`.
use Rattle.std.specs.Prelude.{Bool, List, [], ◌∷◌, ◌++◌, ℕ, zero, suc, ◌+◌, ◌*◌, eqb, leb, ltb, length, take, drop}
use Rattle.base.specs.Pick.{pick, both}
use Rattle.octets.specs.Text.{field, fields}
use Rattle.pieces.specs.Setting.{Setting, constant_room, copy_room, table_room}
use Rattle.selector.specs.Paths.{Selector, a_path, no_selector, unknown_gate}
use Rattle.tree.specs.Plan.{plan_fault, plan_selector, table_id_answer}
use Rattle.tree.specs.declared.plan.Plan.{Plan}
use Rattle.columns.specs.Intake.{setting_of}

-- the end of a line, and the words that lines begin with, in ASCII
abbrev pub newline : List ℕ
newline = 10 ∷ []

-- plan
abbrev pub plan_name : List ℕ
plan_name = 112 ∷ 108 ∷ 97 ∷ 110 ∷ []

-- path
abbrev pub path_name : List ℕ
path_name = 112 ∷ 97 ∷ 116 ∷ 104 ∷ []

-- none
abbrev pub none_name : List ℕ
none_name = 110 ∷ 111 ∷ 110 ∷ 101 ∷ []

-- constant
abbrev pub constant_name : List ℕ
constant_name = 99 ∷ 111 ∷ 110 ∷ 115 ∷ 116 ∷ 97 ∷ 110 ∷ 116 ∷ []

-- copy
abbrev pub copy_name : List ℕ
copy_name = 99 ∷ 111 ∷ 112 ∷ 121 ∷ []

-- table
abbrev pub table_name : List ℕ
table_name = 116 ∷ 97 ∷ 98 ∷ 108 ∷ 101 ∷ []

-- ids
abbrev pub ids_name : List ℕ
ids_name = 105 ∷ 100 ∷ 115 ∷ []

-- refused
abbrev pub refused_name : List ℕ
refused_name = 114 ∷ 101 ∷ 102 ∷ 117 ∷ 115 ∷ 101 ∷ 100 ∷ []

-- "A refusal prints `refused` and the number alone."
abbrev pub refused_line : ℕ → List ℕ
refused_line n = refused_name ++ field n ++ newline

-- "D, K, F"
abbrev pub plan_line : Plan → List ℕ
plan_line q = plan_name ++ fields (q.degree ∷ q.constants ∷ q.factor ∷ []) ++ newline

-- a step of a path as a digit
abbrev pub digit : ℕ → List ℕ
digit d = pick (eqb d 1) (49 ∷ []) (48 ∷ [])

-- "path digits by nothing"
unfoldable pub digits_of : List ℕ → List ℕ
digits_of [] = []
digits_of (d ∷ ds) = digit d ++ digits_of ds

-- "an empty path .. ends its line after the field before it"
abbrev pub steps_field : List ℕ → List ℕ
steps_field [] = []
steps_field (d ∷ ds) = 32 ∷ digits_of (d ∷ ds)

-- 02, Change 2: "the listing prints `path 1 none`"; only listed gates have a line
abbrev pub selector_field : Selector → List ℕ
selector_field (a_path p) = steps_field p
selector_field no_selector = 32 ∷ none_name
selector_field unknown_gate = []

-- "gate and path digits"
abbrev pub path_line : (ℕ → Selector) → ℕ → List ℕ
path_line selector g = path_name ++ field g ++ selector_field (selector g) ++ newline

-- the lines of the gates g, g + 1, ..
unfoldable pub path_lines : (ℕ → Selector) → ℕ → ℕ → List ℕ
path_lines selector g zero = []
path_lines selector g (suc many) = path_line selector g ++ path_lines selector (suc g) many

-- "Column c of a buffer is its words cN to cN+N−1."
abbrev pub column : ℕ → List ℕ → ℕ → List ℕ
column n buffer c = take n (drop (c * n) buffer)

-- a name, the column and its words
abbrev pub column_line : List ℕ → ℕ → List ℕ → ℕ → List ℕ
column_line name n buffer c = name ++ field c ++ fields (column n buffer c) ++ newline

-- the lines of the columns c, c + 1, ..
unfoldable pub column_lines : List ℕ → ℕ → List ℕ → ℕ → ℕ → List ℕ
column_lines name n buffer c zero = []
column_lines name n buffer c (suc many) = column_line name n buffer c ++ column_lines name n buffer (suc c) many

-- "Table buffer, modes 1 to 4: W content columns and one of table numbers"
abbrev pub table_columns : Setting → ℕ
table_columns x = pick x.lookup (x.width + 1) 0

-- "an empty .. id list ends its line after the field before it"
abbrev pub ids_line : Plan → List ℕ
ids_line q = ids_name ++ pick (ltb 0 (table_id_answer q).count) (field (table_id_answer q).index) [] ++ newline

-- the lines of a plan and its finished columns
unfoldable pub report_lines : Plan → List ℕ → List ℕ → List ℕ → List ℕ
report_lines q constants copies tables =
    plan_line q
    ++ path_lines (plan_selector q) 0 q.gate_count
    ++ column_lines constant_name q.trace constants 0 (q.constants + q.specialised)
    ++ column_lines copy_name q.trace copies 0 q.copy
    ++ column_lines table_name q.trace tables 0 (table_columns (setting_of q))
    ++ ids_line q

-- the columns of a plan are all there
abbrev pub columns_there : Setting → List ℕ → List ℕ → List ℕ → Bool
columns_there x constants copies tables =
    both (leb (constant_room x) (length constants)) (both (leb (copy_room x) (length copies)) (leb (table_room x) (length tables)))

-- the report of any plan and buffers: a made-up plan is 19, "After 19 every call with lent columns or scratch tests 10, a buffer too short."
unfoldable pub report_of : Plan → List ℕ → List ℕ → List ℕ → List ℕ
report_of q constants copies tables =
    pick (eqb (plan_fault q) 0)
    (pick (columns_there (setting_of q) constants copies tables) (report_lines q constants copies tables) (refused_line 10))
    (refused_line 19)

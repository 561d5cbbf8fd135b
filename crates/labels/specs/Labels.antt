-- 01, 'Labels': the domain generator, the representatives of the columns, the labels of the cells, and the answers to who asks for them.
--
-- Main definitions: `domain_generator`; `Columns`, `tried`, `search_from`, `found` (the search); `taken_one`, `taken_from`, `powers_taken` (how many N-th powers it takes);
-- `representatives_number`, `representatives_of`, `powers_of`, `kept_of`, `taken_of`; `label_of`, `label_number`, `label_answer`; `fill_number`, `labels_written`.
use Rattle.std.specs.Prelude.{Bool, true, false, List, [], ◌∷◌, ◌++◌, ℕ, zero, suc, ◌+◌, ◌-◌, ◌*◌, ◌/◌, ◌%◌, ltb, leb, eqb, length, get_or, drop, replicate}
use Rattle.base.specs.Pick.{pick}
use Rattle.base.specs.Exponent.{exponent}
use Rattle.base.specs.Tables.{table}
use Rattle.field.specs.Field.{p, fmul, fpow, generator, is_non_residue, squared}
use Rattle.labels.specs.Refusals.{out_of_range, candidates_reach_p, buffer_too_short}
use Rattle.labels.specs.Ranges.{ranges_fit, most_columns}

-- "w is the generator squared 32−log2(N) times."
unfoldable pub domain_generator : ℕ → ℕ
domain_generator n = squared (32 - exponent n) generator

-- x is none of the words
unfoldable pub absent : ℕ → List ℕ → Bool
absent x [] = true
absent x (y ∷ ys) = pick (eqb x y) false (absent x ys)

-- the columns that have a representative, in order: the representatives, and beside each its N-th power
pub record Columns : Type 0 where
  pub values : List ℕ
  pub powers : List ℕ

abbrev pub columns : List ℕ → List ℕ → Columns
columns vs ps = record { values = vs; powers = ps }

-- "Column 0 has representative 1", and 1 is its N-th power
abbrev pub first_column : Columns
first_column = columns (1 ∷ []) (1 ∷ [])

-- one more column
abbrev pub kept : Columns → ℕ → ℕ → Columns
kept s k power = columns (s.values ++ (k ∷ [])) (s.powers ++ (power ∷ []))

-- The search over the non-residue test and the N-th power as functions, so that it computes with faster ones that are equal.
-- "kept is a non-residue whose N-th power is neither 1 nor that of one kept before": 1 is column 0's.
unfoldable pub tried : (ℕ → Bool) → (ℕ → ℕ) → ℕ → Columns → Columns
tried test power k s = pick (test k) (pick (absent (power k) s.powers) (kept s k (power k)) s) s

-- "candidates 2, 3, 4, ...; [..] until C−1 are kept": from the candidate k on, as many as there are before p, until c columns have theirs
unfoldable pub search_from : (ℕ → Bool) → (ℕ → ℕ) → ℕ → ℕ → ℕ → Columns → Columns
search_from test power zero c k s = s
search_from test power (suc fuel) c k s =
    let more = search_from test power fuel c (suc k) (tried test power k s) in
    pick (ltb (length s.values) c) more s

-- c columns, or as many as the candidates below p give
unfoldable pub found : ℕ → ℕ → Columns
found n c = search_from is_non_residue (λ k. fpow k n) (p - 2) c 2 first_column

-- 02, Change 3: "the number of N-th powers taken: one for each non-residue tried", kept or not
abbrev pub taken_one : (ℕ → Bool) → ℕ → ℕ
taken_one test k = pick (test k) 1 0

-- as many as the search takes from the candidate k on
unfoldable pub taken_from : (ℕ → Bool) → (ℕ → ℕ) → ℕ → ℕ → ℕ → Columns → ℕ
taken_from test power zero c k s = 0
taken_from test power (suc fuel) c k s =
    let more = taken_from test power fuel c (suc k) (tried test power k s) in
    pick (ltb (length s.values) c) (taken_one test k + more) 0

-- as many as the whole search takes; column 0's, which is 1, is not among them
unfoldable pub powers_taken : ℕ → ℕ → ℕ
powers_taken n c = taken_from is_non_residue (λ k. fpow k n) (p - 2) c 2 first_column

-- "9 candidates reach p."
unfoldable pub search_number : ℕ → ℕ → ℕ
search_number n c = pick (ltb (length (found n c).values) c) candidates_reach_p 0

-- the words of a list, then zeros: as many as columns there may be
abbrev pub column_words : List ℕ → List ℕ
column_words xs = xs ++ replicate (most_columns - length xs) 0

-- "Labels asked for by themselves: 1 N or C outside its range, [..]; 9."
unfoldable pub representatives_number : ℕ → ℕ → ℕ
representatives_number n c = pick (ranges_fit n c) (search_number n c) out_of_range

-- "The answer is then zeros": `most_columns` words, the representatives of columns 0 to c - 1 and then zeros
unfoldable pub representatives_of : ℕ → ℕ → List ℕ
representatives_of n c = pick (eqb (representatives_number n c) 0) (column_words (found n c).values) (replicate most_columns 0)

-- 02, Change 3: "each representative's N-th power beside it"; zeros after a refusal, as the representatives are
unfoldable pub powers_of : ℕ → ℕ → List ℕ
powers_of n c = pick (eqb (representatives_number n c) 0) (column_words (found n c).powers) (replicate most_columns 0)

-- how many columns have their representative: all C; none after a refusal
unfoldable pub kept_of : ℕ → ℕ → ℕ
kept_of n c = pick (eqb (representatives_number n c) 0) c 0

-- "with the number of N-th powers taken"; 0 after a refusal
unfoldable pub taken_of : ℕ → ℕ → ℕ
taken_of n c = pick (eqb (representatives_number n c) 0) (powers_taken n c) 0

-- "The label of cell (c, r) is its column's representative times w^r", for any list of representatives. A cell is the number cN+r.
unfoldable pub label_of : ℕ → List ℕ → ℕ → ℕ
label_of n reps cell = fmul (get_or reps (cell / n) 0) (fpow (domain_generator n) (cell % n))

-- "1 N or C outside its range, or a cell outside the C columns; 9."
unfoldable pub label_number : ℕ → ℕ → ℕ → ℕ
label_number n c cell = pick (ranges_fit n c) (pick (ltb cell (c * n)) (search_number n c) out_of_range) out_of_range

-- "The answer is then zeros."
unfoldable pub label_answer : ℕ → ℕ → ℕ → ℕ
label_answer n c cell = pick (eqb (label_number n c cell) 0) (label_of n (representatives_of n c) cell) 0

-- The labels of all cells at the start of lent words, as opening has them ("19; 10; 9"): 1, then 10 "a buffer too short", then 9.
unfoldable pub fill_number : ℕ → ℕ → List ℕ → ℕ
fill_number n c copies = pick (ranges_fit n c) (pick (leb (c * n) (length copies)) (search_number n c) buffer_too_short) out_of_range

-- "Opening [..] writes labels; words beyond them keep their values." A refusal writes no word.
unfoldable pub labels_written : ℕ → ℕ → List ℕ → List ℕ
labels_written n c copies =
    pick (eqb (fill_number n c copies) 0) (table (c * n) (label_of n (representatives_of n c)) ++ drop (c * n) copies) copies

-- 01, 'Columns by pieces': a piece as a list of records, and the first faulty one.
--
-- Main definitions: `Read`, `read_by`, `rows_of`, `tables_of`, `first_fault`, `all_below`.
use Rattle.std.specs.Prelude.{Bool, true, false, List, [], ◌∷◌, ℕ, zero, suc, ◌*◌, length, take, drop, ltb, leb, eqb}
use Rattle.base.specs.Pick.{pick}

-- "Pieces hold whole records": two words, then as many as the two say, or cut short
pub data Read : Type 0 where
  whole : ℕ → ℕ → List ℕ → Read
  cut : Read

-- "each record being as long as its own words say": `size` says how many words follow the first two. A record has two words at the least,
-- so as many turns as there are words are enough.
unfoldable pub read_by : (ℕ → ℕ → ℕ) → ℕ → List ℕ → List Read
read_by size zero ws = []
read_by size (suc f) [] = []
read_by size (suc f) (a ∷ []) = cut ∷ []
read_by size (suc f) (a ∷ (b ∷ ws)) =
    let rest = read_by size f (drop (size a b) ws) in
    pick (leb (size a b) (length ws)) (whole a b (take (size a b) ws) ∷ rest) (cut ∷ [])

-- "rows (gate, number of constants, constants)"
abbrev pub row_size : ℕ → ℕ → ℕ
row_size g n = n

unfoldable pub rows_of : List ℕ → List Read
rows_of ws = read_by row_size (length ws) ws

-- "tables (width, rows, contents row by row)"
abbrev pub table_size : ℕ → ℕ → ℕ
table_size w n = w * n

unfoldable pub tables_of : List ℕ → List Read
tables_of ws = read_by table_size (length ws) ws

-- "first faulty record", "the first faulty word": its number, each one tested as if those before it were taken
unfoldable pub first_fault : {S X : Type 0} → (S → X → ℕ) → (S → X → S) → S → List X → ℕ
first_fault fault next s [] = 0
first_fault fault next s (x ∷ xs) = let rest = first_fault fault next (next s x) xs in pick (eqb (fault s x) 0) rest (fault s x)

-- every word is below n
unfoldable pub all_below : ℕ → List ℕ → Bool
all_below n [] = true
all_below n (w ∷ ws) = let rest = all_below n ws in pick (ltb w n) rest false

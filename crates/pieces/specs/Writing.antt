-- 01, 'Columns by pieces': words written into columns. "Column c of a buffer is its words cN to cN+N−1."
--
-- Main definitions: `put`, `padded`, `put_lines`, `cleared`.
use Rattle.std.specs.Prelude.{List, [], ◌∷◌, ◌++◌, ℕ, zero, suc, ◌+◌, set, drop, replicate}

-- words from place i on, every d-th word
unfoldable pub put : ℕ → List ℕ → ℕ → List ℕ → List ℕ
put d b i [] = b
put d b i (w ∷ ws) = put d (set b i w) (i + d) ws

-- "then zeros": the first n words, zeros past the end
unfoldable pub padded : ℕ → List ℕ → List ℕ
padded zero ws = []
padded (suc n) [] = 0 ∷ padded n []
padded (suc n) (w ∷ ws) = w ∷ padded n ws

-- the lines ls in the rows r, r + 1, .. of k columns of N words: word c of a line stands in column c
unfoldable pub put_lines : ℕ → ℕ → ℕ → List (List ℕ) → List ℕ → List ℕ
put_lines k N r [] b = b
put_lines k N r (l ∷ ls) b = put_lines k N (suc r) ls (put N b r (padded k l))

-- n named words zeroed, "words beyond them keep their values"
abbrev pub cleared : ℕ → List ℕ → List ℕ
cleared n b = replicate n 0 ++ drop n b

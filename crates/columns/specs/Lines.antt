-- Lines written column by column: those that stand in a list of words one after the other, and the column that they make.
--
-- Main definitions: `strided`, `cut_lines`, `column_of`. Main statements: `lines_none`, `lines-column` (one column after the columns before it), `cut-column` (a
-- column of lines in a list is every d-th word), `lines-padded` (only a line's first words are written), and for the loop over a column `strided_turn`, `strided_done`.
use Rattle.std.specs.Prelude.{◌≡◌, refl, ◌≢◌, List, [], ◌∷◌, ◌++◌, map, length, set, drop}
use Rattle.std.proofs.Common.{sym, ap, ◌∙◌, add-one, get_or-drop}
use Prim.Native.Nat.{ℕ, zero, suc, ◌+◌, ◌-◌, ◌*◌, ◌≤◌, ◌<◌}
use native.Mathlib.Omega.{arith}
use Rattle.std.proofs.Math.ListN.{get_or}
use Rattle.std.proofs.lemmas.List.{set_comm}
use Rattle.std.proofs.Math.Seq.{drop-drop}
use Rattle.pieces.specs.Writing.{put, padded, put_lines}
use Rattle.pieces.specs.WriteLaws.{padded-length, padded_all, padded-at, put-append, below_rows}

-- every d-th word, n of them
unfoldable pub strided : ℕ → ℕ → List ℕ → List ℕ
strided d zero ws = []
strided d (suc n) ws = get_or ws 0 0 ∷ strided d n (drop d ws)

-- n lines that stand one after the other, d words apart: the first w words of each
unfoldable pub cut_lines : ℕ → ℕ → ℕ → List ℕ → List (List ℕ)
cut_lines w d zero ws = []
cut_lines w d (suc n) ws = padded w ws ∷ cut_lines w d n (drop d ws)

-- word c of each line
abbrev pub column_of : ℕ → List (List ℕ) → List ℕ
column_of c ls = map (λ (l : List ℕ). get_or l c 0) ls

-- two lines of two words, three words apart, and their second column
example : (cut_lines 2 3 2 (1 ∷ 2 ∷ 9 ∷ 3 ∷ 4 ∷ 9 ∷ []) ≡ (1 ∷ 2 ∷ []) ∷ ((3 ∷ 4 ∷ []) ∷ [])) × (strided 3 2 (2 ∷ 9 ∷ 3 ∷ 4 ∷ 9 ∷ []) ≡ column_of 1 ((1 ∷ 2 ∷ []) ∷ ((3 ∷ 4 ∷ []) ∷ [])))
unfolding cut_lines padded strided
example = (refl, refl)

-- ---- words of other places may be written before or after
put-set : (d : ℕ) (b : List ℕ) (i : ℕ) (ws : List ℕ) (j y : ℕ) → ((c : ℕ) → c < length ws → j ≢ i + c * d) → put d (set b j y) i ws ≡ set (put d b i ws) j y
unfolding put
put-set d b i [] j y h = refl
put-set d b i (w ∷ ws) j y h =
    let n : j ≢ i = λ e. h 0 (omega arith) (omega arith) in
    ap (λ (l : List ℕ). put d l (i + d) ws) (set_comm b j i y w n) ∙ put-set d (set b i w) (i + d) ws j y (λ c q e. h (suc c) (omega arith) (omega arith))

lines-set : (k N r : ℕ) (ls : List (List ℕ)) (b : List ℕ) (j y : ℕ) → k * N ≤ j → r + length ls ≤ N → put_lines k N r ls (set b j y) ≡ set (put_lines k N r ls b) j y
unfolding put_lines
lines-set k N r [] b j y h room = refl
lines-set k N r (l ∷ ls) b j y h room =
    ap (put_lines k N (suc r) ls) (put-set N b r (padded k l) j y (λ c q e. omega (arith, e, below_rows N c r k (omega arith) (rw padded-length at q))))
    ∙ lines-set k N (suc r) ls (put N b r (padded k l)) j y h (omega arith)

-- ---- one column after the columns before it: its rows are consecutive places
padded-next : (c : ℕ) (l : List ℕ) → padded (suc c) l ≡ padded c l ++ (get_or l c 0 ∷ [])
unfolding padded
padded-next zero [] = refl
padded-next zero (w ∷ ws) = refl
padded-next (suc c) [] = ap (λ (l : List ℕ). 0 ∷ l) (padded-next c [])
padded-next (suc c) (w ∷ ws) = ap (λ (l : List ℕ). w ∷ l) (padded-next c ws)

line_column : (c N r : ℕ) (b l : List ℕ) → put N b r (padded (suc c) l) ≡ set (put N b r (padded c l)) (r + c * N) (get_or l c 0)
unfolding put
line_column c N r b l =
    ap (put N b r) (padded-next c l) ∙ put-append N b r (padded c l) (get_or l c 0 ∷ [])
    ∙ ap (λ (k : ℕ). set (put N b r (padded c l)) (r + k * N) (get_or l c 0)) (padded-length c l)

column-next : (c N r : ℕ) (ls : List (List ℕ)) (b : List ℕ) → length ls ≤ N - r → put_lines (suc c) N r ls b ≡ put 1 (put_lines c N r ls b) (r + c * N) (column_of c ls)
unfolding put_lines put
column-next c N r [] b h = refl
column-next c N r (l ∷ ls) b h =
    let z : suc r + c * N ≡ r + c * N + 1 = omega arith in
    let B = put N b r (padded c l) in
    column-next c N (suc r) ls (put N b r (padded (suc c) l)) (omega arith)
    ∙ rw (line_column c N r b l, lines-set c N (suc r) ls B (r + c * N) (get_or l c 0) (omega arith) (omega arith), z)

pub lines_none : (N r : ℕ) (ls : List (List ℕ)) (b : List ℕ) → put_lines 0 N r ls b ≡ b
unfolding put_lines put padded
lines_none N r [] b = refl
lines_none N r (l ∷ ls) b = lines_none N (suc r) ls b

pub lines-column : (c N r : ℕ) (ls : List (List ℕ)) (b : List ℕ) → length ls ≤ N - r → put_lines (c + 1) N r ls b ≡ put 1 (put_lines c N r ls b) (r + c * N) (column_of c ls)
lines-column c N r ls b h = rw add-one (column-next c N r ls b h)

-- ---- lines in a list of words
pub cut-many : (w d n : ℕ) (ws : List ℕ) → length (cut_lines w d n ws) ≡ n
unfolding cut_lines
cut-many w d zero ws = refl
cut-many w d (suc n) ws = ap suc (cut-many w d n (drop d ws))

pub cut-column : (w d n : ℕ) (ws : List ℕ) (c : ℕ) → c < w → column_of c (cut_lines w d n ws) ≡ strided d n (drop c ws)
unfolding cut_lines strided
cut-column w d zero ws c h = refl
cut-column w d (suc n) ws c h =
    let z : c + 0 ≡ c = omega arith in
    let s : c + d ≡ d + c = omega arith in
    let x : get_or (drop c ws) 0 0 ≡ get_or ws c 0 = rw z at (get_or-drop c ws 0 0) in
    let y : drop c (drop d ws) ≡ drop d (drop c ws) = drop-drop c d ws ∙ ap (λ (k : ℕ). drop k ws) (sym s) ∙ sym (drop-drop d c ws) in
    rw (padded-at w ws c h, cut-column w d n (drop d ws) c h, x, y)

pub lines-padded : (k N r : ℕ) (ls : List (List ℕ)) (b : List ℕ) → put_lines k N r ls b ≡ put_lines k N r (map (padded k) ls) b
unfolding put_lines
lines-padded k N r [] b = refl
lines-padded k N r (l ∷ ls) b =
    lines-padded k N (suc r) ls (put N b r (padded k l))
    ∙ ap (λ (x : List ℕ). put_lines k N (suc r) (map (padded k) ls) (put N b r x)) (sym (padded_all k (padded k l) (padded-length k l)))

-- ---- a loop that puts every d-th word: i of them are put, the next one stands at place p
module _ (d n i p : ℕ) (ws b : List ℕ) (k : ℕ) where
  pub strided_turn : i < n → put 1 b k (strided d (n - i) (drop p ws)) ≡ put 1 (set b k (get_or ws p 0)) (k + 1) (strided d (n - (i + 1)) (drop (p + d) ws))
  unfolding strided put
  strided_turn h =
      let e : n - i ≡ suc (n - (i + 1)) = omega arith in
      let z : p + 0 ≡ p = omega arith in
      let x : get_or (drop p ws) 0 0 ≡ get_or ws p 0 = rw z at (get_or-drop p ws 0 0) in
      rw (e, x, drop-drop d p ws)

  pub strided_done : n ≤ i → put 1 b k (strided d (n - i) (drop p ws)) ≡ b
  unfolding strided put
  strided_done h = let e : n - i ≡ 0 = omega arith in rw e

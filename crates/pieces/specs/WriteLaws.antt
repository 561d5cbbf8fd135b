-- Laws of writing: words in place, lines in columns.
--
-- Main definition: `Reads` (what columns hold). Main statements: `put-at`, `put_other`, `padded-at`, `lines_reads` (lines put end to end),
-- `lines_other` (words of other columns are kept), `put_line` (a line in parts), and for loops `put_turn`, `put_done`.
use Rattle.std.specs.Prelude.{◌≡◌, refl, ◌≢◌, List, [], ◌∷◌, ◌++◌, ℕ, zero, suc, ◌+◌, ◌-◌, ◌*◌, ◌≤◌, ◌<◌, length, get_or, set, take, drop, replicate}
use Rattle.std.proofs.Common.{ap, ◌∙◌, append_assoc, append-nil, not-suc-le-zero, le_of_suc-le-suc, mul-le-mul_right, add-one, arith, length-set, length-append, get_or-set_same, get_or-set_other}
use Rattle.std.proofs.Math.Decide.{ℕ_discrete, dec_lt}
use Rattle.std.proofs.Math.ListN.{get_or-append, get_or-eq_default}
use Rattle.std.proofs.Math.Seq.{get_or-append_seam}
use Rattle.base.specs.Drops.{drop-none, drop-one}
use Rattle.pieces.specs.Writing.{put, padded, put_lines, cleared}

-- ---- every d-th word
pub put-length : (d : ℕ) (b : List ℕ) (i : ℕ) (ws : List ℕ) → length (put d b i ws) ≡ length b
unfolding put
put-length d b i [] = refl
put-length d b i (w ∷ ws) = put-length d (set b i w) (i + d) ws ∙ length-set b i w

pub put_other : (d : ℕ) (b : List ℕ) (i : ℕ) (ws : List ℕ) (j : ℕ) → ((c : ℕ) → c < length ws → j ≢ i + c * d) → get_or (put d b i ws) j 0 ≡ get_or b j 0
unfolding put
put_other d b i [] j h = refl
put_other d b i (w ∷ ws) j h =
    let n : j ≢ i = λ e. h 0 (omega arith) (omega arith) in
    put_other d (set b i w) (i + d) ws j (λ c q e. h (suc c) (omega arith) (omega arith)) ∙ get_or-set_other b _ _ _ _ (omega arith)

pub put-at : (d : ℕ) (b : List ℕ) (i : ℕ) (ws : List ℕ) (c : ℕ) → 0 < d → c < length ws → i + c * d < length b → get_or (put d b i ws) (i + c * d) 0 ≡ get_or ws c 0
unfolding put
put-at d b i [] c z h l = absurd (not-suc-le-zero h)
put-at d b i (w ∷ ws) zero z h l =
    let e : i + 0 * d ≡ i = omega arith in
    let l' : i < length b = omega arith in
    rw e (put_other d (set b i w) (i + d) ws i (λ c q e. omega arith) ∙ get_or-set_same b i w 0 l')
put-at d b i (w ∷ ws) (suc c) z h l =
    let e : i + suc c * d ≡ (i + d) + c * d = omega arith in
    rw e (put-at d (set b i w) (i + d) ws c z (omega arith) (rw length-set (omega arith)))

pub padded-length : (n : ℕ) (ws : List ℕ) → length (padded n ws) ≡ n
unfolding padded
padded-length zero ws = refl
padded-length (suc n) [] = ap suc (padded-length n [])
padded-length (suc n) (w ∷ ws) = ap suc (padded-length n ws)

pub padded-at : (n : ℕ) (ws : List ℕ) (c : ℕ) → c < n → get_or (padded n ws) c 0 ≡ get_or ws c 0
unfolding padded
padded-at zero ws c h = absurd (not-suc-le-zero h)
padded-at (suc n) [] zero h = refl
padded-at (suc n) [] (suc c) h = padded-at n [] c (le_of_suc-le-suc h)
padded-at (suc n) (w ∷ ws) zero h = refl
padded-at (suc n) (w ∷ ws) (suc c) h = padded-at n ws c (le_of_suc-le-suc h)

-- ---- a place of N rows is in one row
one_row : (N c r d s : ℕ) → r < N → s < N → c * N + r ≡ s + d * N → r ≡ s
one_row N c r d s hr hs e = go (dec_lt c d) (dec_lt d c)
  where
    go : Dec (c < d) → Dec (d < c) → r ≡ s
    go (yes a) q = absurd (omega (arith, mul-le-mul_right N a))
    go (no a) (yes b) = absurd (omega (arith, mul-le-mul_right N b))
    go (no a) (no b) = let q : c ≡ d = omega arith in let e' : d * N + r ≡ s + d * N = rw q at e in omega arith

pub below_rows : (N c r k : ℕ) → r < N → c < k → c * N + r < k * N
below_rows N c r k hr hc = omega (arith, mul-le-mul_right N hc)

-- ---- the k columns hold the lines ls, zeros below and after
abbrev pub Reads : ℕ → ℕ → List (List ℕ) → List ℕ → Type 0
Reads k N ls b = (r c : ℕ) → r < N → c < k → get_or b (c * N + r) 0 ≡ get_or (get_or ls r []) c 0

past_end : (ls : List (List ℕ)) (l : List ℕ) (r : ℕ) → length ls < r → get_or (ls ++ (l ∷ [])) r [] ≡ []
past_end [] l zero h = absurd (not-suc-le-zero h)
past_end [] l (suc r) h = refl
past_end (x ∷ ls) l zero h = absurd (not-suc-le-zero h)
past_end (x ∷ ls) l (suc r) h = past_end ls l r (le_of_suc-le-suc h)

line_reads : (k N : ℕ) (ls : List (List ℕ)) (l b : List ℕ) → k * N ≤ length b → length ls < N → Reads k N ls b → Reads k N (ls ++ (l ∷ [])) (put N b (length ls) (padded k l))
line_reads k N ls l b long room reads r c hr hc = go (ℕ_discrete r (length ls)) (dec_lt r (length ls))
  where
    go : Dec (r ≡ length ls) → Dec (r < length ls) → get_or (put N b (length ls) (padded k l)) (c * N + r) 0 ≡ get_or (get_or (ls ++ (l ∷ [])) r []) c 0
    go (yes e) d =
        let q : c * N + r ≡ length ls + c * N = omega arith in
        let hc' : c < length (padded k l) = rw padded-length hc in
        rw (q, e, get_or-append_seam ls l [] [])
        (put-at N b (length ls) (padded k l) c (omega arith) hc' (omega (arith, below_rows N c r k hr hc)) ∙ padded-at k l c hc)
    go (no d) (yes a) =
        rw (get_or-append ls (l ∷ []) [] r a) (put_other N b (length ls) (padded k l) (c * N + r) (λ c' _ e. d (one_row N c r c' (length ls) hr room e)) ∙ reads r c hr hc)
    go (no d) (no a) =
        let over : length ls < r = omega arith in
        let over' : length ls ≤ r = omega arith in
        rw (past_end ls l r over)
        (put_other N b (length ls) (padded k l) (c * N + r) (λ c' _ e. d (one_row N c r c' (length ls) hr room e)) ∙ reads r c hr hc
        ∙ ap (λ (t : List ℕ). get_or t c 0) (get_or-eq_default ls [] over'))

pub lines-length : (k N r : ℕ) (ls : List (List ℕ)) (b : List ℕ) → length (put_lines k N r ls b) ≡ length b
unfolding put_lines
lines-length k N r [] b = refl
lines-length k N r (l ∷ ls) b = lines-length k N (suc r) ls (put N b r (padded k l)) ∙ put-length N b r (padded k l)

pub lines_reads : (k N : ℕ) (new old : List (List ℕ)) (b : List ℕ) → k * N ≤ length b → length old + length new ≤ N → Reads k N old b
    → Reads k N (old ++ new) (put_lines k N (length old) new b)
unfolding put_lines
lines_reads k N [] old b long room reads = rw (append-nil old) reads
lines_reads k N (l ∷ new) old b long room reads =
    let n : length (old ++ (l ∷ [])) ≡ suc (length old) = length-append old (l ∷ []) ∙ (omega arith) in
    let a : (old ++ (l ∷ [])) ++ new ≡ old ++ (l ∷ new) = append_assoc old (l ∷ []) new in
    rw (n, a) at
    (lines_reads k N new (old ++ (l ∷ [])) (put N b (length old) (padded k l)) (rw put-length long) (omega (arith, n)) (line_reads k N old l b long (omega arith) reads))

-- what stands after the columns is kept
pub lines_other : (k N r : ℕ) (ls : List (List ℕ)) (b : List ℕ) (j : ℕ) → k * N ≤ j → r + length ls ≤ N → get_or (put_lines k N r ls b) j 0 ≡ get_or b j 0
unfolding put_lines
lines_other k N r [] b j h room = refl
lines_other k N r (l ∷ ls) b j h room =
    lines_other k N (suc r) ls (put N b r (padded k l)) j h (omega arith)
    ∙ put_other N b r (padded k l) j (λ c q e. omega (arith, e, below_rows N c r k (omega arith) (rw padded-length at q)))

-- ---- a loop that puts words: what is left to put
pub put_turn : (d : ℕ) (b : List ℕ) (k : ℕ) (ws : List ℕ) (i : ℕ) → i < length ws → put d b k (drop i ws) ≡ put d (set b k (get_or ws i 0)) (k + d) (drop (i + 1) ws)
unfolding put
put_turn d b k ws i h = ap (put d b k) (drop-one ws i h)

pub put_done : (d : ℕ) (b : List ℕ) (k : ℕ) (ws : List ℕ) (i : ℕ) → length ws ≤ i → put d b k (drop i ws) ≡ b
unfolding put
put_done d b k ws i h = ap (put d b k) (drop-none ws i h)

-- ---- a line in parts: what comes first, what follows, then zeros
pub put-append : (d : ℕ) (b : List ℕ) (i : ℕ) (xs ys : List ℕ) → put d b i (xs ++ ys) ≡ put d (put d b i xs) (i + length xs * d) ys
unfolding put
put-append d b i [] ys = let z : i + 0 * d ≡ i = omega arith in rw z
put-append d b i (x ∷ xs) ys =
    let z : i + d + length xs * d ≡ i + suc (length xs) * d = omega arith in
    rw z at (put-append d (set b i x) (i + d) xs ys)

padded-split : (n : ℕ) (ws : List ℕ) → length ws ≤ n → padded n ws ≡ ws ++ replicate (n - length ws) 0
unfolding padded
padded-split zero [] h = refl
padded-split zero (w ∷ ws) h = absurd (not-suc-le-zero h)
padded-split (suc n) [] h =
    let y : suc n - 0 ≡ suc n = omega arith in
    let z : n - 0 ≡ n = omega arith in
    rw y (ap (λ (l : List ℕ). 0 ∷ l) (rw z at (padded-split n [] (omega arith))))
padded-split (suc n) (w ∷ ws) h =
    let z : suc n - suc (length ws) ≡ n - length ws = omega arith in
    rw z (ap (λ (l : List ℕ). w ∷ l) (padded-split n ws (omega arith)))

-- one line: its first part, its second part, and zeros up to k words
pub put_line : (k N : ℕ) (b : List ℕ) (r : ℕ) (xs ys : List ℕ) → length xs + length ys ≤ k
    → put N b r (padded k (xs ++ ys))
    ≡ put N (put N (put N b r xs) (r + length xs * N) ys) (r + (length xs + length ys) * N) (replicate (k - (length xs + length ys)) 0)
put_line k N b r xs ys h =
    let l = length-append xs ys in
    let e : r + length xs * N + length ys * N ≡ r + (length xs + length ys) * N = omega arith in
    ap (put N b r) (padded-split k (xs ++ ys) (omega arith)) ∙ put-append N b r (xs ++ ys) (replicate (k - length (xs ++ ys)) 0)
    ∙ rw (l, put-append N b r xs ys)

pub padded_all : (n : ℕ) (ws : List ℕ) → length ws ≡ n → padded n ws ≡ ws
padded_all n ws e = let z : n - length ws ≡ 0 = omega arith in padded-split n ws (omega arith) ∙ rw (z, append-nil)

pub padded-take : (n : ℕ) (ws : List ℕ) → n ≤ length ws → padded n ws ≡ take n ws
unfolding padded
padded-take zero ws h = refl
padded-take (suc n) [] h = absurd (not-suc-le-zero h)
padded-take (suc n) (w ∷ ws) h = ap (λ (l : List ℕ). w ∷ l) (padded-take n ws (le_of_suc-le-suc h))

-- ---- a loop that zeroes words: one word more
clear_next : (i : ℕ) (b : List ℕ) → i < length b → set (cleared i b) i 0 ≡ cleared (suc i) b
clear_next zero [] h = absurd (not-suc-le-zero h)
clear_next zero (x ∷ b) h = refl
clear_next (suc i) [] h = absurd (not-suc-le-zero h)
clear_next (suc i) (x ∷ b) h = ap (λ (l : List ℕ). 0 ∷ l) (clear_next i b (le_of_suc-le-suc h))

pub clear_turn : (i : ℕ) (b : List ℕ) → i < length b → set (cleared i b) i 0 ≡ cleared (i + 1) b
clear_turn i b h = rw add-one (clear_next i b h)

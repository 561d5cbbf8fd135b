-- Laws of cells and of finishing, one equation for each case, and what is left for a loop.
--
-- Main statements: `place_skip`, `place_first`, `place_again`; `run-append` (pieces put end to end); `cell_within`, `cell-fits` (what no fault says); for loops `run_turn`,
-- `run_done`, `finish_turn`, `finish_done`, `every_turn`, `every_found`, `every_done`.
use Rattle.std.specs.Prelude.{◌≡◌, ◌≢◌, Bool, true, false, List, [], ◌∷◌, ◌++◌, get_or, set, drop, ltb, eqb}
use Rattle.std.proofs.Math.Path.{refl}
use Rattle.std.proofs.Common.{ap, ◌∙◌, suc-add, add-suc, add-zero, not-suc-le-zero, length-set}
use Prim.Native.Nat.{ℕ, zero, suc, ◌+◌, ◌-◌, ◌*◌, ◌≤◌, ◌<◌}
use Rattle.std.proofs.Math.Numerals.{add-one}
use Rattle.std.proofs.Math.Decide.{dec_lt, ℕ_discrete}
use native.Mathlib.Omega.{arith}
use Rattle.std.proofs.Math.ListN.{length}
use borrow.Author.Tests.{lt-ltb, le-ltb, eq-eqb, ne_eqb, ltb-true}
use Rattle.base.specs.Pick.{pick, both_true}
use Rattle.base.specs.Drops.{drop-none, drop-one}
use Rattle.field.specs.Field.{p}
use Rattle.pieces.specs.Setting.{Cols}
use Rattle.pieces.specs.Cells.{placeholder, index_of, cell_fault, cells_fault, value, first_seen, seen_again, place_cell, cells_run}
use Rattle.pieces.specs.Finishing.{every_from, variable_fine, write_back, finish_from}
use Rattle.pieces.specs.RecordLaws.{fault_head}

-- a variable's first cell
abbrev pub first : Cols → ℕ → ℕ
first s v = get_or s.scratch (2 * v + 1) 0

-- ---- one cell word, by its three cases
pub place_skip : (k w : ℕ) (s : Cols) → placeholder ≤ w → place_cell k w s ≡ s
unfolding place_cell
place_skip k w s h = rw (le-ltb w placeholder h)

pub place_first : (k w : ℕ) (s : Cols) → w < placeholder → value s (index_of w) ≡ 0 → place_cell k w s ≡ first_seen k (index_of w) s
unfolding place_cell
place_first k w s h e = rw (lt-ltb w placeholder h, eq-eqb (value s (index_of w)) 0 e)

pub place_again : (k w : ℕ) (s : Cols) → w < placeholder → value s (index_of w) ≢ 0 → place_cell k w s ≡ seen_again k (index_of w) s
unfolding place_cell
place_again k w s h e = rw (lt-ltb w placeholder h, ne_eqb (value s (index_of w)) 0 e)

-- ---- pieces put end to end
pub run-append : (k : ℕ) (xs ys : List ℕ) (s : Cols) → cells_run k (xs ++ ys) s ≡ cells_run (k + length xs) ys (cells_run k xs s)
unfolding cells_run
run-append k [] ys s = rw add-zero
run-append k (x ∷ xs) ys s = rw (add-suc, ← suc-add) (run-append (suc k) xs ys (place_cell k x s))

-- ---- a loop over a piece: what is left to run
pub run_turn : (k i : ℕ) (ws : List ℕ) (s t : Cols) → i < length ws → t ≡ place_cell (k + i) (get_or ws i 0) s
    → cells_run (k + i) (drop i ws) s ≡ cells_run (k + (i + 1)) (drop (i + 1) ws) t
unfolding cells_run
run_turn k i ws s t h e =
    let q : k + (i + 1) ≡ suc (k + i) = omega arith in
    ap (λ (l : List ℕ). cells_run (k + i) l s) (drop-one ws i h) ∙ rw (e, q)

pub run_done : (k i : ℕ) (ws : List ℕ) (s : Cols) → length ws ≤ i → cells_run k (drop i ws) s ≡ s
unfolding cells_run
run_done k i ws s h = ap (λ (l : List ℕ). cells_run k l s) (drop-none ws i h)

-- ---- lengths are kept
pick-cols : (t : Bool) (a b : Cols) (f : Cols → ℕ) (n : ℕ) → f a ≡ n → f b ≡ n → f (pick t a b) ≡ n
pick-cols true a b f n p q = p
pick-cols false a b f n p q = q

module _ (k w : ℕ) (s : Cols) where
  pub place_copies : length (place_cell k w s).copies ≡ length s.copies
  unfolding place_cell first_seen seen_again
  place_copies =
      pick-cols (ltb w placeholder) _ s (λ c. length c.copies) (length s.copies)
      (pick-cols (eqb (value s (index_of w)) 0) (first_seen k (index_of w) s) (seen_again k (index_of w) s) (λ c. length c.copies) (length s.copies) refl (length-set s.copies k _))
      refl

pub run_copies : (k : ℕ) (ws : List ℕ) (s : Cols) → length (cells_run k ws s).copies ≡ length s.copies
unfolding cells_run
run_copies k [] s = refl
run_copies k (w ∷ ws) s = run_copies (suc k) ws (place_cell k w s) ∙ place_copies k w s

-- ---- a cell word's fault, by cases
module _ (total vars k w : ℕ) where
  pub cell_past : total ≤ k → cell_fault total vars k w ≡ 13
  unfolding cell_fault
  cell_past h = rw (le-ltb k total h)

  pub cell_wide : k < total → w < placeholder → vars ≤ index_of w → cell_fault total vars k w ≡ 14
  unfolding cell_fault
  cell_wide h p q = rw (lt-ltb k total h, lt-ltb w placeholder p, le-ltb (index_of w) vars q)

  -- what no fault says
  pub cell_within : cell_fault total vars k w ≡ 0 → k < total
  cell_within e = go (dec_lt k total)
    where
      go : Dec (k < total) → k < total
      go (yes h) = h
      go (no h) = absurd (omega (arith, cell_past (omega arith)))

  pub cell_named : cell_fault total vars k w ≡ 0 → w < placeholder → index_of w < vars
  cell_named e p = go (dec_lt (index_of w) vars)
    where
      go : Dec (index_of w < vars) → index_of w < vars
      go (yes h) = h
      go (no h) = absurd (omega (arith, cell_wide (cell_within e) p (omega arith)))

-- a piece without a fault fits its section
pub cells_room : (total vars k : ℕ) (ws : List ℕ) → k ≤ total → cells_fault total vars k ws ≡ 0 → k + length ws ≤ total
cells_room total vars k [] h e = omega arith
cells_room total vars k (w ∷ ws) h e =
    let f = fault_head (cell_fault total vars) (λ k _. suc k) k w ws e in
    omega (arith, cells_room total vars (suc k) ws (cell_within total vars k w f.0) f.1)

-- and each of its words that names a variable names one below `vars`
pub cells_named : (total vars k : ℕ) (ws : List ℕ) → cells_fault total vars k ws ≡ 0 → (j : ℕ) → j < length ws → get_or ws j 0 < placeholder → index_of (get_or ws j 0) < vars
cells_named total vars k [] e j h = absurd (not-suc-le-zero h)
cells_named total vars k (w ∷ ws) e zero h =
    let f = fault_head (cell_fault total vars) (λ k _. suc k) k w ws e in cell_named total vars k w f.0
cells_named total vars k (w ∷ ws) e (suc j) h =
    let f = fault_head (cell_fault total vars) (λ k _. suc k) k w ws e in cells_named total vars (suc k) ws f.1 j (omega arith)

-- ---- a loop over the variables: what is left to finish
pub finish_turn : (n v : ℕ) (scratch copies : List ℕ) → v < n
    → finish_from v (n - v) scratch copies ≡ finish_from (v + 1) (n - (v + 1)) scratch (write_back v scratch copies)
unfolding finish_from
finish_turn n v scratch copies h = let e : n - v ≡ suc (n - suc v) = omega arith in rw (e, add-one)

pub finish_done : (n v : ℕ) (scratch copies : List ℕ) → n ≤ v → finish_from v (n - v) scratch copies ≡ copies
unfolding finish_from
finish_done n v scratch copies h = let e : n - v ≡ 0 = omega arith in rw e

pub write_none : (v : ℕ) (scratch copies : List ℕ) → get_or scratch (2 * v) 0 ≡ 0 → write_back v scratch copies ≡ copies
unfolding write_back
write_none v scratch copies e = rw (eq-eqb (get_or scratch (2 * v) 0) 0 e)

pub write_one : (v : ℕ) (scratch copies : List ℕ) → get_or scratch (2 * v) 0 ≢ 0
    → write_back v scratch copies ≡ set copies (get_or scratch (2 * v + 1) 0) (get_or scratch (2 * v) 0)
unfolding write_back
write_one v scratch copies d = rw (ne_eqb (get_or scratch (2 * v) 0) 0 d)

pub write_length : (v : ℕ) (scratch copies : List ℕ) → length (write_back v scratch copies) ≡ length copies
write_length v scratch copies = go (ℕ_discrete (get_or scratch (2 * v) 0) 0)
  where
    go : Dec (get_or scratch (2 * v) 0 ≡ 0) → length (write_back v scratch copies) ≡ length copies
    go (yes e) = rw (write_none v scratch copies e)
    go (no d) = rw (write_one v scratch copies d, length-set)

pub finish_length : (v m : ℕ) (scratch copies : List ℕ) → length (finish_from v m scratch copies) ≡ length copies
unfolding finish_from
finish_length v zero scratch copies = refl
finish_length v (suc m) scratch copies = finish_length (suc v) m scratch (write_back v scratch copies) ∙ write_length v scratch copies

-- a seen variable that is fine has its first cell within
pub fine_first : (cells : ℕ) (scratch : List ℕ) (v : ℕ) → variable_fine cells scratch v ≡ true → get_or scratch (2 * v) 0 ≢ 0 → get_or scratch (2 * v + 1) 0 < cells
unfolding variable_fine
fine_first cells scratch v e d =
    let a = both_true (ltb (get_or scratch (2 * v) 0) p) (pick (eqb (get_or scratch (2 * v) 0) 0) true (ltb (get_or scratch (2 * v + 1) 0) cells)) e in
    ltb-true (get_or scratch (2 * v + 1) 0) cells (rw (ne_eqb (get_or scratch (2 * v) 0) 0 d) at a.1)

-- ---- a loop that tests numbers one by one
module _ (n v : ℕ) (f : ℕ → Bool) where
  pub every_turn : v < n → f v ≡ true → every_from v (n - v) f ≡ every_from (v + 1) (n - (v + 1)) f
  unfolding every_from
  every_turn h t = let e : n - v ≡ suc (n - suc v) = omega arith in rw (e, add-one, t)

  pub every_found : v < n → f v ≡ false → every_from v (n - v) f ≡ false
  unfolding every_from
  every_found h t = let e : n - v ≡ suc (n - suc v) = omega arith in rw (e, t)

  pub every_done : n ≤ v → every_from v (n - v) f ≡ true
  unfolding every_from
  every_done h = let e : n - v ≡ 0 = omega arith in rw e

-- what the test of all says of each
pub every_at : (m v : ℕ) (f : ℕ → Bool) → every_from v m f ≡ true → (i : ℕ) → v ≤ i → i < v + m → f i ≡ true
unfolding every_from
every_at zero v f e i l h = absurd (omega arith)
every_at (suc m) v f e i l h = go (ℕ_discrete i v) (both_true (f v) (every_from (suc v) m f) e) (every_at m (suc v) f)
  where
    go : Dec (i ≡ v) → (f v ≡ true) × (every_from (suc v) m f ≡ true) → (every_from (suc v) m f ≡ true → (i : ℕ) → suc v ≤ i → i < suc v + m → f i ≡ true) → f i ≡ true
    go (yes q) t r = ap f q ∙ t.0
    go (no d) t r = r t.1 i (omega arith) (omega arith)

-- a test that holds of each holds of all
pub every_all : (m v : ℕ) (f : ℕ → Bool) → ((i : ℕ) → v ≤ i → i < v + m → f i ≡ true) → every_from v m f ≡ true
unfolding every_from
every_all zero v f h = refl
every_all (suc m) v f h = rw (h v (omega arith) (omega arith)) (every_all m (suc v) f (λ i l u. h i (omega arith) (omega arith)))

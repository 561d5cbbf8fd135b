-- Words of a section, each tested by itself and counted on: the first faulty one, by one test of all words that have room.
--
-- Main definitions: `all_of`, `named`. Main statements: `named_below`, `named_past`, `section-over`, `section-within`, and for loops `all_turn`, `all_found`, `all_done`.
use Rattle.std.specs.Prelude.{◌≡◌, refl, ◌≢◌, Bool, true, false, ℕ, suc, ◌+◌, ◌-◌, ◌≤◌, ◌<◌, length, get_or, take, drop, ltb, leb}
use Rattle.std.proofs.Common.{sym, ◌∙◌, arith, take_all, lt-ltb, le-ltb, le-leb}
use Rattle.std.proofs.Math.Path.{ap}
use mathlib.Core.List.{List, [], ◌∷◌}
use Rattle.std.proofs.Math.Decide.{dec_lt}
use Rattle.std.proofs.Math.Seq.{take-nil}
use Rattle.std.proofs.Math.Dec.{leb-zero, leb-suc-zero, leb-suc-suc}
use Rattle.std.proofs.lemmas.Bool.{lt-leb}
use Rattle.base.specs.Pick.{pick}
use Rattle.base.specs.Drops.{drop-none, drop-one}
use Rattle.pieces.specs.Cells.{placeholder, index_of, cell_fault}
use Rattle.pieces.specs.SWords.{s_word_fault}
use Rattle.pieces.specs.Records.{first_fault, all_below}
use Rattle.pieces.specs.RecordLaws.{fault_here, fault_later}
use Rattle.field.specs.Field.{p}

-- the test holds for every word
unfoldable pub all_of : (ℕ → Bool) → List ℕ → Bool
all_of fine [] = true
all_of fine (w ∷ ws) = let rest = all_of fine ws in pick (fine w) rest false

-- a cell word is a placeholder, or its index is below `vars`
abbrev pub named : ℕ → ℕ → Bool
named vars w = pick (ltb w placeholder) (ltb (index_of w) vars) true

pub named_below : (vars w : ℕ) → index_of w < vars → named vars w ≡ true
named_below vars w h = rw (lt-ltb (index_of w) vars h) (go (ltb w placeholder))
  where
    go : (t : Bool) → pick t true true ≡ true
    go true = refl
    go false = refl

pub named_past : (vars w : ℕ) → vars ≤ index_of w → named vars w ≡ leb placeholder w
named_past vars w h = go (dec_lt w placeholder)
  where
    go : Dec (w < placeholder) → named vars w ≡ leb placeholder w
    go (yes l) = rw (lt-ltb w placeholder l, le-ltb (index_of w) vars h, lt-leb placeholder w l)
    go (no l) = rw (le-ltb w placeholder (omega arith), le-leb placeholder w (omega arith))

pub below_all_of : (n : ℕ) (ws : List ℕ) → all_below n ws ≡ all_of (λ w. ltb w n) ws
unfolding all_below all_of
below_all_of n [] = refl
below_all_of n (w ∷ ws) = rw (below_all_of n ws)

-- ---- a loop over words
module _ (fine : ℕ → Bool) (ws : List ℕ) (i : ℕ) where
  pub all_turn : i < length ws → fine (get_or ws i 0) ≡ true → all_of fine (drop i ws) ≡ all_of fine (drop (i + 1) ws)
  unfolding all_of
  all_turn h e = ap (all_of fine) (drop-one ws i h) ∙ rw e

  pub all_found : i < length ws → fine (get_or ws i 0) ≡ false → all_of fine (drop i ws) ≡ false
  unfolding all_of
  all_found h e = ap (all_of fine) (drop-one ws i h) ∙ rw e

  pub all_done : length ws ≤ i → all_of fine (drop i ws) ≡ true
  unfolding all_of
  all_done h = ap (all_of fine) (drop-none ws i h)

-- ---- the first fault of a section of `total` words, from word number k on
module _ (fault : ℕ → ℕ → ℕ) (fine : ℕ → Bool) (bad total : ℕ) (some : bad ≢ 0) (says : (k w : ℕ) → fault k w ≡ pick (ltb k total) (pick (fine w) 0 bad) 13) where
  abbrev faults : ℕ → List ℕ → ℕ
  faults = first_fault fault (λ k _. suc k)

  pub section_fault : (k : ℕ) (ws : List ℕ) → k ≤ total → faults k ws ≡ pick (all_of fine (take (total - k) ws)) (pick (leb (length ws) (total - k)) 0 13) bad
  unfolding first_fault all_of
  section_fault k [] h = rw (take-nil (total - k), leb-zero (total - k))
  section_fault k (w ∷ ws) h = go (dec_lt k total) (section_fault (suc k) ws)
    where
      Goal : Type 0
      Goal = faults k (w ∷ ws) ≡ pick (all_of fine (take (total - k) (w ∷ ws))) (pick (leb (suc (length ws)) (total - k)) 0 13) bad

      Rest : Type 0
      Rest = faults (suc k) ws ≡ pick (all_of fine (take (total - suc k) ws)) (pick (leb (length ws) (total - suc k)) 0 13) bad

      next : k < total → Rest → (t : Bool) → fine w ≡ t → Goal
      next l r true e =
          let f : fault k w ≡ 0 = says k w ∙ rw (lt-ltb k total l, e) in
          let n : total - k ≡ suc (total - suc k) = omega arith in
          fault_later fault (λ k _. suc k) k w ws f ∙ r ∙ rw (n, e, leb-suc-suc (length ws) (total - suc k))
      next l r false e =
          let f : fault k w ≡ bad = says k w ∙ rw (lt-ltb k total l, e) in
          let n : total - k ≡ suc (total - suc k) = omega arith in
          fault_here fault (λ k _. suc k) k w ws (λ z. some (sym f ∙ z)) ∙ rw (n, e) f

      go : Dec (k < total) → (suc k ≤ total → Rest) → Goal
      go (yes l) r = next l (r l) (fine w) refl
      go (no l) r =
          let f : fault k w ≡ 13 = says k w ∙ rw (le-ltb k total (omega arith)) in
          let n : total - k ≡ 0 = omega arith in
          fault_here fault (λ k _. suc k) k w ws (λ z. omega (arith, f, z)) ∙ rw (n, leb-suc-zero (length ws)) f

  -- more words than have room, and no more than have room
  pub section-over : (k : ℕ) (ws : List ℕ) → k ≤ total → total - k < length ws → (b : Bool) → all_of fine (take (total - k) ws) ≡ b → faults k ws ≡ pick b 13 bad
  section-over k ws h l b e = section_fault k ws h ∙ rw (e, lt-leb (length ws) (total - k) l)

  pub section-within : (k : ℕ) (ws : List ℕ) → k ≤ total → length ws ≤ total - k → (b : Bool) → all_of fine ws ≡ b → faults k ws ≡ pick b 0 bad
  section-within k ws h l b e = section_fault k ws h ∙ rw (take_all (total - k) ws l, e, le-leb (length ws) (total - k) l)

-- ---- the two sections whose words are tested so
pub s-words_says : (total k w : ℕ) → s_word_fault total k w ≡ pick (ltb k total) (pick (ltb w p) 0 11) 13
unfolding s_word_fault
s-words_says total k w = refl

pub cells_says : (total vars k w : ℕ) → cell_fault total vars k w ≡ pick (ltb k total) (pick (named vars w) 0 14) 13
unfolding cell_fault
cells_says total vars k w = go (ltb w placeholder)
  where
    go : (t : Bool) → ◌≡◌ {A = ℕ} (pick (ltb k total) (pick t (pick (ltb (index_of w) vars) 0 14) 0) 13) (pick (ltb k total) (pick (pick t (ltb (index_of w) vars) true) 0 14) 13)
    go true = refl
    go false = refl

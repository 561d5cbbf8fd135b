-- A kind word is 1 to 5, and its kind has that word.
--
-- Main statements: `kind_known`, `kind_low`, `kind_high`, `kind_none`, `kind_there`.
use Rattle.std.specs.Prelude.{◌≡◌, refl, ℕ, ◌≤◌, Option, Some, None}
use Rattle.std.specs.Option.{IsSome}
use Rattle.std.proofs.Common.{sym, ap, ◌∙◌, arith, eq-eqb, ne_eqb}
use Rattle.std.proofs.Math.Decide.{ℕ_discrete}
use Rattle.calls.specs.declared.call.Kind.{Kind}
use Rattle.calls.specs.declared.call.Kind.TheVariants.{Rows, SWords, Cells, Tables, Finishing}
use Rattle.calls.specs.Kinds.{kind_word, kind_of}

-- the word that a kind found has, 0 where none was
abbrev word_of : Option Kind → ℕ
word_of (Some k) = kind_word k
word_of None = 0

pub kind_low : (k : Kind) → 1 ≤ kind_word k
kind_low Rows = omega arith
kind_low SWords = omega arith
kind_low Cells = omega arith
kind_low Tables = omega arith
kind_low Finishing = omega arith

pub kind_high : (k : Kind) → kind_word k ≤ 5
kind_high Rows = omega arith
kind_high SWords = omega arith
kind_high Cells = omega arith
kind_high Tables = omega arith
kind_high Finishing = omega arith

-- the kind that was found for a word has it
pub kind_known : (w : ℕ) (k : Kind) → kind_of w ≡ Some k → kind_word k ≡ w
kind_known w k e = one (ℕ_discrete w 1) (ℕ_discrete w 2) (ℕ_discrete w 3) (ℕ_discrete w 4) (ℕ_discrete w 5)
  where
    one : Dec (w ≡ 1) → Dec (w ≡ 2) → Dec (w ≡ 3) → Dec (w ≡ 4) → Dec (w ≡ 5) → kind_word k ≡ w
    one (yes d) b c f g = sym (ap word_of (rw (eq-eqb w 1 d) at e)) ∙ sym d
    one (no n) (yes d) c f g = sym (ap word_of (rw (ne_eqb w 1 n, eq-eqb w 2 d) at e)) ∙ sym d
    one (no n) (no m) (yes d) f g = sym (ap word_of (rw (ne_eqb w 1 n, ne_eqb w 2 m, eq-eqb w 3 d) at e)) ∙ sym d
    one (no n) (no m) (no q) (yes d) g = sym (ap word_of (rw (ne_eqb w 1 n, ne_eqb w 2 m, ne_eqb w 3 q, eq-eqb w 4 d) at e)) ∙ sym d
    one (no n) (no m) (no q) (no r) (yes d) = sym (ap word_of (rw (ne_eqb w 1 n, ne_eqb w 2 m, ne_eqb w 3 q, ne_eqb w 4 r, eq-eqb w 5 d) at e)) ∙ sym d
    one (no n) (no m) (no q) (no r) (no s) =
        let z : 0 ≡ kind_word k = ap word_of (rw (ne_eqb w 1 n, ne_eqb w 2 m, ne_eqb w 3 q, ne_eqb w 4 r, ne_eqb w 5 s) at e) in
        absurd (omega (arith, z, kind_low k))

-- a word from 1 to 5 has a kind
pub kind_none : (w : ℕ) → kind_of w ≡ None → 1 ≤ w → w ≤ 5 → ⊥
kind_none w e l h = one (ℕ_discrete w 1) (ℕ_discrete w 2) (ℕ_discrete w 3) (ℕ_discrete w 4) (ℕ_discrete w 5)
  where
    none : (k : Kind) → Some k ≡ None → ⊥
    none k z = let y : kind_word k ≡ 0 = ap word_of z in omega (arith, y, kind_low k)

    one : Dec (w ≡ 1) → Dec (w ≡ 2) → Dec (w ≡ 3) → Dec (w ≡ 4) → Dec (w ≡ 5) → ⊥
    one (yes d) b c f g = none Rows (rw (eq-eqb w 1 d) at e)
    one (no n) (yes d) c f g = none SWords (rw (ne_eqb w 1 n, eq-eqb w 2 d) at e)
    one (no n) (no m) (yes d) f g = none Cells (rw (ne_eqb w 1 n, ne_eqb w 2 m, eq-eqb w 3 d) at e)
    one (no n) (no m) (no q) (yes d) g = none Tables (rw (ne_eqb w 1 n, ne_eqb w 2 m, ne_eqb w 3 q, eq-eqb w 4 d) at e)
    one (no n) (no m) (no q) (no r) (yes d) = none Finishing (rw (ne_eqb w 1 n, ne_eqb w 2 m, ne_eqb w 3 q, ne_eqb w 4 r, eq-eqb w 5 d) at e)
    one (no n) (no m) (no q) (no r) (no s) = omega (arith, l, h, n, m, q, r, s)

pub kind_there : (w : ℕ) (o : Option Kind) → o ≡ kind_of w → 1 ≤ w → w ≤ 5 → IsSome o
kind_there w (Some k) e l h = refl
kind_there w None e l h = absurd (kind_none w (sym e) l h)

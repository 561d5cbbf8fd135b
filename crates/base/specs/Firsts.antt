-- The first of two refusal numbers: 0 is none.
--
-- Main definition: `or_number`. Main statements: `first-none`, `first_found`, `first-zero`.
use Rattle.std.specs.Prelude.{ℕ, eqb, ◌≢◌, ◌≡◌}
use Rattle.std.proofs.Common.{eq-eqb, ne_eqb, ◌∙◌, sym}
use Rattle.std.proofs.Math.Decide.{ℕ_discrete}
use Rattle.base.specs.Pick.{pick}

-- a, or b where a is none
unfoldable pub or_number : ℕ → ℕ → ℕ
or_number a b = pick (eqb a 0) b a

pub first-none : (a b : ℕ) → a ≡ 0 → or_number a b ≡ b
unfolding or_number
first-none a b e = rw (eq-eqb a 0 e)

pub first_found : (a b : ℕ) → a ≢ 0 → or_number a b ≡ a
unfolding or_number
first_found a b e = rw (ne_eqb a 0 e)

pub first-zero : (a b : ℕ) → or_number a b ≡ 0 → (a ≡ 0) × (b ≡ 0)
first-zero a b e = go (ℕ_discrete a 0)
  where
    go : Dec (a ≡ 0) → (a ≡ 0) × (b ≡ 0)
    go (yes z) = (z, sym (first-none a b z) ∙ e)
    go (no n) = absurd (n (sym (first_found a b n) ∙ e))

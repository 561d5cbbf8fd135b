-- The only file with facts about numerals: powers that antt computes by squaring, and 01's worked sums and products.
--
-- Main statements: `power` (a power of two numerals is computed), `generator_is`, `generator_half`, P1 to P3.
use Rattle.std.specs.Prelude.{◌≡◌, ℕ, ◌-◌, ◌^◌, T, nat_lt, refl}
use Rattle.std.proofs.Common.{sym, ap, ◌∙◌, lit<}
use Rattle.base.specs.Powers.{fast, fast_is_power}
use Rattle.field.specs.Field.{p, fadd, fmul, fpow, generator}

-- `power b e tt`: b to the power e, which antt computes on the right
pub power : (b e : ℕ) → T (nat_lt e (2 ^ 64)) → fpow b e ≡ fast 64 b e p
unfolding fpow
power b e h = sym (fast_is_power 64 b e p (lit< h))

pub generator_is : generator ≡ 1753635133440165772
unfolding fast
generator_is = power 7 4294967295 tt

-- the generator's power to 2^31 is -1, so it has 2^32 different powers
pub generator_half : fpow generator (2 ^ 31) ≡ p - 1
unfolding fast
generator_half = ap (λ (g : ℕ). fpow g (2 ^ 31)) generator_is ∙ power 1753635133440165772 2147483648 tt

-- 01's worked cases on the field
pub record Worked : Type 0 where
  -- "P1 (p−1)+(p−1) = p−2."
  pub p1 : fadd (p - 1) (p - 1) ≡ p - 2
  -- "P2 2^32 × 2^32 = 4294967295."
  pub p2 : fmul (2 ^ 32) (2 ^ 32) ≡ 4294967295
  -- "P3 2^48 × 2^48 = p−1."
  pub p3 : fmul (2 ^ 48) (2 ^ 48) ≡ p - 1

pub worked : Worked
worked = record { p1 = refl; p2 = refl; p3 = refl }

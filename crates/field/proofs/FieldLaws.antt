-- What the layers above use of the field.
--
-- Main statements: `squared_root` and `domain_root` (the generator squared 32 - e times is a root of 2 ^ e: by the laws of `base`'s Roots its power to
-- 2 ^ e is 1, the one to half of that p - 1, and its powers below 2 ^ e are distinct), `non_residue_unit` (a non-residue cancels), `fmul_below`.
use Rattle.std.specs.Prelude.{◌≡◌, ℕ, zero, suc, ◌+◌, ◌-◌, ◌*◌, ◌/◌, ◌%◌, ◌^◌, ◌<◌, ◌≤◌, true}
use Rattle.std.proofs.Common.{◌∙◌, subst, mod-lt, arith, eqb-true}
use Rattle.std.proofs.Math.Nat.{mod-mod}
use Rattle.base.specs.Modular.{same_pow, pow-mod}
use Rattle.base.specs.Powers.{pow-mul}
use Rattle.base.specs.Roots.{Root, root_square}
use Rattle.field.specs.Field.{p, fmul, fpow, generator, is_non_residue, squared}
use Rattle.field.proofs.Numerals.{generator_half}

pub fmul_below : (a b : ℕ) → fmul a b < p
fmul_below a b = mod-lt (a * b) (omega arith)

-- a root stays one when it is taken modulo p
root_mod : (e w : ℕ) → Root p e w → Root p e (w % p)
root_mod zero w h = mod-mod w p ∙ h
root_mod (suc m) w h = pow-mod w (2 ^ m) p ∙ h

-- squared k times, a root of 2 ^ (k + e) is a root of 2 ^ e
squared_root : (k e w : ℕ) → Root p (k + e) w → Root p e (squared k w)
unfolding squared
squared_root zero e w h = let q : 0 + e ≡ e = omega arith in rw q at h
squared_root (suc k) e w h =
    let q : suc k + e ≡ suc (k + e) = omega arith in
    squared_root k e (fmul w w) (root_mod (k + e) (w * w) (root_square p (omega arith) (k + e) w (rw q at h)))

generator_root : Root p 32 generator
unfolding fpow
generator_root = generator_half

-- "w is the generator squared 32−log2(N) times": a root of N = 2 ^ e
pub domain_root : (e : ℕ) → e ≤ 32 → Root p e (squared (32 - e) generator)
domain_root e h = let q : 32 ≡ 32 - e + e = omega arith in squared_root (32 - e) e generator (subst (λ (k : ℕ). Root p k generator) q generator_root)

-- a non-residue's power to p - 1 is 1, so it cancels (`unit_cancels` of `base`)
pub non_residue_unit : (c : ℕ) → is_non_residue c ≡ true → c ^ (p - 1) % p ≡ 1 % p
unfolding fpow
non_residue_unit c e =
    let half : c ^ ((p - 1) / 2) % p ≡ (p - 1) % p = eqb-true (fpow c ((p - 1) / 2)) (p - 1) e in
    rw (← pow-mul) at (same_pow p (c ^ ((p - 1) / 2)) (p - 1) 2 half)

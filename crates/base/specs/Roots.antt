-- Roots of unity modulo p, for any p above 2: a number whose power to 2 ^ m is p - 1 has 2 ^ (m + 1) different powers.
-- No primality is used: p - 1 squares to 1 and is not 1.
--
-- Main definitions: `Root`.
-- Main statements: `root_whole` (w ^ N is 1), `root_powers` (its powers below N are distinct), `root_inverse`, `unit_cancels` (a factor with k ^ (p - 1) = 1 cancels).
use Rattle.std.specs.Prelude.{◌≡◌, ℕ, zero, suc, ◌+◌, ◌*◌, ◌-◌, ◌/◌, ◌%◌, ◌^◌, ◌<◌}
use Rattle.std.proofs.Common.{sym, ◌∙◌, mul_comm, mul-one, one-mul, mod-eq_of_lt, pow-suc, arith, pow-add}
use Rattle.std.proofs.Math.Nat.{mul-add-mod_self_left, pow-succ'}
use Rattle.std.proofs.Math.Decide.{ℕ_discrete, dec_lt}
use Rattle.base.specs.Modular.{Same, same_left, same_right, same_pow, cancel}
use Rattle.base.specs.Powers.{one-pow, pow-one, pow-two, pow-mul}

-- w to the power of half of 2 ^ e is p - 1; for e = 0 there is no half, and w is 1
abbrev pub Root : ℕ → ℕ → ℕ → Type 0
Root p zero w = w % p ≡ 1 % p
Root p (suc m) w = w ^ (2 ^ m) % p ≡ (p - 1) % p

successor_square : (t : ℕ) → suc t * suc t ≡ suc (suc t) * t + 1
successor_square t = omega arith

module _ (p : ℕ) (big : 2 < p) where
  pub minus_square : Same p ((p - 1) * (p - 1)) 1
  minus_square =
      let a : p - 1 ≡ suc (p - 2) = omega arith in
      let b : suc (suc (p - 2)) ≡ p = omega arith in
      rw (a, successor_square, b, mul-add-mod_self_left)

  minus_odd : (e : ℕ) → Same p ((p - 1) ^ suc (2 * e)) (p - 1)
  minus_odd e =
      rw (pow-suc, pow-mul, pow-two)
      (same_left p (((p - 1) * (p - 1)) ^ e) 1 (p - 1) (same_pow p ((p - 1) * (p - 1)) 1 e minus_square ∙ rw one-pow) ∙ rw one-mul)

  -- an odd power of w is not 1: its power to 2 ^ m is p - 1 still
  odd_power : (m w e : ℕ) → Root p (suc m) w → Same p (w ^ suc (2 * e)) 1 → ⊥
  odd_power m w e h one =
      let d = suc (2 * e) in
      let x : Same p ((w ^ d) ^ (2 ^ m)) 1 = same_pow p (w ^ d) 1 (2 ^ m) one ∙ rw one-pow in
      let y : Same p ((w ^ d) ^ (2 ^ m)) (p - 1) = rw (← pow-mul, mul_comm d (2 ^ m), pow-mul) (same_pow p (w ^ (2 ^ m)) (p - 1) d h ∙ minus_odd e) in
      let z : 1 ≡ p - 1 = sym (mod-eq_of_lt (omega arith)) ∙ sym x ∙ y ∙ mod-eq_of_lt (omega arith) in
      omega arith

  -- no power of w below 2 ^ (m + 1) but the zeroth is 1: an odd one by `odd_power`, an even one is a power of w squared
  order : (m w d : ℕ) → Root p (suc m) w → 0 < d → d < 2 ^ suc m → Same p (w ^ d) 1 → ⊥
  order zero w d h pos below one = odd_power zero w 0 h (let e : d ≡ 1 = omega arith in rw e at one)
  order (suc m) w d h pos below one = go (ℕ_discrete (d % 2) 0) (order m (w ^ 2) (d / 2))
    where
      go : Dec (d % 2 ≡ 0) → (Root p (suc m) (w ^ 2) → 0 < d / 2 → d / 2 < 2 ^ suc m → Same p ((w ^ 2) ^ (d / 2)) 1 → ⊥) → ⊥
      go (yes a) r = let e : 2 * (d / 2) ≡ d = omega arith in r (rw (← pow-mul, ← pow-succ') h) (omega arith) (omega arith) (rw (← pow-mul, e) one)
      go (no a) r = let e : suc (2 * (d / 2)) ≡ d = omega arith in odd_power (suc m) w (d / 2) h (rw e one)

  -- w ^ N is 1
  pub root_whole : (e w : ℕ) → Root p e w → Same p (w ^ (2 ^ e)) 1
  root_whole zero w h = rw pow-one h
  root_whole (suc m) w h =
      rw (pow-succ', mul_comm 2 (2 ^ m), pow-mul, pow-two)
      (same_left p (w ^ (2 ^ m)) (p - 1) (w ^ (2 ^ m)) h ∙ same_right p (w ^ (2 ^ m)) (p - 1) (p - 1) h ∙ minus_square)

  -- each power of w below N has an inverse
  pub root_inverse : (e w r : ℕ) → Root p e w → r < 2 ^ e → Same p (w ^ (2 ^ e - r) * w ^ r) 1
  root_inverse e w r h l = let q : 2 ^ e - r + r ≡ 2 ^ e = omega arith in rw (← pow-add, q) (root_whole e w h)

  apart : (m w r s : ℕ) → Root p (suc m) w → r < s → s < 2 ^ suc m → Same p (w ^ r) (w ^ s) → ⊥
  apart m w r s h l b e =
      order m w (s - r) h (omega arith) (omega arith)
      (let a : r + (s - r) ≡ s = omega arith in sym (cancel p (w ^ r) (w ^ (2 ^ suc m - r)) 1 (w ^ (s - r)) (root_inverse (suc m) w r h (omega arith)) (rw (mul-one, ← pow-add, a) e)))

  -- the powers of w below N are distinct
  pub root_powers : (e w r s : ℕ) → Root p e w → r < 2 ^ e → s < 2 ^ e → Same p (w ^ r) (w ^ s) → r ≡ s
  root_powers zero w r s h hr hs e = omega arith
  root_powers (suc m) w r s h hr hs e = go (dec_lt r s) (dec_lt s r)
    where
      go : Dec (r < s) → Dec (s < r) → r ≡ s
      go (yes a) b = absurd (apart m w r s h a hs e)
      go (no a) (yes b) = absurd (apart m w s r h b hr (sym e))
      go (no a) (no b) = omega arith

  -- a square of a root of 2 ^ (e + 1) is a root of 2 ^ e
  pub root_square : (e w : ℕ) → Root p (suc e) w → Root p e (w * w)
  root_square zero w h = rw pow-one at (same_left p (w ^ 1) (p - 1) (w ^ 1) h ∙ same_right p (w ^ 1) (p - 1) (p - 1) h ∙ minus_square)
  root_square (suc m) w h = rw (← pow-two, ← pow-mul, ← pow-succ') h

  -- a factor whose power to p - 1 is 1 cancels: its inverse is its power to p - 2
  pub unit_cancels : (k x y : ℕ) → Same p (k ^ (p - 1)) 1 → Same p (k * x) (k * y) → Same p x y
  unit_cancels k x y u e =
      let a : p - 1 ≡ suc (p - 2) = omega arith in
      cancel p k (k ^ (p - 2)) x y (rw (← pow-suc, ← a) u) e

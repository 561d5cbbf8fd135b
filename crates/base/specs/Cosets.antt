-- The cosets k w ^ r of the powers of w, a root of N = 2 ^ e, modulo any p above 2: with representatives k that cancel and whose N-th
-- powers are distinct, all C N elements are distinct and none is 0. No primality is used.
--
-- Main definition: `Cosets`. Main statements: `coset_apart`, `coset_nonzero`.
use Rattle.std.specs.Prelude.{◌≡◌, ◌≢◌, ℕ, ◌*◌, ◌-◌, ◌%◌, ◌^◌, ◌<◌}
use Rattle.std.proofs.Common.{sym, ◌∙◌, mul_comm, mul-one, mul-zero, mod-eq_of_lt, arith}
use Rattle.std.proofs.Math.Nat.{zero-mod}
use Rattle.base.specs.Modular.{Same, same_right, same_pow, cancel}
use Rattle.base.specs.Powers.{one-pow, pow-mul, mul-pow}
use Rattle.base.specs.Roots.{Root, root_whole, root_inverse, root_powers, unit_cancels}

-- representatives of c columns of n rows, whatever the rule that chose them
pub record Cosets (p n c : ℕ) (rep : ℕ → ℕ) : Type 0 where
  pub units : (i : ℕ) → i < c → rep i ^ (p - 1) % p ≡ 1 % p
  pub apart : (i j : ℕ) → i < c → j < c → rep i ^ n % p ≡ rep j ^ n % p → i ≡ j

module _ (p : ℕ) (big : 2 < p) (e w : ℕ) (root : Root p e w) (c : ℕ) (rep : ℕ → ℕ) (cosets : Cosets p (2 ^ e) c rep) where
  -- the N-th power of k w ^ r is that of k
  coset_power : (i r : ℕ) → Same p ((rep i * w ^ r) ^ (2 ^ e)) (rep i ^ (2 ^ e))
  coset_power i r =
      rw (mul-pow, ← pow-mul w r (2 ^ e), mul_comm r (2 ^ e), pow-mul w (2 ^ e) r)
      (same_right p ((w ^ (2 ^ e)) ^ r) 1 (rep i ^ (2 ^ e)) (same_pow p (w ^ (2 ^ e)) 1 r (root_whole p big e w root) ∙ rw one-pow) ∙ rw mul-one)

  pub coset_apart : (i j r s : ℕ) → i < c → j < c → r < 2 ^ e → s < 2 ^ e → rep i * w ^ r % p ≡ rep j * w ^ s % p → (i ≡ j) × (r ≡ s)
  coset_apart i j r s hi hj hr hs q =
      let same : i ≡ j = cosets.apart i j hi hj (sym (coset_power i r) ∙ same_pow p (rep i * w ^ r) (rep j * w ^ s) (2 ^ e) q ∙ coset_power j s) in
      let q' : Same p (rep i * w ^ r) (rep i * w ^ s) = q ∙ rw same in
      (same, root_powers p big e w r s root hr hs (unit_cancels p big (rep i) (w ^ r) (w ^ s) (cosets.units i hi) q'))

  pub coset_nonzero : (i r : ℕ) → i < c → r < 2 ^ e → rep i * w ^ r % p ≢ 0
  coset_nonzero i r hi hr q =
      let a : Same p (w ^ r) 0 = unit_cancels p big (rep i) (w ^ r) 0 (cosets.units i hi) (q ∙ rw (mul-zero, zero-mod)) in
      let b : Same p 1 0 = cancel p (w ^ r) (w ^ (2 ^ e - r)) 1 0 (root_inverse p big e w r root hr) (rw (mul-one, mul-zero) a) in
      let z : ◌≡◌ {A = ℕ} 1 0 = sym (mod-eq_of_lt (omega arith)) ∙ b ∙ zero-mod p in
      omega arith

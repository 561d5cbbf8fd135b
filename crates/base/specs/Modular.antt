-- Laws of remainders that the library lacks: a factor, or the base of a power, may be taken modulo m first; numbers that are the same
-- modulo m may stand for each other; what has an inverse cancels.
--
-- Main statements: `mod-mul`, `mul-mod`, `pow-mod`, `same_left`, `same_right`, `same_pow`, `cancel`, `minus_one`.
use Rattle.std.specs.Prelude.{◌≡◌, ℕ, zero, suc, ◌+◌, ◌-◌, ◌*◌, ◌/◌, ◌%◌, ◌^◌, ◌<◌}
use Rattle.std.proofs.Common.{sym, ap, ◌∙◌, arith, mod-lt, add-mul, mul_assoc, mul_comm, mul_right_comm, one-mul, div-add-mod', pow-suc}
use Rattle.std.proofs.Math.Nat.{mul-add-mod_self_left, mul-add-mod_self_right, pow-zero}

-- the left factor modulo m
pub mod-mul : (a b m : ℕ) → a % m * b % m ≡ a * b % m
mod-mul a b m =
    sym
    (ap (λ (x : ℕ). x * b % m) (sym (div-add-mod' a m))
    ∙ ap (λ (x : ℕ). x % m) (add-mul (a / m * m) (a % m) b ∙ ap (λ (x : ℕ). x + a % m * b) (mul_right_comm (a / m) m b))
    ∙ mul-add-mod_self_right (a / m * b) m (a % m * b))

-- the right factor modulo m
pub mul-mod : (a b m : ℕ) → a * (b % m) % m ≡ a * b % m
mul-mod a b m = rw (mul_comm a (b % m), mod-mul, mul_comm b a)

-- a power's base modulo m
pub pow-mod : (b e m : ℕ) → (b % m) ^ e % m ≡ b ^ e % m
pow-mod b zero m = rw (pow-zero, pow-zero)
pow-mod b (suc e) m = rw (pow-suc, pow-suc, mul-mod, ← mod-mul, pow-mod b e m, mod-mul)

-- numbers that are the same modulo m
module _ (m : ℕ) where
  abbrev pub Same : ℕ → ℕ → Type 0
  Same a b = a % m ≡ b % m

  pub same_left : (a b c : ℕ) → Same a b → Same (a * c) (b * c)
  same_left a b c e = sym (mod-mul a c m) ∙ ap (λ (x : ℕ). x * c % m) e ∙ mod-mul b c m

  pub same_right : (a b c : ℕ) → Same a b → Same (c * a) (c * b)
  same_right a b c e = rw (mul_comm c a, mul_comm c b) (same_left a b c e)

  pub same_pow : (a b n : ℕ) → Same a b → Same (a ^ n) (b ^ n)
  same_pow a b n e = sym (pow-mod a n m) ∙ ap (λ (x : ℕ). x ^ n % m) e ∙ pow-mod b n m

  -- a product with a power, as square and multiply keeps it
  pub same_turn : (a x b y k : ℕ) → Same a x → Same b y → Same (a * b ^ k) (x * y ^ k)
  same_turn a x b y k ha hb = same_left a x (b ^ k) ha ∙ same_right (b ^ k) (y ^ k) x (same_pow b y k hb)

  -- u is an inverse of k: k cancels
  pub cancel : (k u x y : ℕ) → Same (u * k) 1 → Same (k * x) (k * y) → Same x y
  cancel k u x y i e = sym (once x) ∙ same_right (k * x) (k * y) u e ∙ once y
    where
      once : (z : ℕ) → Same (u * (k * z)) z
      once z = rw (← mul_assoc) (same_left (u * k) 1 z i ∙ rw one-mul)

-- one factor less: what is over is m minus the other
turned : (k n : ℕ) → k < n → suc k * n ≡ suc n * k + (suc n - suc k)
turned k n h = omega arith

-- m - 1 times a number is m minus it
pub minus_one : (y m : ℕ) → 0 < m → y * (m - 1) % m ≡ (m - y % m) % m
minus_one y m pos = sym (mod-mul y (m - 1) m) ∙ go (y % m) (mod-lt y pos)
  where
    go : (q : ℕ) → q < m → q * (m - 1) % m ≡ (m - q) % m
    go zero h = let a : 0 * (m - 1) ≡ 0 = omega arith in let b : m - 0 ≡ m * 1 + 0 = omega arith in rw (a, b, mul-add-mod_self_left)
    go (suc k) h =
        let n : suc (m - 1) ≡ m = omega arith in
        let e : suc k * (m - 1) ≡ m * k + (m - suc k) = rw n at (turned k (m - 1) (omega arith)) in
        rw (e, mul-add-mod_self_left)

-- Powers: laws that the library lacks, and a power modulo m by repeated squaring, which computes on numerals.
--
-- Main definition: `fast`. Main statements: `pow-mul`, `mul-pow`, `halve_pow`, `fast_is_power`.
use Rattle.std.specs.Prelude.{◌≡◌, refl, ℕ, zero, suc, ◌*◌, ◌/◌, ◌%◌, ◌^◌, ◌<◌}
use Rattle.std.proofs.Common.{ap, ◌∙◌, mul_assoc, mul_comm, mul-one, one-mul, zero-mul, mul-zero, mul-suc, suc-mul, div-add-mod', pow-suc, arith, pow-add}
use Rattle.std.proofs.Math.Nat.{mul-mul-mul_comm, pow-zero}
use Rattle.std.proofs.Math.Arith.{lt-one}
use Rattle.base.specs.Modular.{mod-mul, pow-mod}

pub one-pow : (n : ℕ) → 1 ^ n ≡ 1
one-pow zero = refl
one-pow (suc n) = rw (pow-suc, mul-one) (one-pow n)

pub pow-one : (b : ℕ) → b ^ 1 ≡ b
pow-one b = pow-suc b 0 ∙ ap (λ (x : ℕ). x * b) (pow-zero b) ∙ one-mul b

pub pow-two : (b : ℕ) → b ^ 2 ≡ b * b
pow-two b = pow-suc b 1 ∙ ap (λ (x : ℕ). x * b) (pow-one b)

pub pow-mul : (a m n : ℕ) → a ^ (m * n) ≡ (a ^ m) ^ n
pow-mul a m zero = simp (mul-zero, pow-zero)
pow-mul a m (suc n) = rw (mul-suc, pow-add, pow-suc (a ^ m) n, pow-mul a m n)

pub mul-pow : (a b n : ℕ) → (a * b) ^ n ≡ a ^ n * b ^ n
mul-pow a b zero = simp (pow-zero, mul-one)
mul-pow a b (suc n) = rw (pow-suc (a * b) n, pow-suc a n, pow-suc b n, mul-pow a b n) (mul-mul-mul_comm (a ^ n) (b ^ n) a b)

-- the power of a square
square_pow : (b e : ℕ) → (b * b) ^ e ≡ b ^ (e * 2)
square_pow b zero = rw (pow-zero, zero-mul, pow-zero)
square_pow b (suc e) = rw (pow-suc, square_pow b e, suc-mul, pow-add b (e * 2) 2, pow-two)

-- a power by the exponent's last bit
halve_pow : (b e : ℕ) → (b * b) ^ (e / 2) * b ^ (e % 2) ≡ b ^ e
halve_pow b e = rw (square_pow, ← pow-add, div-add-mod')

-- a turn of square and multiply: the last bit of the exponent goes into the result, and the base is squared
pub square_turn : (r b e : ℕ) → r * b ^ (e % 2) * (b * b) ^ (e / 2) ≡ r * b ^ e
square_turn r b e = rw (mul_assoc, mul_comm (b ^ (e % 2)) ((b * b) ^ (e / 2)), halve_pow)

-- b ^ e modulo m, for an exponent of k bits
unfoldable pub fast : (k b e m : ℕ) → ℕ
fast zero b e m = 1 % m
fast (suc k) b e m = fast k (b * b % m) (e / 2) m * b ^ (e % 2) % m

pub fast_is_power : (k b e m : ℕ) → e < 2 ^ k → fast k b e m ≡ b ^ e % m
unfolding fast
fast_is_power zero b e m h = rw (lt-one h, pow-zero)
fast_is_power (suc k) b e m h =
    rw (fast_is_power k (b * b % m) (e / 2) m (omega (arith, pow-suc 2 k)), mod-mul, ← mod-mul, pow-mod, mod-mul, halve_pow)

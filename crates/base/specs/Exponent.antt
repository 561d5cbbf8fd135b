-- Powers of two: the exponent of the smallest one not below a number.
--
-- Main definitions: `exponent`, `is_power`.
-- Main statements: `exponent_enough` and `exponent-least` (it is the smallest), `power_is` (a power of two is the power of its exponent).
use Rattle.std.specs.Prelude.{◌≡◌, refl, Bool, true, ℕ, zero, suc, ◌+◌, ◌-◌, ◌^◌, ◌≤◌, ◌<◌, leb, eqb}
use Rattle.std.proofs.Common.{ap, add-one, arith, le-leb, eqb-true}
use Rattle.std.proofs.Math.Decide.{ℕ_discrete, dec_lt}
use Rattle.std.proofs.Math.Pow.{pow-lt}
use Rattle.std.proofs.lemmas.Bool.{lt-leb}
use Rattle.base.specs.Pick.{pick}

-- the least exponent from e on of a power of two not below n, looked for k times
unfoldable pub exponent_from : ℕ → ℕ → ℕ → ℕ
exponent_from zero e n = e
exponent_from (suc k) e n = pick (leb n (2 ^ e)) e (exponent_from k (suc e) n)

-- the exponent of the smallest power of two not below n
abbrev pub exponent : ℕ → ℕ
exponent n = exponent_from n 0 n

-- n is a power of two
abbrev pub is_power : ℕ → Bool
is_power n = eqb (2 ^ exponent n) n

pub exponent_stop : (k e n : ℕ) → n ≤ 2 ^ e → exponent_from k e n ≡ e
unfolding exponent_from
exponent_stop zero e n h = refl
exponent_stop (suc k) e n h = rw (le-leb n (2 ^ e) h)

pub exponent-next : (k e n : ℕ) → 0 < k → 2 ^ e < n → exponent_from k e n ≡ exponent_from (k - 1) (e + 1) n
unfolding exponent_from
exponent-next zero e n z h = absurd (omega arith)
exponent-next (suc k) e n z h = let q : suc k - 1 ≡ k = omega arith in rw (lt-leb n (2 ^ e) h, q, add-one)

-- an exponent is below its power
pub below_power : (e : ℕ) → e < 2 ^ e
below_power zero = omega arith
below_power (suc e) = omega (arith, below_power e)

enough_from : (k e n : ℕ) → n ≤ e + k → n ≤ 2 ^ exponent_from k e n
unfolding exponent_from
enough_from zero e n h = omega (arith, below_power e)
enough_from (suc k) e n h = by (dec_lt (2 ^ e) n) (enough_from k (suc e) n (omega arith))
  where
    by : Dec (2 ^ e < n) → n ≤ 2 ^ exponent_from k (suc e) n → n ≤ 2 ^ pick (leb n (2 ^ e)) e (exponent_from k (suc e) n)
    by (no a) more = rw (le-leb n (2 ^ e) (omega arith)) (omega arith)
    by (yes a) more = rw (lt-leb n (2 ^ e) a) more

pub exponent_enough : (n : ℕ) → n ≤ 2 ^ exponent n
exponent_enough n = enough_from n 0 n (omega arith)

least-from : (k e n j : ℕ) → e ≤ j → n ≤ 2 ^ j → exponent_from k e n ≤ j
unfolding exponent_from
least-from zero e n j h l = h
least-from (suc k) e n j h l = by (dec_lt (2 ^ e) n) (ℕ_discrete e j) (least-from k (suc e) n j)
  where
    by : Dec (2 ^ e < n) → Dec (e ≡ j) → (suc e ≤ j → n ≤ 2 ^ j → exponent_from k (suc e) n ≤ j) → pick (leb n (2 ^ e)) e (exponent_from k (suc e) n) ≤ j
    by (no a) d more = rw (le-leb n (2 ^ e) (omega arith)) h
    by (yes a) (yes d) more = let q : 2 ^ e ≡ 2 ^ j = ap (λ (z : ℕ). 2 ^ z) d in absurd (omega arith)
    by (yes a) (no d) more = rw (lt-leb n (2 ^ e) a) (more (omega arith) l)

pub exponent-least : (n j : ℕ) → n ≤ 2 ^ j → exponent n ≤ j
exponent-least n j h = least-from n 0 n j (omega arith) h

-- the exponent of a number above 2 ^ j and within its double
pub exponent-between : (n j : ℕ) → 2 ^ j < n → n ≤ 2 ^ suc j → exponent n ≡ suc j
exponent-between n j low high = by (dec_lt (exponent n) (suc j))
  where
    by : Dec (exponent n < suc j) → exponent n ≡ suc j
    by (yes a) = absurd (go (ℕ_discrete (exponent n) j))
      where
        go : Dec (exponent n ≡ j) → ⊥
        go (yes q) = let e : 2 ^ exponent n ≡ 2 ^ j = ap (λ (z : ℕ). 2 ^ z) q in omega (arith, exponent_enough n)
        go (no d) = let s : exponent n < j = omega arith in omega (arith, exponent_enough n, pow-lt s)
    by (no a) = omega (arith, exponent-least n (suc j) high)

-- a power of two is the power of its exponent
pub power_is : (n : ℕ) → is_power n ≡ true → 2 ^ exponent n ≡ n
power_is n e = eqb-true (2 ^ exponent n) n e

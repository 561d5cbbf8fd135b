-- 01, 'Field'. Elements are words below p; every operation reads any number modulo p, and its result is below p.
--
-- Main definitions: `p`, `fadd`, `fsub`, `fmul`, `fpow`, `generator`, `is_non_residue`, `squared`.
use Rattle.std.specs.Prelude.{ℕ, zero, suc, ◌+◌, ◌-◌, ◌*◌, ◌/◌, ◌%◌, ◌^◌, Bool, ◌==◌}

-- "p = 18446744069414584321."
abbrev pub p : ℕ
p = 18446744069414584321

-- "Add, subtract, multiply, power (any word to the power 0 is 1)."
abbrev pub fadd : ℕ → ℕ → ℕ
fadd a b = (a + b) % p

-- what b lacks of p, added to a
abbrev pub fsub : ℕ → ℕ → ℕ
fsub a b = (a + (p - b % p)) % p

abbrev pub fmul : ℕ → ℕ → ℕ
fmul a b = a * b % p

-- The exponent is a plain count and is not reduced. Shut, since antt would compute the whole power of two numerals: `power` of Numerals computes by squaring.
unfoldable pub fpow : ℕ → ℕ → ℕ
fpow b e = b ^ e % p

-- "The generator is 7 to the power 2^32−1."
abbrev pub generator : ℕ
generator = fpow 7 (2 ^ 32 - 1)

-- "c is a non-residue when c^((p−1)/2) = p−1."
abbrev pub is_non_residue : ℕ → Bool
is_non_residue c = fpow c ((p - 1) / 2) == p - 1

-- a squared k times: how labels come from the generator to the generator of a shorter domain
unfoldable pub squared : ℕ → ℕ → ℕ
squared zero a = a
squared (suc k) a = squared k (fmul a a)

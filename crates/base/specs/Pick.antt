-- A choice by a test. Every definition of the crates above that tests something is written with `pick`.
--
-- Main definitions: `pick`, `both`.
-- Main statements: `pick_yes`, `pick_no` (the choice, by the test's value), `pick-zero` (a choice between a number and a refusal that is 0).
use Rattle.std.specs.Prelude.{◌≡◌, refl, ◌≢◌, Bool, true, false, ℕ}
use Rattle.std.proofs.Common.{arith}

abbrev pub pick {ℓ} : {A : Type ℓ} → Bool → A → A → A
pick true a b = a
pick false a b = b

-- a test's value is one of the two
pub true_not_false : {A : Type 0} → true ≡ false → A
true_not_false e = absurd (let z : ◌≡◌ {A = ℕ} 0 1 = cc in omega arith)

-- both tests hold
abbrev pub both : Bool → Bool → Bool
both a b = pick a b false

pub pick_yes : {A : Type 0} (t : Bool) (a b : A) → t ≡ true → pick t a b ≡ a
pick_yes true a b e = refl
pick_yes false a b e = absurd (let z : ◌≡◌ {A = ℕ} 0 1 = cc in omega arith)

pub pick_no : {A : Type 0} (t : Bool) (a b : A) → t ≡ false → pick t a b ≡ b
pick_no true a b e = absurd (let z : ◌≡◌ {A = ℕ} 0 1 = cc in omega arith)
pick_no false a b e = refl

-- where the choice is 0 and the refusal is not, the test held and what it guards is 0
pub pick-zero : (t : Bool) (a b : ℕ) → b ≢ 0 → pick t a b ≡ 0 → (t ≡ true) × (a ≡ 0)
pick-zero true a b n e = (refl, e)
pick-zero false a b n e = absurd (n e)

pub both_true : (a b : Bool) → both a b ≡ true → (a ≡ true) × (b ≡ true)
both_true true b e = (refl, e)
both_true false b e = (e, absurd (let z : ◌≡◌ {A = ℕ} 0 1 = cc in omega arith))

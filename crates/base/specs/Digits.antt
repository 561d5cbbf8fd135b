-- A list of binary digits and the words that spell it: a number of digits, and a word whose least bit is the first.
--
-- Main definitions: `digits`, `Spelled`. Main statements: `digits-many`, and `digits_turn`, `digits-left` for loops that write the digits.
use Rattle.std.specs.Prelude.{◌≡◌, refl, List, [], ◌∷◌, ℕ, zero, suc, ◌+◌, ◌-◌, ◌/◌, ◌%◌, ◌<◌, length, get_or, drop}
use Rattle.std.proofs.Common.{sym, ap, ◌∙◌, arith}
use Rattle.base.specs.Drops.{drop-one}

-- the first n digits of a word, the least first
unfoldable pub digits : ℕ → ℕ → List ℕ
digits zero bits = []
digits (suc n) bits = bits % 2 ∷ digits n (bits / 2)

example : digits 4 6 ≡ 0 ∷ 1 ∷ 1 ∷ 0 ∷ []
unfolding digits
example = refl

-- the word and the number spell the list
pub record Spelled (path : List ℕ) (bits steps : ℕ) : Type 0 where
  pub digits_are : digits steps bits ≡ path
  pub steps_are : steps ≡ length path

pub digits-many : (n bits : ℕ) → length (digits n bits) ≡ n
unfolding digits
digits-many zero bits = refl
digits-many (suc n) bits = ap suc (digits-many n (bits / 2))

-- one digit is taken off
pub digits_turn : (n i rest : ℕ) → i < n → digits (n - i) rest ≡ rest % 2 ∷ digits (n - (i + 1)) (rest / 2)
unfolding digits
digits_turn n i rest h = let e : n - i ≡ suc (n - (i + 1)) = omega arith in rw e

-- the digits that are left are a path's from i on: so are those after the next one
pub digits-left : (path : List ℕ) (n i rest : ℕ) → digits (n - i) rest ≡ drop i path → i < n → i < length path → (rest % 2 ≡ get_or path i 0) × (digits (n - (i + 1)) (rest / 2) ≡ drop (i + 1) path)
digits-left path n i rest e h k =
    let both : rest % 2 ∷ digits (n - (i + 1)) (rest / 2) ≡ get_or path i 0 ∷ drop (i + 1) path = sym (digits_turn n i rest h) ∙ e ∙ drop-one path i k in
    (ap (λ (l : List ℕ). get_or l 0 0) both, ap (drop 1) both)

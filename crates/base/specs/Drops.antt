-- What stands at the front of a list from which i words are dropped, for a loop that goes by one, two or three words.
--
-- Main statements: `drop-none`, `drop-one`, `drop_last`, `drop-two`.
use Rattle.std.specs.Prelude.{◌≡◌, List, [], ◌∷◌, ℕ, ◌+◌, ◌≤◌, ◌<◌, length, get_or, drop}
use Rattle.std.proofs.Common.{ap, ◌∙◌, add-one, arith, drop_of_length-le, drop-cons}

pub drop-none : (xs : List ℕ) (i : ℕ) → length xs ≤ i → drop i xs ≡ []
drop-none xs i h = drop_of_length-le xs h

pub drop-one : (xs : List ℕ) (i : ℕ) → i < length xs → drop i xs ≡ get_or xs i 0 ∷ drop (i + 1) xs
drop-one xs i h = rw (add-one, drop-cons xs i 0)

pub drop_last : (xs : List ℕ) (i : ℕ) → i < length xs → length xs ≤ i + 1 → drop i xs ≡ get_or xs i 0 ∷ []
drop_last xs i h k = drop-one xs i h ∙ ap (λ (l : List ℕ). get_or xs i 0 ∷ l) (drop-none xs (i + 1) k)

pub drop-two : (xs : List ℕ) (i : ℕ) → i + 1 < length xs → drop i xs ≡ get_or xs i 0 ∷ (get_or xs (i + 1) 0 ∷ drop (i + 2) xs)
drop-two xs i h =
    let e : i + 1 + 1 ≡ i + 2 = omega arith in
    drop-one xs i (omega arith)
    ∙ ap (λ (l : List ℕ). get_or xs i 0 ∷ l) (drop-one xs (i + 1) h ∙ ap (λ (k : ℕ). get_or xs (i + 1) 0 ∷ drop k xs) e)

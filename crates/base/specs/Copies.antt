-- A list copied over the front of another, word by word.
--
-- Main statements: `copy_next`, `copy_end`.
use Rattle.std.specs.Prelude.{◌+◌, ◌<◌, ◌≤◌, suc, ℕ, drop, get_or, length, set, take, List, [], ◌++◌, ◌∷◌, ◌≡◌}
use Rattle.std.proofs.Common.{drop-cons, length-take-le, take-suc, append_assoc, ◌∙◌, ap, sym, add-one, arith}
use Rattle.std.proofs.Math.Seq.{set-append_seam, take-length}

-- one word more
pub copy_next : (xs ys : List ℕ) (i : ℕ) → i < length xs → i < length ys → set (take i xs ++ drop i ys) i (get_or xs i 0) ≡ take (i + 1) xs ++ drop (i + 1) ys
copy_next xs ys i h k =
    let e : length (take i xs) ≡ i = length-take-le i xs (omega arith) in
    ap (λ (l : List ℕ). set (take i xs ++ l) i (get_or xs i 0)) (drop-cons ys i 0 k)
    ∙ ap (λ (j : ℕ). set (take i xs ++ (get_or ys i 0 ∷ drop (suc i) ys)) j (get_or xs i 0)) (sym e)
    ∙ set-append_seam (take i xs) (get_or ys i 0) (drop (suc i) ys) (get_or xs i 0)
    ∙ rw (add-one, take-suc xs i 0 h) (sym (append_assoc (take i xs) (get_or xs i 0 ∷ []) (drop (suc i) ys)))

-- all words
pub copy_end : (xs ys : List ℕ) (i : ℕ) → length xs ≤ i → i ≤ length xs → take i xs ++ drop i ys ≡ xs ++ drop (length xs) ys
copy_end xs ys i h k =
    let e : i ≡ length xs = omega arith in
    ap (λ (j : ℕ). take j xs ++ drop j ys) e ∙ ap (λ (l : List ℕ). l ++ drop (length xs) ys) (take-length xs)

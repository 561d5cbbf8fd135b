-- The bytes of a word, as the eighth part of a slice that `as_chunks` makes.
--
-- Main statement: `chunk_word`.
use Rattle.std.specs.Prelude.{◌≡◌, List, ℕ, zero, suc, ◌+◌, ◌*◌, ◌/◌, ◌<◌, length, get_or, take, drop}
use Rattle.std.specs.Int.{from_le_bytes, w64}
use Rattle.std.specs.Simd.{first_chunks}
use Rattle.std.proofs.Common.{refl, ap, ◌∙◌, arith, add-zero, drop-drop}
use Rattle.std.proofs.lemmas.Bool.{lt-leb}
use Rattle.std.proofs.lemmas.List.{get_or-take}
use Rattle.std.proofs.Math.Seq.{get_or-drop}
use Rattle.octets.specs.Words.{word_at}

-- eight bytes from 8 i on
chunk_at : (k : ℕ) (xs : List ℕ) (i : ℕ) (d : List ℕ) → i < k → get_or (first_chunks 8 k xs) i d ≡ take 8 (drop (i * 8) xs)
chunk_at zero xs i d h = absurd (omega arith)
chunk_at (suc k) xs zero d h = refl
chunk_at (suc k) xs (suc i) d h =
    let e : 8 + i * 8 ≡ suc i * 8 = omega arith in
    chunk_at k (drop 8 xs) i d (omega arith) ∙ ap (take 8) (drop-drop (i * 8) 8 xs ∙ ap (λ (j : ℕ). drop j xs) e)

byte : (xs : List ℕ) (at j : ℕ) → j < 8 → get_or (take 8 (drop at xs)) j 0 ≡ get_or xs (at + j) 0
byte xs at j h = get_or-take 8 (drop at xs) j 0 h ∙ get_or-drop at xs j 0

pub chunk_word : (xs : List ℕ) (i : ℕ) (word : List ℕ) → i < length xs / 8 → word ≡ get_or (first_chunks 8 (length xs / 8) xs) i word → from_le_bytes w64 word ≡ word_at xs i
chunk_word xs i word h e =
    simp (lt-leb _ _ h)
    (omega (
      arith,
      rw add-zero at (at 0 (omega arith)),
      at 1 (omega arith),
      at 2 (omega arith),
      at 3 (omega arith),
      at 4 (omega arith),
      at 5 (omega arith),
      at 6 (omega arith),
      at 7 (omega arith),
    ))
  where
    at : (j : ℕ) → j < 8 → get_or word j 0 ≡ get_or xs (i * 8 + j) 0
    at j l = ap (λ (w : List ℕ). get_or w j 0) (e ∙ chunk_at (length xs / 8) xs i word h) ∙ byte xs (i * 8) j l

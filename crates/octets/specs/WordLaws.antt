-- Words read from bytes, one after the other.
--
-- Main statements: `words_filled` (a buffer filled to its last word or the bytes' last), `words_whole` (a buffer that takes them all begins with them).
use Rattle.std.specs.Prelude.{◌≡◌, refl, List, [], ◌∷◌, ℕ, ◌/◌, ◌≤◌, length, take, drop}
use Rattle.std.proofs.Common.{ap, ◌∙◌, arith, take_at}
use Rattle.base.specs.Tables.{table, table-length}
use Rattle.base.specs.Fills.{Filled, filled_list}
use Rattle.octets.specs.Words.{word_at, words_of, words_read, words_left}

pub words_filled : (bytes old new : List ℕ) (i : ℕ) → i ≡ words_read bytes old → Filled (word_at bytes) 0 i old new → new ≡ words_left bytes old
unfolding words_left
words_filled bytes old new i e h =
    let f : Filled (word_at bytes) 0 (words_read bytes old) old new = rw e at h in
    filled_list (word_at bytes) (words_read bytes old) old new (omega arith) f

pub words_whole : (bytes old : List ℕ) → length bytes / 8 ≤ length old → take (words_read bytes old) (words_left bytes old) ≡ words_of bytes
unfolding words_left
words_whole bytes old h =
    let e : words_read bytes old ≡ length bytes / 8 = omega arith in
    take_at (table (words_read bytes old) (word_at bytes)) (drop (words_read bytes old) old) (words_read bytes old) (table-length (words_read bytes old) (word_at bytes))
    ∙ ap (λ (n : ℕ). table n (word_at bytes)) e

-- "Little-endian"
worked : words_of (1 ∷ 2 ∷ 0 ∷ 0 ∷ 0 ∷ 0 ∷ 0 ∷ 0 ∷ 0 ∷ 0 ∷ 0 ∷ 0 ∷ 0 ∷ 0 ∷ 0 ∷ 128 ∷ 9 ∷ []) ≡ 513 ∷ 9223372036854775808 ∷ []
unfolding table
worked = refl

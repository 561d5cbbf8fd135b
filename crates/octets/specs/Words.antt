-- Words from little-endian bytes.
--
-- Main definitions: `word_at`, `words_of`, `words_read`, `words_left`.
use Rattle.std.specs.Prelude.{List, ◌++◌, ℕ, ◌+◌, ◌*◌, ◌/◌, min, leb, length, get_or, drop}
use Rattle.base.specs.Pick.{pick}
use Rattle.base.specs.Tables.{table}

-- two bytes, the lower first
abbrev pair : List ℕ → ℕ → ℕ → ℕ
pair bytes i j = get_or bytes i 0 + 256 * get_or bytes j 0

-- "Little-endian": the word number i, 0 where its eight bytes are not all there
abbrev pub word_at : List ℕ → ℕ → ℕ
word_at bytes i =
    pick (leb (length bytes / 8) i) 0
    (pair bytes (i * 8) (i * 8 + 1)
    + 65536 * (pair bytes (i * 8 + 2) (i * 8 + 3) + 65536 * (pair bytes (i * 8 + 4) (i * 8 + 5) + 65536 * pair bytes (i * 8 + 6) (i * 8 + 7))))

-- the whole words of the bytes
abbrev pub words_of : List ℕ → List ℕ
words_of bytes = table (length bytes / 8) (word_at bytes)

-- how many of them a buffer takes
abbrev pub words_read : List ℕ → List ℕ → ℕ
words_read bytes buffer = min (length bytes / 8) (length buffer)

-- the buffer with the words at its front
unfoldable pub words_left : List ℕ → List ℕ → List ℕ
words_left bytes buffer = table (words_read bytes buffer) (word_at bytes) ++ drop (words_read bytes buffer) buffer

-- 02, Change 1: what a padding in one call answers and leaves, with one slice for the padded listing and one for its number of words.
--
-- Main definitions: `pad_call`, `pad_out`, `pad_count`.
use Rattle.std.specs.Prelude.{ℕ, leb, length, List, [], ◌∷◌}
use Rattle.base.specs.Pick.{pick}
use Rattle.padding.specs.Padding.{pad_answer, pad_left}
use Rattle.writer.specs.Hand.{handed}

-- "a short result buffer is 10, last": where there is no room for the count there is none for a listing either
unfoldable pub pad_call : List ℕ → List ℕ → List ℕ → ℕ
pad_call ws out count = (pad_answer ws (pick (leb 1 (length count)) out [])).number

-- "words past it keep their values"; without room for the count nothing is written
unfoldable pub pad_out : List ℕ → List ℕ → List ℕ → List ℕ
pad_out ws out count = pick (leb 1 (length count)) (pad_left ws out) out

-- "A call that writes a listing answers its number of words": 0 after a refusal
unfoldable pub pad_count : List ℕ → List ℕ → List ℕ → List ℕ
pad_count ws out count = handed ((pad_answer ws out).words ∷ []) count

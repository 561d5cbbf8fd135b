-- Text as bytes, and a lent buffer that takes it.
--
-- Main definitions: `Sink`, `put`, `decimal`, `field`, `fields`.
use Rattle.std.specs.Prelude.{List, [], ◌∷◌, ◌++◌, ℕ, zero, suc, ◌/◌, ltb, length, set}
use Rattle.io.specs.Digits.{last_digits}
use Rattle.base.specs.Pick.{pick}

-- A buffer and the place where the next byte goes. Bytes past its end are dropped.
pub record Sink : Type 0 where
  pub bytes : List ℕ
  pub at : ℕ

abbrev pub sink : List ℕ → ℕ → Sink
sink bytes at = record { bytes = bytes; at = at }

abbrev pub put_byte : Sink → ℕ → Sink
put_byte s b = pick (ltb s.at (length s.bytes)) (sink (set s.bytes s.at b) (suc s.at)) s

unfoldable pub put : Sink → List ℕ → Sink
put s [] = s
put s (b ∷ bs) = put (put_byte s b) bs

-- how many decimal digits a word has, of at most `most` and one more
unfoldable pub places : ℕ → ℕ → ℕ
places zero n = 1
places (suc most) n = pick (ltb n 10) 1 (suc (places most (n / 10)))

-- a word in base ten, with no zeros in front: below 2^64 it has at most twenty digits
unfoldable pub decimal : ℕ → List ℕ
decimal n = last_digits 10 (places 19 n) n

-- "Fields are parted by one space": a number as a field after another one
abbrev pub field : ℕ → List ℕ
field n = 32 ∷ decimal n

unfoldable pub fields : List ℕ → List ℕ
fields [] = []
fields (n ∷ ns) = field n ++ fields ns

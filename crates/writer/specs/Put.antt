-- Words put into a lent buffer from a place on.
--
-- Main definitions: `put`, `put_if`.
use Rattle.std.specs.Prelude.{◌+◌, ℕ, leb, length, List}
use Rattle.std.proofs.Math.Seq.{paste}
use Rattle.base.specs.Pick.{pick}

-- the new words stand from `at` on, every other word is the old one
unfoldable pub put : ℕ → List ℕ → List ℕ → List ℕ
put at new old = paste old at new (length new)

-- new words that do not fit are not written at all
unfoldable pub put_if : ℕ → List ℕ → List ℕ → List ℕ
put_if at new old = pick (leb (at + length new) (length old)) (put at new old) old

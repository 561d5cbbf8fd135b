-- What the cursor's functions answer.
--
-- Main definition: `moved_to`. Main statement: `drop_moved` (what is read n words on is read from place n).
use Rattle.std.specs.Prelude.{◌≡◌, List, ℕ, ◌+◌, ◌≤◌, ◌<◌, length, drop, ltb}
use Rattle.std.proofs.Common.{sym, ◌∙◌, zero-add, arith, drop_of_length-le, lt-ltb, le-ltb}
use Rattle.std.proofs.Math.Decide.{dec_lt}
use Rattle.base.specs.Pick.{pick}

-- n words on from a place, or the end
abbrev pub moved_to : List ℕ → ℕ → ℕ → ℕ
moved_to xs at n = pick (ltb (at + n) (length xs)) (at + n) (length xs)

-- from the first word on, the words after a move by n are the words from n on
pub drop_moved : (xs : List ℕ) (n : ℕ) → drop (moved_to xs 0 n) xs ≡ drop n xs
drop_moved xs n = go (dec_lt n (length xs))
  where
    go : Dec (n < length xs) → drop (moved_to xs 0 n) xs ≡ drop n xs
    go (yes h) = simp (zero-add, lt-ltb n (length xs) h)
    go (no h) =
        let k : length xs ≤ n = omega arith in
        let all : length xs ≤ length xs = omega arith in
        simp (zero-add, le-ltb n (length xs) k) (drop_of_length-le xs all ∙ sym (drop_of_length-le xs k))

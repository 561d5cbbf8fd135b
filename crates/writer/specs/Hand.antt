-- What a call that hands out words answers and leaves.
--
-- Main definitions: `handed`, `hand_number`, `hand_left`, `Wrote`, `hand_answer`.
use Rattle.std.specs.Prelude.{ℕ, eqb, leb, drop, length, List, ◌++◌}
use Rattle.base.specs.Firsts.{or_number}
use Rattle.base.specs.Pick.{pick}

-- "A result slice that is too short is 10 and nothing is written." Words of a result slice beyond the named ones keep their values.
abbrev pub handed : List ℕ → List ℕ → List ℕ
handed new old = pick (leb (length new) (length old)) (new ++ drop (length new) old) old

-- the number of a call that may be refused and then hands out words: its refusal, then 10 for the result slice
unfoldable pub hand_number : ℕ → List ℕ → List ℕ → ℕ
hand_number n new out = or_number n (pick (leb (length new) (length out)) 0 10)

-- "no word is written" after a refusal
unfoldable pub hand_left : ℕ → List ℕ → List ℕ → List ℕ
hand_left n new out = pick (eqb n 0) (handed new out) out

-- what a call that writes a listing answers: 0 or a refusal number, and how many words were written
pub record Wrote : Type 0 where
  pub number : ℕ
  pub words : ℕ

-- 02, Change 1: "A call that writes a listing answers its number of words", none after a refusal
unfoldable pub hand_answer : ℕ → List ℕ → List ℕ → Wrote
hand_answer n new out = record { number = hand_number n new out; words = pick (eqb (hand_number n new out) 0) (length new) 0 }

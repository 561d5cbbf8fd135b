-- 01, 'Listing': what the words of a listing say. This is the definition to hold against 01; `Ends` has the form that the code is proved by, and
-- `ReaderLaws` proves the two equal.
--
-- Main definitions: `Words` (the words of the six sections), `records`, `section`, `read` (the sections of a list of words, or refusal 20).
--
-- All numbers are whole numbers, so nothing wraps. Reading stops at the first record that is missing, so `read` computes whatever the counts say.
use Rattle.std.specs.Prelude.{List, [], ◌∷◌, ◌++◌, ℕ, zero, suc, ◌+◌, length, get_or, take, drop, leb, eqb}
use Rattle.std.proofs.Math.Option.{Option, none, some, bind}
use Rattle.base.specs.Pick.{pick}
use Rattle.selector.specs.Gates.{gate_words}
use Rattle.pieces.specs.Records.{row_size, table_size}
use Rattle.parameters.specs.Parameters.{parameter_words}

-- words off the front of a list, and those after them
pub record Taken : Type 0 where
  pub front : List ℕ
  pub rest : List ℕ

-- the first n words; none where one of them is missing
unfoldable pub off : ℕ → List ℕ → Option Taken
off n xs = pick (leb n (length xs)) (some (record { front = take n xs; rest = drop n xs })) none

-- words put after those taken before them
abbrev pub after : List ℕ → Taken → Option Taken
after ws t = some (record { front = ws ++ t.front; rest = t.rest })

-- n records off the front, "each record being as long as its own words say": `long` says how many words the one in front has
unfoldable pub records : (List ℕ → ℕ) → ℕ → List ℕ → Option Taken
records long zero xs = some (record { front = []; rest = xs })
records long (suc n) xs = bind (off (long xs) xs) (λ t. bind (records long n t.rest) (after t.front))

-- "Sections, each after its count"
unfoldable pub section : (List ℕ → ℕ) → List ℕ → Option Taken
section long [] = none
section long (n ∷ xs) = records long n xs

-- parameters, S words and cell words are counted in words; "A gate is three words"
abbrev pub fixed : ℕ → List ℕ → ℕ
fixed each xs = each

-- "rows (gate, number of constants, constants)", "tables (width, rows, contents row by row)": two words and as many as they say. A word that is missing
-- is read as 0 here: then the two words are not there, and the record is missing.
abbrev pub headed : (ℕ → ℕ → ℕ) → List ℕ → ℕ
headed size xs = 2 + size (get_or xs 0 0) (get_or xs 1 0)

-- the words of the six sections, without their counts
pub record Words : Type 0 where
  pub parameters : List ℕ
  pub gates : List ℕ
  pub rows : List ℕ
  pub s_words : List ℕ
  pub cells : List ℕ
  pub tables : List ℕ

-- "wrong parameter count"
abbrev pub eight : Taken → Option Taken
eight t = pick (eqb (length t.front) parameter_words) (some t) none

-- "left over"
abbrev pub ended : Words → List ℕ → Option Words
ended w rest = pick (eqb (length rest) 0) (some w) none

-- "parameters ..; gates; rows ..; S words; cell words; tables .."
unfoldable pub six_sections : List ℕ → Option Words
six_sections xs =
    bind (bind (section (fixed 1) xs) eight) (λ p.
    bind (section (fixed gate_words) p.rest) (λ g.
    bind (section (headed row_size) g.rest) (λ r.
    bind (section (fixed 1) r.rest) (λ s.
    bind (section (fixed 1) s.rest) (λ c.
    bind (section (headed table_size) c.rest) (λ t.
    ended (record { parameters = p.front; gates = g.front; rows = r.front; s_words = s.front; cells = c.front; tables = t.front }) t.rest))))))

-- what a listing says: the words of its sections, or a refusal
pub data Reading : Type 0 where
  whole : Words → Reading
  refused : ℕ → Reading

abbrev pub or_twenty : Option Words → Reading
or_twenty none = refused 20
or_twenty (some w) = whole w

-- "20 wrong parameter count, input missing, over-long or left over, tested over the whole input before all else". Here a listing is a list of words: that the input has at most
-- 65,536 bytes, and no bytes beside whole words, is tested where it is read.
unfoldable pub read : List ℕ → Reading
read xs = or_twenty (six_sections xs)

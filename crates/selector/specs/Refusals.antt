-- 01, 'When a call is turned down', planning's refusals 3 to 7, which are about the gate words.
--
-- Main definitions: `gates_number` (4 to 7, for m records), `words_fit` (3), `Sound` (the bounds that accepted records keep).
use Rattle.std.specs.Prelude.{◌*◌, ◌+◌, ◌-◌, ◌/◌, suc, zero, ℕ, eqb, leb, length, Bool, false, true, List}
use Rattle.base.specs.Firsts.{or_number}
use Rattle.base.specs.Limits.{most_gates}
use Rattle.base.specs.Pick.{both, pick}
use Rattle.selector.specs.Gates.{constants_of, constants_word, degree_of, gate_words, kind_of, placed_gates, top_constants}

-- the number of gates that a list of words holds
abbrev pub count_of_gates : List ℕ → ℕ
count_of_gates gs = length gs / gate_words

-- "3 words that are not three each for 1..128 gates"
unfoldable pub words_fit : List ℕ → Bool
words_fit gs = both (eqb (count_of_gates gs * gate_words) (length gs)) (both (leb 1 (count_of_gates gs)) (leb (count_of_gates gs) most_gates))

-- "Kind 0 evaluated, degree 1..64, constants 0..16; 1 marker with selector; 2 marker without; 3 lookup marker. Kinds 1 to 3 have degree and constants 0."
unfoldable pub record_number : ℕ → ℕ → ℕ → ℕ
record_number k d c =
    pick (eqb k 0)
    (pick (leb 1 d) (pick (leb d 64) (pick (leb c 16) 0 4) 4) 4)
    (pick (leb k 3) (pick (eqb d 0) (pick (eqb c 0) 0 4) 4) 4)

-- "4 first bad record": of the k records from g on
unfoldable pub records_number : ℕ → List ℕ → ℕ → ℕ
records_number zero gs g = 0
records_number (suc k) gs g =
    let rest = records_number k gs (g + 1) in
    pick (eqb (record_number (kind_of gs g) (degree_of gs g) (constants_word gs g)) 0) rest 4

-- the lookup gate stands in the list in modes 1 and 2
abbrev pub lists_lookup : ℕ → Bool
lists_lookup mode = both (leb 1 mode) (leb mode 2)

-- one of the k gates from g on has this kind
unfoldable pub some_kind : ℕ → ℕ → List ℕ → ℕ → Bool
some_kind kind zero gs g = false
some_kind kind (suc k) gs g = let rest = some_kind kind k gs (g + 1) in pick (eqb (kind_of gs g) kind) true rest

-- "5 kind 3 elsewhere than first in mode 1 or 2, missing there, or a single gate in a lookup mode"
unfoldable pub lookup_number : ℕ → List ℕ → ℕ → ℕ
lookup_number mode gs m =
    pick (some_kind 3 (m - 1) gs 1) 5
    (pick (eqb m 1)
    (pick (eqb mode 0) (pick (eqb (kind_of gs 0) 3) 5 0) 5)
    (pick (lists_lookup mode) (pick (eqb (kind_of gs 0) 3) 0 5) (pick (eqb (kind_of gs 0) 3) 5 0)))

-- "6 several gates, none of kind 0 or 3"
unfoldable pub kinds_number : List ℕ → ℕ → ℕ
kinds_number gs m = pick (eqb m 1) 0 (pick (some_kind 0 m gs 0) 0 (pick (some_kind 3 m gs 0) 0 6))

-- "7 G (or a lone gate's constants) above A"
unfoldable pub constants_number : ℕ → ℕ → List ℕ → ℕ → ℕ
constants_number x allowed gs m = pick (leb (pick (eqb m 1) (constants_of x gs 0) (top_constants x gs (placed_gates gs m))) allowed) 0 7

-- "Mode 2 gives the lookup gate one constant."
abbrev pub extra_of : ℕ → ℕ
extra_of mode = pick (eqb mode 2) 1 0

-- the refusals 4 to 7 of m records, the first that comes
unfoldable pub gates_number : ℕ → ℕ → List ℕ → ℕ → ℕ
gates_number mode allowed gs m =
    or_number (records_number m gs 0)
    (or_number (lookup_number mode gs m) (or_number (kinds_number gs m) (constants_number (extra_of mode) allowed gs m)))

-- The loops of `refusals`: what a turn sees of the records that are left.
use Prim.Native.Nat.{◌+◌, ◌-◌, ◌<◌, ◌≤◌, max, suc, zero, ℕ}
use borrow.Author.Tests.{eq-eqb, ne_eqb}
use lib.Dec.{eqb}
use mathlib.Core.Bool.{false, true}
use mathlib.Core.List.{List}
use mathlib.Core.Path.{◌∙◌, ◌≡◌}
use native.Mathlib.Omega.{arith}
use Rattle.base.specs.Pick.{pick}
use Rattle.selector.specs.Gates.{constants_of, constants_word, degree_of, greatest, kind_of, placed_from, top_constants}
use Rattle.selector.specs.Refusals.{record_number, records_number, some_kind}
use Rattle.selector.specs.SortLaws.{placed_gain}

module _ (gs : List ℕ) (m g : ℕ) where
  abbrev here : ℕ
  here = record_number (kind_of gs g) (degree_of gs g) (constants_word gs g)

  records_step : (k : ℕ) → 0 < k → records_number k gs g ≡ pick (eqb here 0) (records_number (k - 1) gs (g + 1)) 4
  unfolding records_number
  records_step zero h = absurd (omega arith)
  records_step (suc k) h = let e : suc k - 1 ≡ k = omega arith in rw e

  pub records-next : g < m → here ≡ 0 → records_number (m - g) gs g ≡ records_number (m - (g + 1)) gs (g + 1)
  records-next h e = let q : m - g - 1 ≡ m - (g + 1) = omega arith in records_step (m - g) (omega arith) ∙ rw (eq-eqb here 0 e, q)

  pub records_bad : g < m → (here ≡ 0 → ⊥) → records_number (m - g) gs g ≡ 4
  records_bad h e = records_step (m - g) (omega arith) ∙ rw (ne_eqb here 0 e)

  pub records_done : m ≤ g → records_number (m - g) gs g ≡ 0
  unfolding records_number
  records_done h = let q : m - g ≡ 0 = omega arith in rw q

  module _ (kind : ℕ) where
    kind_step : (k : ℕ) → 0 < k → some_kind kind k gs g ≡ pick (eqb (kind_of gs g) kind) true (some_kind kind (k - 1) gs (g + 1))
    unfolding some_kind
    kind_step zero h = absurd (omega arith)
    kind_step (suc k) h = let e : suc k - 1 ≡ k = omega arith in rw e

    pub kind_next : g < m → (kind_of gs g ≡ kind → ⊥) → some_kind kind (m - g) gs g ≡ some_kind kind (m - (g + 1)) gs (g + 1)
    kind_next h e = let q : m - g - 1 ≡ m - (g + 1) = omega arith in kind_step (m - g) (omega arith) ∙ rw (ne_eqb (kind_of gs g) kind e, q)

    pub kind_found : g < m → kind_of gs g ≡ kind → some_kind kind (m - g) gs g ≡ true
    kind_found h e = kind_step (m - g) (omega arith) ∙ rw (eq-eqb (kind_of gs g) kind e)

    pub kind_done : m ≤ g → some_kind kind (m - g) gs g ≡ false
    unfolding some_kind
    kind_done h = let q : m - g ≡ 0 = omega arith in rw q

-- G of the gates from g on
module _ (x : ℕ) (gs : List ℕ) (m : ℕ) where
  pub top_begin : 0 ≡ top_constants x gs (placed_from (m - m) gs m)
  unfolding placed_from greatest
  top_begin = let q : m - m ≡ 0 = omega arith in rw q

  pub top_more : (g c : ℕ) → g ≤ m → 0 < g → (kind_of gs (g - 1) ≡ 2 → ⊥) → c ≡ top_constants x gs (placed_from (m - g) gs g)
      → max (constants_of x gs (g - 1)) c ≡ top_constants x gs (placed_from (m - (g - 1)) gs (g - 1))
  unfolding greatest
  top_more g c h s e q = rw (placed_gain gs m g h s e, q)

-- what the loops of the records and of the kinds rest on
pub ruleset records_left = (records-next, records_bad, records_done)

pub ruleset kinds_left = (kind_next, kind_found, kind_done)

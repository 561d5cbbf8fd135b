-- Private to the search: an offer's test as the definition's, and how many nodes a tree has.
use Rattle.std.specs.Prelude.{ℕ, Bool, List, Option, None, Some}
use Rattle.selector.specs.Search.{may_stand}
use Rattle.tree.specs.declared.search.Offer.{Offer}

-- whether a gate may stand at a depth, as an offer has it
abbrev pub fits_offer : List ℕ → Offer → ℕ → ℕ → Bool
fits_offer gs o = may_stand o.extra gs o.target o.bound

-- how many nodes the tree has, 0 without one
abbrev pub count_of : Option ℕ → ℕ
count_of None = 0
count_of (Some n) = n

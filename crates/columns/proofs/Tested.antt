-- A test of every number of a range, as `all` answers it: the definition of specs/ says the same. Assumes nothing.
use Rattle.std.specs.Prelude.{◌≡◌, refl, Bool, true, false, ◌&&◌, ℕ, zero, suc, ◌+◌}
use Rattle.std.proofs.Common.{add-one}
use Rattle.std.specs.List.{list_all, range_with_len}
use Rattle.base.specs.Pick.{pick}
use Rattle.pieces.specs.Finishing.{every_from}

both-pick : (a b : Bool) → (a && b) ≡ pick a b false
both-pick true b = refl
both-pick false b = refl

pub all-numbers : (n m : ℕ) (fine : ℕ → Bool) → list_all fine (range_with_len n m) ≡ every_from n m fine
unfolding every_from
all-numbers n zero fine = refl
all-numbers n (suc m) fine = rw (both-pick (fine n) (list_all fine (range_with_len (n + 1) m)), all-numbers (n + 1) m fine, add-one)

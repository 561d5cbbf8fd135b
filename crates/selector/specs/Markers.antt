-- 02, Change 4, 'Marker rows that switch on a gate': whose the all-0 path is.
--
-- Main definitions: `noughts`, `marker_ends`, `blocked_by`.
use Rattle.std.specs.Prelude.{suc, zero, ℕ, eqb, Bool, false, true, List, [], ◌∷◌}
use Rattle.base.specs.Pick.{both, pick}
use Rattle.selector.specs.Gates.{kind_of}

-- 1 for "the all-0 path", else 0; "where one gate is placed, its empty path counts as that path"
unfoldable pub noughts : List ℕ → ℕ
noughts [] = 1
noughts (d ∷ ds) = let rest = noughts ds in pick (eqb d 0) rest 0

-- one of the first n gates is of kind 1 and stands at the end of the all-0 path, where `ends` tells who stands there
unfoldable pub marker_ends : (ℕ → Bool) → List ℕ → ℕ → Bool
marker_ends ends gs zero = false
marker_ends ends gs (suc n) = let rest = marker_ends ends gs n in pick (both (eqb (kind_of gs n) 1) (ends n)) true rest

-- "accepted only where the all-0 path belongs to a kind 1 gate": it does not, for n gates with these paths
abbrev pub blocked_by : (ℕ → List ℕ) → List ℕ → ℕ → Bool
blocked_by path gs n = pick (marker_ends (λ g. eqb (noughts (path g)) 1) gs n) false true

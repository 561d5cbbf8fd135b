-- The loops of `gate_rows`: which of the gates stands at the end of the path of zeros.
use Rattle.std.proofs.Common.{◌≤◌, ◌<◌, ℕ, ◌+◌, suc, zero, add-one, eqb, true, false, Bool, List, ◌∙◌, ◌≡◌, ◌≢◌, refl, arith}
use Rattle.std.proofs.Math.Decide.{dec_le}
use Rattle.base.specs.Pick.{both, pick}
use Rattle.selector.specs.Gates.{kind_of}
use Rattle.selector.specs.Markers.{marker_ends}
use Rattle.selector.specs.MarkerLaws.{ends-here, ends_kind, ends_path}
use Rattle.tree.proofs.TestLaws.{tests}

-- one among the first gates is one among more of them
pub ends_more : (ends : ℕ → Bool) (gs : List ℕ) (k n : ℕ) → k ≤ n → marker_ends ends gs k ≡ true → marker_ends ends gs n ≡ true
unfolding marker_ends
ends_more ends gs k zero h e = grind arith
ends_more ends gs k (suc n) h e = go (dec_le k n) (λ d. ends_more ends gs k n d e)
  where
    or_so : (t rest : Bool) → rest ≡ true → pick t true rest ≡ true
    or_so true rest q = refl
    or_so false rest q = q

    go : Dec (k ≤ n) → (k ≤ n → marker_ends ends gs n ≡ true) → marker_ends ends gs (suc n) ≡ true
    go (yes d) rest = or_so (both (eqb (kind_of gs n) 1) (ends n)) (marker_ends ends gs n) (rest d)
    go (no d) rest = let q : k ≡ suc n = omega arith in rw q at e

-- the first gate that stands there decides
pub end_found : (ends : ℕ → Bool) (gs : List ℕ) (g n : ℕ) → g < n → kind_of gs g ≡ 1 → ends g ≡ true → marker_ends ends gs n ≡ true
end_found ends gs g n h k e = ends_more ends gs (suc g) n (omega arith) (ends-here ends gs g k e)

pub end_of_kind : (ends : ℕ → Bool) (gs : List ℕ) (g : ℕ) → marker_ends ends gs g ≡ false → kind_of gs g ≢ 1 → marker_ends ends gs (g + 1) ≡ false
end_of_kind ends gs g e k = rw add-one (ends_kind ends gs g k ∙ e)

pub end_of_path : (ends : ℕ → Bool) (gs : List ℕ) (g : ℕ) → marker_ends ends gs g ≡ false → ends g ≡ false → marker_ends ends gs (g + 1) ≡ false
end_of_path ends gs g e k = rw add-one (ends_path ends gs g k ∙ e)

pub marker_none : (ends : ℕ → Bool) (gs : List ℕ) → marker_ends ends gs 0 ≡ false
unfolding marker_ends
marker_none ends gs = refl

pub ruleset ends_at = (tests, end_found, end_of_kind, end_of_path, marker_none)

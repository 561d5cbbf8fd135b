-- Laws of the all-0 path.
--
-- Main statements: `noughts_bits` (it is the path whose word of bits is 0), `ends_same`, `ends_some` (the kind 1 gate that stands at its end), `parted_noughts` (a path that parts from it is another).
use Rattle.std.specs.Prelude.{◌*◌, ◌+◌, ◌<◌, suc, zero, ℕ, eqb, Bool, List, [], ◌∷◌, ◌≢◌, ◌≡◌}
use Rattle.std.proofs.Common.{eq-eqb, eqb-true, ne_eqb, inl, inr, ◌∙◌, ap, sym, arith}
use Rattle.std.proofs.Math.Bool.{false, true}
use Rattle.std.proofs.Math.Path.{refl}
use Rattle.std.proofs.Math.Decide.{ℕ_discrete}
use Rattle.base.specs.Pick.{both, both_true, pick, true_not_false}
use Rattle.selector.specs.Gates.{kind_of}
use Rattle.selector.specs.Markers.{marker_ends, noughts}
use Rattle.selector.specs.PathLaws.{Parted}
use Rattle.selector.specs.Paths.{bits_of}

-- a step to the left makes it another path
noughts-left : (d : ℕ) (p : List ℕ) → noughts (suc d ∷ p) ≡ 0
unfolding noughts
noughts-left d p = rw (ne_eqb (suc d) 0 (omega arith))

pub noughts_bits : (p : List ℕ) → eqb (bits_of p) 0 ≡ eqb (noughts p) 1
unfolding bits_of noughts
noughts_bits [] = refl
noughts_bits (zero ∷ p) = by (ℕ_discrete (bits_of p) 0) ∙ noughts_bits p
  where
    by : Dec (bits_of p ≡ 0) → eqb (bits_of p * 2 + 0) 0 ≡ eqb (bits_of p) 0
    by (yes e) = eq-eqb (bits_of p * 2 + 0) 0 (omega (arith, e)) ∙ sym (eq-eqb (bits_of p) 0 e)
    by (no n) = ne_eqb (bits_of p * 2 + 0) 0 (λ z. n (omega (arith, z))) ∙ sym (ne_eqb (bits_of p) 0 n)
noughts_bits (suc d ∷ p) = ne_eqb (bits_of p * 2 + suc d) 0 (λ z. omega (arith, z)) ∙ sym (ap (λ (n : ℕ). eqb n 1) (noughts-left d p))

-- only the listed gates count
pub ends_same : (a b : ℕ → Bool) (gs hs : List ℕ) (n : ℕ) → ((g : ℕ) → g < n → (kind_of gs g ≡ kind_of hs g) × (a g ≡ b g)) → marker_ends a gs n ≡ marker_ends b hs n
unfolding marker_ends
ends_same a b gs hs zero e = refl
ends_same a b gs hs (suc n) e = rw ((e n (omega arith)).0, (e n (omega arith)).1, ends_same a b gs hs n (λ g h. e g (omega arith)))

-- the gate at its end
pub record Ends (ends : ℕ → Bool) (gs : List ℕ) (n : ℕ) : Type 0 where
  pub gate : ℕ
  pub listed : gate < n
  pub marker : kind_of gs gate ≡ 1
  pub at-end : ends gate ≡ true

pub ends_some : (ends : ℕ → Bool) (gs : List ℕ) (n : ℕ) → marker_ends ends gs n ≡ true → Ends ends gs n
unfolding marker_ends
ends_some ends gs zero e = true_not_false (sym e)
ends_some ends gs (suc n) e = by (both (eqb (kind_of gs n) 1) (ends n)) refl e (ends_some ends gs n)
  where
    by : (t : Bool) → both (eqb (kind_of gs n) 1) (ends n) ≡ t → pick t true (marker_ends ends gs n) ≡ true → (marker_ends ends gs n ≡ true → Ends ends gs n) → Ends ends gs (suc n)
    by true q z before =
        let h = both_true (eqb (kind_of gs n) 1) (ends n) q in
        record { gate = n; listed = omega arith; marker = eqb-true (kind_of gs n) 1 h.0; at-end = h.1 }
    by false q z before = let w = before z in record { gate = w.gate; listed = omega (arith, w.listed); marker = w.marker; at-end = w.at-end }

-- a walk from the last gate to the first: the gate at hand stands there, or it does not
module _ (ends : ℕ → Bool) (gs : List ℕ) (n : ℕ) where
  pub ends-here : kind_of gs n ≡ 1 → ends n ≡ true → marker_ends ends gs (suc n) ≡ true
  unfolding marker_ends
  ends-here k e = rw (eq-eqb (kind_of gs n) 1 k, e)

  pub ends_kind : kind_of gs n ≢ 1 → marker_ends ends gs (suc n) ≡ marker_ends ends gs n
  unfolding marker_ends
  ends_kind k = rw (ne_eqb (kind_of gs n) 1 k)

  pub ends_path : ends n ≡ false → marker_ends ends gs (suc n) ≡ marker_ends ends gs n
  unfolding marker_ends
  ends_path e = rw e (by (eqb (kind_of gs n) 1))
    where
      by : (t : Bool) → pick (both t false) true (marker_ends ends gs n) ≡ marker_ends ends gs n
      by true = refl
      by false = refl

pub parted_noughts : (p o : List ℕ) → noughts p ≡ 1 → Parted p o → noughts o ≡ 0
unfolding noughts
parted_noughts [] o e a = absurd a
parted_noughts (d ∷ p) [] e a = absurd a
parted_noughts (suc d ∷ p) (c ∷ o) e a = absurd (omega (arith, e, noughts-left d p))
parted_noughts (zero ∷ p) (suc c ∷ o) e a = noughts-left c o
parted_noughts (zero ∷ p) (zero ∷ o) e (inl n) = absurd (n refl)
parted_noughts (zero ∷ p) (zero ∷ o) e (inr a) = parted_noughts p o e a

-- What accepted gate records give: bounds of degrees and constants, of M and G.
--
-- Main statements: `gates_sound`, `records-each`, `marker_bare`, `constants-small`, `degree_small`, `top-constants`, `top-degree`.
use Rattle.std.specs.Prelude.{◌*◌, ◌+◌, ◌<◌, ◌≤◌, max, suc, zero, ℕ, eqb, leb, get_or, length, Bool, List, [], ◌∷◌, ◌≡◌}
use Rattle.std.proofs.Common.{eqb-true, leb-true, subst}
use Rattle.std.proofs.Math.Bool.{false, true}
use Rattle.std.proofs.Math.Decide.{ℕ_discrete}
use native.Mathlib.Omega.{arith}
use Rattle.base.specs.Firsts.{first-zero}
use Rattle.base.specs.Pick.{both, both_true, pick, pick-zero}
use Rattle.selector.specs.Inner.{Listed, Sound}
use Rattle.selector.specs.Gates.{constants_of, constants_word, degree_at, degree_of, gate_words, greatest, kind_of, placed_gates, top_constants, top_degree}
use Rattle.base.specs.Limits.{most_gates}
use Rattle.selector.specs.Refusals.{extra_of, count_of_gates, gates_number, record_number, records_number, words_fit}
use Rattle.selector.specs.SortLaws.{listed_placed}

gate_small : (k d c : ℕ) → record_number k d c ≡ 0 → (d ≤ 64) × (c ≤ 16)
unfolding record_number
gate_small k d c e = by (eqb k 0) e
  where
    by : (t : Bool) → ◌≡◌ {A = ℕ} (pick t (pick (leb 1 d) (pick (leb d 64) (pick (leb c 16) 0 4) 4) 4) (pick (leb k 3) (pick (eqb d 0) (pick (eqb c 0) 0 4) 4) 4)) 0 → (d ≤ 64) × (c ≤ 16)
    by true q =
        let u = pick-zero (leb 1 d) _ 4 (omega arith) q in
        let v = pick-zero (leb d 64) _ 4 (omega arith) u.1 in
        let w = pick-zero (leb c 16) _ 4 (omega arith) v.1 in
        (leb-true d 64 v.0, leb-true c 16 w.0)
    by false q =
        let u = pick-zero (leb k 3) _ 4 (omega arith) q in
        let v = pick-zero (eqb d 0) _ 4 (omega arith) u.1 in
        let w = pick-zero (eqb c 0) _ 4 (omega arith) v.1 in
        (omega (arith, eqb-true d 0 v.0), omega (arith, eqb-true c 0 w.0))

records-small : (gs : List ℕ) (k g : ℕ) → records_number k gs g ≡ 0 → (h : ℕ) → g ≤ h → h < g + k → (degree_of gs h ≤ 64) × (constants_word gs h ≤ 16)
unfolding records_number
records-small gs zero g e h a b = absurd (omega arith)
records-small gs (suc k) g e h a b =
    let p = pick-zero (eqb (record_number (kind_of gs g) (degree_of gs g) (constants_word gs g)) 0) (records_number k gs (g + 1)) 4 (omega arith) e in
    by (ℕ_discrete g h) (eqb-true (record_number (kind_of gs g) (degree_of gs g) (constants_word gs g)) 0 p.0) (records-small gs k (g + 1) p.1 h)
  where
    by : Dec (g ≡ h) → record_number (kind_of gs g) (degree_of gs g) (constants_word gs g) ≡ 0
        → (g + 1 ≤ h → h < g + 1 + k → (degree_of gs h ≤ 64) × (constants_word gs h ≤ 16)) → (degree_of gs h ≤ 64) × (constants_word gs h ≤ 16)
    by (yes q) z more = subst (λ (y : ℕ). (degree_of gs y ≤ 64) × (constants_word gs y ≤ 16)) q (gate_small (kind_of gs g) (degree_of gs g) (constants_word gs g) z)
    by (no q) z more = more (omega arith) (omega arith)

-- records that 4 lets pass are sound
records_sound : (gs : List ℕ) (m x : ℕ) → records_number m gs 0 ≡ 0 → m * gate_words ≤ length gs → m ≤ most_gates → x ≤ 1 → Sound gs m x
records_sound gs m x e l few extra =
    record {
      all = l;
      few = few;
      degrees = λ g h. (records-small gs m 0 e g (omega arith) (omega arith)).0;
      constants = λ g h. (records-small gs m 0 e g (omega arith) (omega arith)).1;
      extra = extra;
    }

greatest-le : (f : ℕ → ℕ) (b m : ℕ) (l : List ℕ) → ((g : ℕ) → g < m → f g ≤ b) → Listed m l → greatest f l ≤ b
unfolding greatest
greatest-le f b m [] h k = omega arith
greatest-le f b m (g ∷ l) h (k, r) = omega (arith, h g k, greatest-le f b m l h r)

module _ (gs : List ℕ) (m x : ℕ) (sound : Sound gs m x) where
  pub constants-small : (g : ℕ) → g < m → constants_of x gs g ≤ 16
  unfolding constants_of
  constants-small g h = by (eqb (kind_of gs g) 3)
    where
      by : (t : Bool) → pick t x (get_or gs (g * gate_words + 2) 0) ≤ 16
      by true = omega (arith, sound.extra)
      by false = sound.constants g h

  pub degree_small : (g d : ℕ) → g < m → degree_at gs g d ≤ d + 64
  unfolding degree_at
  degree_small g d h = by (eqb (kind_of gs g) 3)
    where
      by : (t : Bool) → pick t (max d 2) (d + degree_of gs g) ≤ d + 64
      by true = omega arith
      by false = omega (arith, sound.degrees g h)

  pub top-constants : top_constants x gs (placed_gates gs m) ≤ 16
  top-constants = greatest-le (constants_of x gs) 16 m (placed_gates gs m) constants-small (listed_placed m x gs m 0 (omega arith))

  pub top-degree : top_degree gs (placed_gates gs m) ≤ 64
  top-degree = greatest-le (λ (g : ℕ). degree_at gs g 0) 64 m (placed_gates gs m) (λ g h. degree_small g 0 h) (listed_placed m x gs m 0 (omega arith))

-- what 3 gives
pub words-fit : (gs : List ℕ) → words_fit gs ≡ true → (count_of_gates gs * gate_words ≡ length gs) × (1 ≤ count_of_gates gs) × (count_of_gates gs ≤ most_gates)
unfolding words_fit
words-fit gs e =
    let a = both_true (eqb (count_of_gates gs * gate_words) (length gs)) (both (leb 1 (count_of_gates gs)) (leb (count_of_gates gs) most_gates)) e in
    let b = both_true (leb 1 (count_of_gates gs)) (leb (count_of_gates gs) most_gates) a.1 in
    (eqb-true (count_of_gates gs * gate_words) (length gs) a.0, leb-true 1 (count_of_gates gs) b.0, leb-true (count_of_gates gs) most_gates b.1)

extra_small : (mode : ℕ) → extra_of mode ≤ 1
extra_small mode = by (eqb mode 2)
  where
    by : (t : Bool) → pick t 1 0 ≤ 1
    by true = omega arith
    by false = omega arith

-- what 4 to 7 give: 4 the bounds of the records
pub gates_sound : (mode allowed : ℕ) (gs : List ℕ) (m : ℕ) → gates_number mode allowed gs m ≡ 0 → m * gate_words ≤ length gs → m ≤ most_gates → Sound gs m (extra_of mode)
unfolding gates_number
gates_sound mode allowed gs m e l few = records_sound gs m (extra_of mode) (first-zero (records_number m gs 0) _ e).0 l few (extra_small mode)

-- each record of an accepted list is accepted by itself
pub records-each : (gs : List ℕ) (k g : ℕ) → records_number k gs g ≡ 0 → (h : ℕ) → g ≤ h → h < g + k → record_number (kind_of gs h) (degree_of gs h) (constants_word gs h) ≡ 0
unfolding records_number
records-each gs zero g e h a b = absurd (omega arith)
records-each gs (suc k) g e h a b =
    let p = pick-zero (eqb (record_number (kind_of gs g) (degree_of gs g) (constants_word gs g)) 0) (records_number k gs (g + 1)) 4 (omega arith) e in
    by (ℕ_discrete g h) (eqb-true (record_number (kind_of gs g) (degree_of gs g) (constants_word gs g)) 0 p.0) (records-each gs k (g + 1) p.1 h)
  where
    by : Dec (g ≡ h) → record_number (kind_of gs g) (degree_of gs g) (constants_word gs g) ≡ 0
        → (g + 1 ≤ h → h < g + 1 + k → record_number (kind_of gs h) (degree_of gs h) (constants_word gs h) ≡ 0) → record_number (kind_of gs h) (degree_of gs h) (constants_word gs h) ≡ 0
    by (yes q) z more = subst (λ (y : ℕ). record_number (kind_of gs y) (degree_of gs y) (constants_word gs y) ≡ 0) q z
    by (no q) z more = more (omega arith) (omega arith)

-- a gate of kind 2 has no constants
pub marker_bare : (d c : ℕ) → record_number 2 d c ≡ 0 → c ≡ 0
unfolding record_number
marker_bare d c e =
    let v = pick-zero (eqb d 0) (pick (eqb c 0) 0 4) 4 (omega arith) e in
    let w = pick-zero (eqb c 0) 0 4 (omega arith) v.1 in
    eqb-true c 0 w.0

-- Paths of gates that stand in a tree.
--
-- Main statements: `path_some` (a gate that stands has a path), `path_none`, `pathless` (one that does not has none), `path_fits` (path and constants fit into K
-- columns), `path_digits`, `bits_digits` (its words spell it), `paths_parted` (the paths of two gates part), `only_path` (the only gate that stands has the empty path).
use Rattle.std.specs.Prelude.{◌%◌, ◌*◌, ◌+◌, ◌/◌, ◌<◌, ◌≤◌, max, ℕ, eqb, length, Bool, false, true, List, [], ◌∷◌, ◌≢◌, ◌⊎◌, ◌≡◌}
use Rattle.std.proofs.Common.{eq-eqb, eqb-true, ltb-true, ne_eqb, inl, inr, ⊎_elim, ◌∙◌, subst, sym, arith}
use Rattle.std.proofs.Math.Option.{Option, none, some}
use Rattle.std.proofs.Math.Path.{refl}
use Rattle.std.proofs.Math.Decide.{dec_lt, ℕ_discrete}
use Rattle.base.specs.Digits.{digits}
use Rattle.base.specs.Each.{Each}
use Rattle.base.specs.Pick.{both_true, pick}
use Rattle.selector.specs.Gates.{constants_of}
use Rattle.selector.specs.MadeUp.{all_listed}
use Rattle.selector.specs.Paths.{bits_of, or_empty, path_of, path_to, selected, steps, turned}
use Rattle.selector.specs.Search.{constants_over, tree_k}
use Rattle.selector.specs.Tree.{Tree, fork, leaf, standing}

-- a gate that stands has a path
turned-some : (q s : Option (List ℕ)) → ((p : List ℕ) × (q ≡ some p)) ⊎ ((p : List ℕ) × (s ≡ some p)) → (p : List ℕ) × (turned 1 q (turned 0 s none) ≡ some p)
turned-some (some p) s h = (1 ∷ p, refl)
turned-some none (some p) h = (0 ∷ p, refl)
turned-some none none h = ⊎_elim (λ a. let z : ◌≡◌ {A = ℕ} 0 1 = cc a.1 in absurd (omega arith)) (λ a. let z : ◌≡◌ {A = ℕ} 0 1 = cc a.1 in absurd (omega arith)) h

leaf_some : (b : Bool) → 0 < pick b 1 0 → (p : List ℕ) × (pick b (some []) none ≡ some p)
leaf_some true h = ([], refl)
leaf_some false h = absurd (omega arith)

pub path_some : (t : Tree) (g : ℕ) → 0 < standing g t → (p : List ℕ) × (path_to g t ≡ some p)
unfolding standing path_to
path_some (leaf y) g h = leaf_some (eqb g y) h
path_some (fork l r) g h = by (dec_lt 0 (standing g l)) (path_some l g) (path_some r g)
  where
    by : Dec (0 < standing g l) → (0 < standing g l → (p : List ℕ) × (path_to g l ≡ some p)) → (0 < standing g r → (p : List ℕ) × (path_to g r ≡ some p))
        → (p : List ℕ) × (turned 1 (path_to g l) (turned 0 (path_to g r) none) ≡ some p)
    by (yes a) x y = turned-some (path_to g l) (path_to g r) (inl (x a))
    by (no a) x y = turned-some (path_to g l) (path_to g r) (inr (y (omega arith)))

-- and one that stands nowhere has none
pub path_none : (t : Tree) (g : ℕ) → standing g t ≡ 0 → path_to g t ≡ none
unfolding standing path_to
path_none (leaf h) g e = by (eqb g h) e
  where
    by : (b : Bool) → ◌≡◌ {A = ℕ} (pick b 1 0) 0 → ◌≡◌ {A = Option (List ℕ)} (pick b (some []) none) none
    by true z = absurd (omega arith)
    by false z = refl
path_none (fork l r) g e = rw (path_none l g (omega arith), path_none r g (omega arith))

pub pathless : (t : Tree) (g : ℕ) → path_to g t ≡ none → standing g t ≡ 0
pathless t g e = by (dec_lt 0 (standing g t))
  where
    by : Dec (0 < standing g t) → standing g t ≡ 0
    by (yes h) = let s = path_some t g h in absurd (let z : ◌≡◌ {A = ℕ} 0 1 = cc (s.1, e) in omega arith)
    by (no h) = omega arith

-- a gate that is not listed has none, where every leaf is listed
pub unlisted_path : (m : ℕ) (t : Tree) (g : ℕ) → all_listed m t ≡ true → m ≤ g → path_to g t ≡ none
unfolding all_listed path_to
unlisted_path m (leaf h) g e k = rw (ne_eqb g h (omega (arith, ltb-true h m e)))
unlisted_path m (fork l r) g e k =
    let b = both_true (all_listed m l) (all_listed m r) e in
    rw (unlisted_path m l g b.0 k, unlisted_path m r g b.1 k)

-- some gate stands in every tree
some_leaf : (m : ℕ) (t : Tree) → all_listed m t ≡ true → (g : ℕ) × (g < m) × (0 < standing g t)
unfolding all_listed standing
some_leaf m (leaf h) e = (h, ltb-true h m e, rw (eq-eqb h h refl) (omega arith))
some_leaf m (fork l r) e =
    let a = some_leaf m l (both_true (all_listed m l) (all_listed m r) e).0 in
    (a.0, a.1, omega (arith, a.2))

-- where no other listed gate stands, the two sides of a fork would both have the only one, which stands once: the tree is its leaf
pub only_path : (m : ℕ) (t : Tree) (g : ℕ) → all_listed m t ≡ true → standing g t ≡ 1 → ((h : ℕ) → h < m → h ≢ g → standing h t ≡ 0) → path_to g t ≡ some []
unfolding all_listed standing path_to
only_path m (leaf h) g e one others = by (eqb g h) one
  where
    by : (b : Bool) → ◌≡◌ {A = ℕ} (pick b 1 0) 1 → ◌≡◌ {A = Option (List ℕ)} (pick b (some []) none) (some [])
    by true z = refl
    by false z = absurd (omega arith)
only_path m (fork l r) g e one others = absurd (omega (arith, there l sides.0 (λ h k n. omega (arith, others h k n)), there r sides.1 (λ h k n. omega (arith, others h k n))))
  where
    sides : (all_listed m l ≡ true) × (all_listed m r ≡ true)
    sides = both_true (all_listed m l) (all_listed m r) e

    there : (t : Tree) → all_listed m t ≡ true → ((h : ℕ) → h < m → h ≢ g → standing h t ≡ 0) → 0 < standing g t
    there t listed none-else = by (ℕ_discrete a.0 g)
      where
        a : (h : ℕ) × (h < m) × (0 < standing h t)
        a = some_leaf m t listed

        by : Dec (a.0 ≡ g) → 0 < standing g t
        by (yes is) = rw is at a.2
        by (no n) = absurd (omega (arith, a.2, none-else a.0 a.1 n))

-- the steps of what is answered of a gate are its path, a dropped gate's being empty
pub selected-steps : (o : Option (List ℕ)) → steps (selected o) ≡ or_empty o
selected-steps (some p) = refl
selected-steps none = refl

-- a path that is there, or the empty one
pub path_cases : (P : List ℕ → Type 0) (g : ℕ) (t : Tree) → (path_to g t ≡ none → P []) → ((p : List ℕ) → path_to g t ≡ some p → P p) → P (path_of g t)
path_cases P g t none-case some-case = by (path_to g t) refl
  where
    by : (o : Option (List ℕ)) → path_to g t ≡ o → P (path_of g t)
    by (some p) e = subst (λ (o : Option (List ℕ)). P (or_empty o)) (sym e) (some-case p e)
    by none e = subst (λ (o : Option (List ℕ)). P (or_empty o)) (sym e) (none-case e)

-- a path and its gate's constants fit into K columns
module _ (x : ℕ) (gs : List ℕ) (g : ℕ) where
  abbrev Fitting : ℕ → ℕ → Option (List ℕ) → Type 0
  Fitting top d none = Unit {0}
  Fitting top d (some p) = constants_of x gs g + (d + length p) ≤ top

  turned_fits : (a b d : ℕ) (q s : Option (List ℕ)) → Fitting a (d + 1) q → Fitting b (d + 1) s → Fitting (max a b) d (turned 1 q (turned 0 s none))
  turned_fits a b d (some p) s h k = omega arith
  turned_fits a b d none (some p) h k = omega arith
  turned_fits a b d none none h k = tt

  leaf_fits : (y d : ℕ) (b : Bool) → eqb g y ≡ b → Fitting (constants_of x gs y + d) d (pick b (some []) none)
  leaf_fits y d true e = let s : g ≡ y = eqb-true g y e in rw s (omega arith)
  leaf_fits y d false e = tt

  path_fits_at : (t : Tree) (d : ℕ) → Fitting (constants_over x gs d t) d (path_to g t)
  unfolding constants_over path_to
  path_fits_at (leaf y) d = leaf_fits y d (eqb g y) refl
  path_fits_at (fork l r) d =
      turned_fits (constants_over x gs (d + 1) l) (constants_over x gs (d + 1) r) d (path_to g l) (path_to g r) (path_fits_at l (d + 1)) (path_fits_at r (d + 1))

  pub path_fits : (t : Tree) (p : List ℕ) → path_to g t ≡ some p → constants_of x gs g + length p ≤ tree_k x gs t
  path_fits t p e =
      let h : constants_of x gs g + (0 + length p) ≤ tree_k x gs t = subst (λ (q : Option (List ℕ)). Fitting (tree_k x gs t) 0 q) e (path_fits_at t 0) in
      omega arith

-- what a path in a fork is
data Way (g : ℕ) (l r : Tree) (p : List ℕ) : Type 0 where
  by_left : (q : List ℕ) → path_to g l ≡ some q → 1 ∷ q ≡ p → Way g l r p
  by_right : (q : List ℕ) → path_to g l ≡ none → path_to g r ≡ some q → 0 ∷ q ≡ p → Way g l r p

way_by : (g : ℕ) (l r : Tree) (p : List ℕ) (a b : Option (List ℕ)) → path_to g l ≡ a → path_to g r ≡ b → turned 1 a (turned 0 b none) ≡ some p → Way g l r p
way_by g l r p (some q) b x y e = by_left q x (cc)
way_by g l r p none (some q) x y e = by_right q x y (cc)
way_by g l r p none none x y e = let z : ◌≡◌ {A = ℕ} 0 1 = cc in absurd (omega arith)

way : (g : ℕ) (l r : Tree) (p : List ℕ) → path_to g (fork l r) ≡ some p → Way g l r p
unfolding path_to
way g l r p e = way_by g l r p (path_to g l) (path_to g r) refl refl e

leaf_path : (g h : ℕ) (p : List ℕ) (b : Bool) → eqb g h ≡ b → pick b (some []) none ≡ some p → (g ≡ h) × ([] ≡ p)
leaf_path g h p true e k = (eqb-true g h e, cc)
leaf_path g h p false e k = let z : ◌≡◌ {A = ℕ} 0 1 = cc in absurd (omega arith)

path_leaf : (g h : ℕ) (p : List ℕ) → path_to g (leaf h) ≡ some p → (g ≡ h) × ([] ≡ p)
unfolding path_to
path_leaf g h p e = leaf_path g h p (eqb g h) refl e

-- a path is a list of digits, and its words spell it
pub path_digits : (t : Tree) (g : ℕ) (p : List ℕ) → path_to g t ≡ some p → Each (λ (d : ℕ). d < 2) p
path_digits (leaf h) g p e = subst (Each (λ (d : ℕ). d < 2)) (path_leaf g h p e).1 tt
path_digits (fork l r) g p e = by (way g l r p e) (path_digits l g) (path_digits r g)
  where
    by : Way g l r p → ((q : List ℕ) → path_to g l ≡ some q → Each (λ (d : ℕ). d < 2) q) → ((q : List ℕ) → path_to g r ≡ some q → Each (λ (d : ℕ). d < 2) q) → Each (λ (d : ℕ). d < 2) p
    by (by_left q a k) x y = subst (Each (λ (d : ℕ). d < 2)) k (omega arith, x q a)
    by (by_right q n a k) x y = subst (Each (λ (d : ℕ). d < 2)) k (omega arith, y q a)

pub bits_digits : (p : List ℕ) → Each (λ (d : ℕ). d < 2) p → digits (length p) (bits_of p) ≡ p
unfolding digits bits_of
bits_digits [] e = refl
bits_digits (d ∷ p) e =
    let b = bits_of p in
    let first : (b * 2 + d) % 2 ≡ d = omega (arith, e.0) in
    let rest : (b * 2 + d) / 2 ≡ b = omega (arith, e.0) in
    rw (first, rest, bits_digits p e.1)

-- two paths differ at a place where both have a bit
abbrev pub Parted : List ℕ → List ℕ → Type 0
Parted [] o = ⊥
Parted (b ∷ p) [] = ⊥
Parted (b ∷ p) (e ∷ o) = (b ≢ e) ⊎ Parted p o

-- the paths of two gates part: neither is the front of the other
pub paths_parted : (t : Tree) (g h : ℕ) (p o : List ℕ) → g ≢ h → path_to g t ≡ some p → path_to h t ≡ some o → Parted p o
paths_parted (leaf y) g h p o n e f = absurd (n ((path_leaf g y p e).0 ∙ sym (path_leaf h y o f).0))
paths_parted (fork l r) g h p o n e f = by (way g l r p e) (way h l r o f) (λ q k a b. paths_parted l g h q k n a b) (λ q k a b. paths_parted r g h q k n a b)
  where
    by : Way g l r p → Way h l r o
        → ((q k : List ℕ) → path_to g l ≡ some q → path_to h l ≡ some k → Parted q k)
        → ((q k : List ℕ) → path_to g r ≡ some q → path_to h r ≡ some k → Parted q k) → Parted p o
    by (by_left q a u) (by_left k b v) x y = rw (← u, ← v) (inr (x q k a b))
    by (by_left q a u) (by_right k m b v) x y = rw (← u, ← v) (inl (λ z. absurd (omega arith)))
    by (by_right q m a u) (by_left k b v) x y = rw (← u, ← v) (inl (λ z. absurd (omega arith)))
    by (by_right q m a u) (by_right k j b v) x y = rw (← u, ← v) (inr (y q k a b))

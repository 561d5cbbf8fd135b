-- The walk to a gate and the walk of all paths: what a leaf and a fork answer and write, by the tree that stands there, and the words of a gate after the walk.
--
-- Main statements: `halves`; `seek_leaf`, `seek_left`, `seek_right`, `seek_neither`; `place_leaf`, `place_past`, `place_fork`, `placed-read`.
use Prim.Native.Nat.{◌*◌, ◌+◌, ◌-◌, ◌<◌, ◌^◌, ◌≤◌, suc, zero, ℕ}
use borrow.Author.Tests.{eq-eqb, le-ltb, lt-ltb, ne_eqb}
use lib.Dec.{eqb, ltb}
use lib.ListN.{get_or, length, length-set, set}
use lib.Seq.{get_or-set_other, get_or-set_same}
use mathlib.Core.Bool.{Bool, false, true}
use mathlib.Core.List.{List, []}
use mathlib.Core.Logic.{◌≢◌}
use mathlib.Core.Option.{Option, none, some}
use mathlib.Core.Path.{◌∙◌, ◌≡◌, refl, subst, sym}
use native.Mathlib.Decide.{ℕ_discrete}
use native.Mathlib.Nat.{one-le-pow}
use native.Mathlib.Numerals.{add-one}
use native.Mathlib.Omega.{arith}
use Rattle.base.specs.Pick.{pick}
use Rattle.selector.specs.NodeLaws.{at_fork, at_leaf}
use Rattle.selector.specs.Nodes.{both_sides, gate_at, left_at, right_at, tree_at}
use Rattle.selector.specs.Paths.{bits_of, path_to, turned}
use Rattle.base.specs.Limits.{most_gates}
use Rattle.selector.specs.Tree.{Tree, fork, leaf}
use Rattle.tree.specs.Placements.{PathWords, path_words, placed, spelled}
use Rattle.tree.specs.declared.paths.Path.{Path}
use Rattle.std.specs.Prelude.{Some, None}
use borrow.Fn.PlainCycle.{is}

pub pow-some : (f : ℕ) → 0 < 2 ^ f
pow-some f = one-le-pow f 2 (omega arith)

pub pow_step : (f : ℕ) → 0 < f → 2 ^ f ≡ 2 ^ (f - 1) * 2
pow_step zero h = absurd (omega arith)
pow_step (suc f) h = let e : suc f - 1 ≡ f = omega arith in rw e (omega arith)

leaf_spelled : (b : Bool) → pick b (Some (record { bits = 0; length = 0 })) None ≡ spelled (pick b (some []) none)
unfolding bits_of
leaf_spelled true = refl
leaf_spelled false = refl

module _ (ns : List ℕ) (i : ℕ) where
  pub seek_none : (f : ℕ) (t : Tree) → f ≡ 0 → tree_at f ns i ≡ some t → ⊥
  unfolding tree_at
  seek_none f t e q = let h = rw e at q in let z : ◌≡◌ {A = ℕ} 0 1 = cc in omega arith

  pub leaf_tree : (f : ℕ) (t : Tree) → 0 < f → left_at ns i ≡ 0 → tree_at f ns i ≡ some t → leaf (gate_at ns i) ≡ t
  leaf_tree f t h e q = cc (at_leaf ns i f h e)

  pub seek_leaf : (g f : ℕ) (t : Tree) → 0 < f → left_at ns i ≡ 0 → tree_at f ns i ≡ some t
      → pick (eqb g (gate_at ns i)) (Some (record { bits = 0; length = 0 })) None ≡ spelled (path_to g t)
  unfolding path_to
  seek_leaf g f t h e q =
      subst (λ (u : Tree). pick (eqb g (gate_at ns i)) (Some (record { bits = 0; length = 0 })) None ≡ spelled (path_to g u)) (leaf_tree f t h e q)
      (leaf_spelled (eqb g (gate_at ns i)))

  -- the sides of a fork's tree
  pub record Halves (f : ℕ) (t : Tree) : Type 0 where
    pub l : Tree
    pub r : Tree
    pub left : tree_at (f - 1) ns (left_at ns i) ≡ some l
    pub right : tree_at (f - 1) ns (right_at ns i) ≡ some r
    pub is : fork l r ≡ t

  halves_by : (f : ℕ) (t : Tree) (q s : Option Tree) → tree_at (f - 1) ns (left_at ns i) ≡ q → tree_at (f - 1) ns (right_at ns i) ≡ s → both_sides q s ≡ some t → Halves f t
  halves_by f t (some l) (some r) a b e = record { l = l; r = r; left = a; right = b; is = cc }
  halves_by f t (some l) none a b e = let z : ◌≡◌ {A = ℕ} 0 1 = cc in absurd (omega arith)
  halves_by f t none s a b e = let z : ◌≡◌ {A = ℕ} 0 1 = cc in absurd (omega arith)

  pub halves : (f : ℕ) (t : Tree) → 0 < f → (left_at ns i ≡ 0 → ⊥) → tree_at f ns i ≡ some t → Halves f t
  halves f t h e q = halves_by f t (tree_at (f - 1) ns (left_at ns i)) (tree_at (f - 1) ns (right_at ns i)) refl refl (sym (at_fork ns i f h e) ∙ q)

-- a fork's path from its sides' paths
left_by : (q s : Option (List ℕ)) (a : Path) → Some a ≡ spelled q → Some (record { bits = a.bits * 2 + 1; length = a.length + 1 }) ≡ spelled (turned 1 q s)
unfolding bits_of
left_by (some p) s a e =
    let is : a ≡ record { bits = bits_of p; length = length p } = cc in
    let n : length p + 1 ≡ suc (length p) = omega arith in
    rw (is, n) refl
left_by none s a e = absurd cc

right_by : (q s : Option (List ℕ)) → None ≡ spelled q → (b : Path) → Some b ≡ spelled s
    → Some (record { bits = b.bits * 2; length = b.length + 1 }) ≡ spelled (turned 1 q (turned 0 s none))
unfolding bits_of
right_by (some p) s e b h = absurd cc
right_by none (some p) e b h =
    let is : b ≡ record { bits = bits_of p; length = length p } = cc in
    let q : bits_of p * 2 ≡ bits_of p * 2 + 0 = omega arith in
    rw (is, add-one, ← q) refl
right_by none none e b h = absurd cc

neither_by : (q s : Option (List ℕ)) → None ≡ spelled q → None ≡ spelled s → None ≡ spelled (turned 1 q (turned 0 s none))
neither_by (some p) s e h = absurd cc
neither_by none (some p) e h = absurd cc
neither_by none none e h = refl

module _ (g : ℕ) (l r t : Tree) (is : fork l r ≡ t) where
  pub seek_left : (a : Path) → Some a ≡ spelled (path_to g l) → Some (record { bits = a.bits * 2 + 1; length = a.length + 1 }) ≡ spelled (path_to g t)
  unfolding path_to
  seek_left a e = subst (λ (u : Tree). Some (record { bits = a.bits * 2 + 1; length = a.length + 1 }) ≡ spelled (path_to g u)) is (left_by (path_to g l) (turned 0 (path_to g r) none) a e)

  pub seek_right : None ≡ spelled (path_to g l) → (b : Path) → Some b ≡ spelled (path_to g r)
      → Some (record { bits = b.bits * 2; length = b.length + 1 }) ≡ spelled (path_to g t)
  unfolding path_to
  seek_right e b h = subst (λ (u : Tree). Some (record { bits = b.bits * 2; length = b.length + 1 }) ≡ spelled (path_to g u)) is (right_by (path_to g l) (path_to g r) e b h)

  pub seek_neither : None ≡ spelled (path_to g l) → None ≡ spelled (path_to g r) → None ≡ spelled (path_to g t)
  unfolding path_to
  seek_neither e h = subst (λ (u : Tree). None ≡ spelled (path_to g u)) is (neither_by (path_to g l) (path_to g r) e h)

-- the walk of all paths at a node: a leaf whose gate has words, one whose gate has none, a fork
module _ (ns : List ℕ) (i b w d : ℕ) (s : PathWords) (f : ℕ) (t : Tree) (h : 0 < f) (e : left_at ns i ≡ 0) (q : tree_at f ns i ≡ some t) where
  pub place_leaf : gate_at ns i < most_gates → path_words (set s.bits (gate_at ns i) b) (set s.lengths (gate_at ns i) d) ≡ placed t b w d s
  unfolding placed
  place_leaf k = rw (← leaf_tree ns i f t h e q, lt-ltb (gate_at ns i) most_gates k) refl

  pub place_past : most_gates ≤ gate_at ns i → s ≡ placed t b w d s
  unfolding placed
  place_past k = rw (← leaf_tree ns i f t h e q, le-ltb (gate_at ns i) most_gates k) refl

pub place_fork : (l r t : Tree) → fork l r ≡ t → (b w d : ℕ) (s u v : PathWords) → u ≡ placed r b (w * 2) (d + 1) s → v ≡ placed l (b + w) (w * 2) (d + 1) u
    → v ≡ placed t b w d s
unfolding placed
place_fork l r t is b w d s u v x y = rw (← is, ← x) y

-- a word of each kind for every gate
pub record Long (s : PathWords) : Type 0 where
  pub bits : length s.bits ≡ most_gates
  pub lengths : length s.lengths ≡ most_gates

set_long : (s : PathWords) (g b d : ℕ) → Long s → Long (path_words (set s.bits g b) (set s.lengths g d))
set_long s g b d h = record { bits = length-set s.bits g b ∙ h.bits; lengths = length-set s.lengths g d ∙ h.lengths }

pick-long : (t : Bool) (x y : PathWords) → Long x → Long y → Long (pick t x y)
pick-long true x y h k = h
pick-long false x y h k = k

pub placed-long : (t : Tree) (b w d : ℕ) (s : PathWords) → Long s → Long (placed t b w d s)
unfolding placed
placed-long (leaf g) b w d s h = pick-long (ltb g most_gates) (path_words (set s.bits g b) (set s.lengths g d)) s (set_long s g b d h) h
placed-long (fork l r) b w d s h =
    placed-long l (b + w) (w * 2) (d + 1) (placed r b (w * 2) (d + 1) s) (placed-long r b (w * 2) (d + 1) s h)

-- the words of gate g after the walk: those of its path in the tree behind the path to it, or as they were
abbrev pub Read : ℕ → Option (List ℕ) → ℕ → ℕ → ℕ → PathWords → PathWords → Type 0
Read g (some p) b w d s v = (get_or v.bits g 0 ≡ b + w * bits_of p) × (get_or v.lengths g 0 ≡ d + length p)
Read g none b w d s v = (get_or v.bits g 0 ≡ get_or s.bits g 0) × (get_or v.lengths g 0 ≡ get_or s.lengths g 0)

read_fork : (g : ℕ) (x y : Option (List ℕ)) (b w d : ℕ) (s u v : PathWords) → Read g y b (w * 2) (d + 1) s u → Read g x (b + w) (w * 2) (d + 1) u v
    → Read g (turned 1 x (turned 0 y none)) b w d s v
unfolding bits_of
read_fork g (some p) y b w d s u v m n = (n.0 ∙ omega arith, n.1 ∙ omega arith)
read_fork g none (some p) b w d s u v m n = (n.0 ∙ m.0 ∙ omega arith, n.1 ∙ m.1 ∙ omega arith)
read_fork g none none b w d s u v m n = (n.0 ∙ m.0, n.1 ∙ m.1)

pub placed-read : (t : Tree) (b w d : ℕ) (s : PathWords) (g : ℕ) → g < most_gates → Long s → Read g (path_to g t) b w d s (placed t b w d s)
unfolding placed path_to bits_of
placed-read (leaf h) b w d s g k long = own (ℕ_discrete g h)
  where
    at : Read g (some []) b w d s (path_words (set s.bits g b) (set s.lengths g d))
    at = (get_or-set_same s.bits g b 0 (omega (arith, long.bits)) ∙ omega arith, get_or-set_same s.lengths g d 0 (omega (arith, long.lengths)) ∙ omega arith)

    other : (t : Bool) → g ≢ h → Read g none b w d s (pick t (path_words (set s.bits h b) (set s.lengths h d)) s)
    other true n = (get_or-set_other s.bits h g b 0 n, get_or-set_other s.lengths h g d 0 n)
    other false n = (refl, refl)

    own : Dec (g ≡ h) → Read g (path_to g (leaf h)) b w d s (placed (leaf h) b w d s)
    own (yes e) = rw (← e, eq-eqb g g refl, lt-ltb g most_gates k) at
    own (no n) = rw (ne_eqb g h n) (other (ltb h most_gates) n)
placed-read (fork l r) b w d s g k long =
    read_fork g (path_to g l) (path_to g r) b w d s (placed r b (w * 2) (d + 1) s) (placed l (b + w) (w * 2) (d + 1) (placed r b (w * 2) (d + 1) s))
    (placed-read r b (w * 2) (d + 1) s g k long)
    (placed-read l (b + w) (w * 2) (d + 1) (placed r b (w * 2) (d + 1) s) g k (placed-long r b (w * 2) (d + 1) s long))

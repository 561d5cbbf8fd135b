-- What is known of the tree that the search finds.
--
-- Main statements: `search_facts` (its leaves are the placed gates, K ≤ G + L + 1), `nothing_deeper`.
use Rattle.std.specs.Prelude.{◌*◌, ◌+◌, ◌<◌, ◌≤◌, suc, zero, ℕ, leb, length, Bool, false, true, List, ◌⊎◌, ◌≡◌, refl}
use borrow.Author.Tests.{leb-true, lt-leb}
use Rattle.std.proofs.Common.{inl, inr, ⊎_elim, ◌∙◌}
use Rattle.std.proofs.Math.Option.{Option, none, some}
use Rattle.std.proofs.Math.Path.{ap}
use native.Mathlib.Omega.{arith}
use Rattle.base.specs.Exponent.{exponent}
use Rattle.base.specs.Pick.{both_true, pick}
use Rattle.selector.specs.Gates.{constants_of, degree_at, placed_gates, sorted, top_constants, top_degree}
use Rattle.selector.proofs.GrowthLaws.{AllFit, grown_facts}
use Rattle.selector.specs.Search.{bounds, constants_over, degree_over, extra_levels, factor_of, first_bound, first_target, may_stand, or_tree, search_tree, targets, tree_k, tree_within}
use Rattle.selector.specs.SortLaws.{length-sorted, times, times-sorted}
use Rattle.selector.specs.Inner.{depth}
use Rattle.selector.specs.Tree.{Tree, fork, grown, leaf, size, standing}

-- nothing stands deeper than the bound
pub nothing_deeper : (x : ℕ) (gs : List ℕ) (t c g d : ℕ) → c < d → may_stand x gs t c g d ≡ false
unfolding may_stand
nothing_deeper x gs t c g d h = by (leb (degree_at gs g d) t) (lt-leb (constants_of x gs g + d) c (omega arith))
  where
    by : (b : Bool) → leb (constants_of x gs g + d) c ≡ false → pick b (leb (constants_of x gs g + d) c) false ≡ false
    by true e = e
    by false e = refl

-- which bound and which target gave the tree
or_else : (q s : Option Tree) (t : Tree) → or_tree q s ≡ some t → (q ≡ some t) ⊎ (s ≡ some t)
or_else (some u) s t e = inl e
or_else none s t e = inr e

which_bound : (f : ℕ → Option Tree) (k b : ℕ) (t : Tree) → first_bound f k b ≡ some t → (c : ℕ) × (c < b + k) × (f c ≡ some t)
unfolding first_bound
which_bound f zero b t e = let s : ◌≡◌ {A = ℕ} 0 1 = cc in absurd (omega arith)
which_bound f (suc k) b t e =
    ⊎_elim (λ q. (b, omega arith, q)) (λ q. let r = which_bound f k (b + 1) t q in (r.0, omega (arith, r.1), r.2))
    (or_else (f b) (first_bound f k (b + 1)) t e)

which_target : (f : ℕ → Option Tree) (k b : ℕ) (t : Tree) → first_target f k b ≡ some t → (c : ℕ) × (f c ≡ some t)
unfolding first_target
which_target f zero b t e = let s : ◌≡◌ {A = ℕ} 0 1 = cc in absurd (omega arith)
which_target f (suc k) b t e =
    ⊎_elim (λ q. (b, q)) (λ q. which_target f k (b * 2) t q) (or_else (f b) (first_target f k (b * 2)) t e)

-- where every gate may stand, D is within the target and K within the bound
module _ (x : ℕ) (gs : List ℕ) (t c : ℕ) where
  may_both : (g d : ℕ) → may_stand x gs t c g d ≡ true → (degree_at gs g d ≤ t) × (constants_of x gs g + d ≤ c)
  unfolding may_stand
  may_both g d e =
      let b = both_true (leb (degree_at gs g d) t) (leb (constants_of x gs g + d) c) e in
      (leb-true (degree_at gs g d) t b.0, leb-true (constants_of x gs g + d) c b.1)

  within_both : (u : Tree) (d : ℕ) → AllFit (may_stand x gs t c) d u → (degree_over gs d u ≤ t) × (constants_over x gs d u ≤ c)
  unfolding degree_over constants_over
  within_both (leaf g) d h = may_both g d h
  within_both (fork l r) d (h, k) = let a = within_both l (d + 1) h in let b = within_both r (d + 1) k in (omega arith, omega arith)

-- what the search's tree has: its leaves are the placed gates, and its depth and K are within the greatest bound
pub record Searched (x : ℕ) (gs : List ℕ) (m : ℕ) (t : Tree) : Type 0 where
  pub counts : (h : ℕ) → standing h t ≡ times h (placed_gates gs m)
  pub sized : size t + 1 ≡ length (placed_gates gs m) * 2
  pub deep : depth t < top_constants x gs (placed_gates gs m) + bounds (placed_gates gs m)
  pub most : tree_k x gs t < top_constants x gs (placed_gates gs m) + bounds (placed_gates gs m)

module _ (gs : List ℕ) (m x : ℕ) where
  pub search_facts : (t : Tree) → search_tree x gs m ≡ some t → Searched x gs m t
  unfolding search_tree tree_within
  search_facts t e =
      let o = sorted x gs (placed_gates gs m) in
      let n = length-sorted x gs (placed_gates gs m) in
      let a = which_target (tree_within x gs o (top_constants x gs (placed_gates gs m))) targets (factor_of (top_degree gs (placed_gates gs m))) t e in
      let b = which_bound (λ (k : ℕ). grown (may_stand x gs a.0 k) o) (bounds o) (top_constants x gs (placed_gates gs m)) t a.1 in
      let f = grown_facts b.0 (may_stand x gs a.0 b.0) (nothing_deeper x gs a.0 b.0) o t b.2 in
      let q : bounds o ≡ bounds (placed_gates gs m) = ap (λ (z : ℕ). exponent z + (extra_levels + 1)) n in
      record {
        counts = λ h. f.counts h ∙ times-sorted x gs h (placed_gates gs m);
        sized = f.sized ∙ ap (λ (z : ℕ). z * 2) n;
        deep = omega (arith, f.deep, b.1, q);
        most = omega (arith, (within_both x gs a.0 b.0 t 0 f.fits).1, b.1, q);
      }

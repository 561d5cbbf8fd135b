-- 01, 'Gates and tree': the search for a tree, and the numbers D, K and F of a tree (the Rust's compute_stats).
--
-- Main definitions: `may_stand`, `plan_tree`, `tree_d`, `tree_k`, `tree_f`.
use Rattle.std.specs.Prelude.{◌*◌, ◌+◌, ◌-◌, ◌^◌, max, suc, zero, ℕ, eqb, leb, length, Bool, false, List}
use Rattle.std.proofs.Math.Option.{Option, none, some}
use Rattle.base.specs.Exponent.{exponent}
use Rattle.base.specs.Pick.{pick}
use Rattle.selector.specs.Gates.{constants_of, degree_at, placed_gates, sorted, top_constants, top_degree}
use Rattle.selector.specs.Tree.{Tree, fork, grown, leaf}

-- "degree within target, constants plus depth within bound": gate g at depth d, for target t and bound c
unfoldable pub may_stand : ℕ → List ℕ → ℕ → ℕ → ℕ → ℕ → Bool
may_stand x gs t c g d = pick (leb (degree_at gs g d) t) (leb (constants_of x gs g + d) c) false

-- "The first tree with all gates wins."
abbrev pub or_tree : Option Tree → Option Tree → Option Tree
or_tree (some t) q = some t
or_tree none q = q

-- the first tree of the k bounds c, c + 1, ..
unfoldable pub first_bound : (ℕ → Option Tree) → ℕ → ℕ → Option Tree
first_bound f zero c = none
first_bound f (suc k) c = or_tree (f c) (first_bound f k (c + 1))

-- the first tree of the k targets t, 2t, 4t, ..
unfoldable pub first_target : (ℕ → Option Tree) → ℕ → ℕ → Option Tree
first_target f zero t = none
first_target f (suc k) t = or_tree (f t) (first_target f k (t * 2))

-- "the smallest power of two not below the greater of 1 and D−1"; t is that of M
abbrev pub factor_of : ℕ → ℕ
factor_of d = 2 ^ exponent (max 1 (d - 1))

-- "Targets: t, 2t, 4t, 8t"
abbrev pub targets : ℕ
targets = 4

-- "for i = 0..L+1, constants bound G+i": the levels that i runs past L
abbrev pub extra_levels : ℕ
extra_levels = 1

-- "L the exponent of the smallest power of two not below n", n the number of placed gates
abbrev pub bounds : List ℕ → ℕ
bounds order = exponent (length order) + (extra_levels + 1)

-- the search for one target t, where G is c
unfoldable pub tree_within : ℕ → List ℕ → List ℕ → ℕ → ℕ → Option Tree
tree_within x gs order c t = first_bound (λ (b : ℕ). grown (may_stand x gs t b) order) (bounds order) c

-- the search over all targets
unfoldable pub search_tree : ℕ → List ℕ → ℕ → Option Tree
search_tree x gs m =
    first_target (tree_within x gs (sorted x gs (placed_gates gs m)) (top_constants x gs (placed_gates gs m))) targets
    (factor_of (top_degree gs (placed_gates gs m)))

-- "A list of one gate is a lone leaf."
unfoldable pub plan_tree : ℕ → List ℕ → ℕ → Option Tree
plan_tree x gs m = pick (eqb m 1) (some (leaf 0)) (search_tree x gs m)

-- the greatest degree at depth, and the greatest constants plus depth, of a tree that stands at depth d
unfoldable pub degree_over : List ℕ → ℕ → Tree → ℕ
degree_over gs d (leaf g) = degree_at gs g d
degree_over gs d (fork l r) = max (degree_over gs (d + 1) l) (degree_over gs (d + 1) r)

unfoldable pub constants_over : ℕ → List ℕ → ℕ → Tree → ℕ
constants_over x gs d (leaf g) = constants_of x gs g + d
constants_over x gs d (fork l r) = max (constants_over x gs (d + 1) l) (constants_over x gs (d + 1) r)

-- "D is the greatest degree at depth, K the greatest constants plus depth, F the smallest power of two not below the greater of 1 and D−1."
abbrev pub tree_d : List ℕ → Tree → ℕ
tree_d gs t = degree_over gs 0 t

abbrev pub tree_k : ℕ → List ℕ → Tree → ℕ
tree_k x gs t = constants_over x gs 0 t

abbrev pub tree_f : List ℕ → Tree → ℕ
tree_f gs t = factor_of (tree_d gs t)

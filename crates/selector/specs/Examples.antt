-- 01's worked circuits P5, P6 and P10, its runs of 64 and 65 gates, a gate without selector, and whose the all-0 path is, by computation.
--
-- Main statements: `p5`, `p6`, `p10`, `one_placed`, `markers`, `sixty_four`.
use Rattle.std.specs.Prelude.{◌-◌, suc, zero, ℕ, Bool, false, true, List, [], ◌∷◌, ◌≡◌, refl}
use Rattle.std.proofs.Math.Option.{Option, none, some}
use Rattle.base.specs.Exponent.{exponent_from}
use Rattle.selector.specs.Gates.{comes_before, constants_of, degree_at, greatest, inserted, placed_from, placed_gates, sorted}
use Rattle.selector.specs.Markers.{blocked_by, marker_ends, noughts}
use Rattle.selector.specs.Paths.{Selector, a_path, no_selector, path_of, path_to, selected}
use Rattle.selector.specs.Search.{constants_over, degree_over, first_bound, first_target, may_stand, plan_tree, search_tree, targets, tree_d, tree_f, tree_k, tree_within}
use Rattle.selector.specs.Tree.{Tree, fork, grown, leaf, offer, offer_all, size}

-- P5 lookup at depth 0, 2, 5: degree 2, 2, 5
pub p5 : (degree_at (3 ∷ 0 ∷ 0 ∷ []) 0 0 ≡ 2) × (degree_at (3 ∷ 0 ∷ 0 ∷ []) 0 2 ≡ 2) × (degree_at (3 ∷ 0 ∷ 0 ∷ []) 0 5 ≡ 5)
unfolding degree_at
p5 = (refl, refl, refl)

-- what is answered of the gates from g on, as many as the list has
unfoldable pub selectors_from : ℕ → List Selector → Tree → List Selector
selectors_from g [] t = []
selectors_from g (s ∷ ss) t = selected (path_to g t) ∷ selectors_from (suc g) ss t

-- what a circuit's tree, D, K and F are, and what is answered of its gates
pub record Planning (gs : List ℕ) (m : ℕ) (t : Tree) (d k f : ℕ) (selectors : List Selector) : Type 0 where
  pub tree : plan_tree 0 gs m ≡ some t
  pub degree : tree_d gs t ≡ d
  pub constants : tree_k 0 gs t ≡ k
  pub divisor : tree_f gs t ≡ f
  pub ways : selectors_from 0 selectors t ≡ selectors

-- P6 gates (0,2,1), (0,1,0), (1,0,0), A=1: paths 1, 01, 00; D=3, K=2, F=2
pub p6 : Planning (0 ∷ 2 ∷ 1 ∷ 0 ∷ 1 ∷ 0 ∷ 1 ∷ 0 ∷ 0 ∷ []) 3 (fork (leaf 0) (fork (leaf 1) (leaf 2))) 3 2 2 (a_path (1 ∷ []) ∷ a_path (0 ∷ 1 ∷ []) ∷ a_path (0 ∷ 0 ∷ []) ∷ [])
unfolding constants_of degree_at placed_from comes_before inserted sorted greatest exponent_from offer offer_all grown may_stand first_bound first_target tree_within search_tree plan_tree degree_over constants_over path_to selectors_from
p6 = record { tree = refl; degree = refl; constants = refl; divisor = refl; ways = refl }

-- P10 one Nop: D=0, K=0, F=1
pub p10 : Planning (1 ∷ 0 ∷ 0 ∷ []) 1 (leaf 0) 0 0 1 (a_path [] ∷ [])
unfolding constants_of degree_at exponent_from plan_tree degree_over constants_over path_to selectors_from
p10 = record { tree = refl; degree = refl; constants = refl; divisor = refl; ways = refl }

-- 02, Change 2: (0,64,0), (2,0,0): an empty path, and no selector
pub one_placed : Planning (0 ∷ 64 ∷ 0 ∷ 2 ∷ 0 ∷ 0 ∷ []) 2 (leaf 0) 64 0 64 (a_path [] ∷ no_selector ∷ [])
unfolding constants_of degree_at placed_from comes_before inserted sorted greatest exponent_from offer offer_all grown may_stand first_bound first_target tree_within search_tree plan_tree degree_over constants_over path_to selectors_from
one_placed = record { tree = refl; degree = refl; constants = refl; divisor = refl; ways = refl }

-- 02, Change 4: whether the all-0 path is of another kind than 1, at the end of paths 1, 01, 00
abbrev blocked : ℕ → Tree → Bool
blocked k t = blocked_by (λ g. path_of g t) (0 ∷ 2 ∷ 1 ∷ 0 ∷ 1 ∷ 0 ∷ k ∷ 0 ∷ 0 ∷ []) 3

-- P6's, where a kind 1 gate stands there; an evaluated gate, the lookup gate, and a kind 1 gate that stands elsewhere
markers : (blocked 1 (fork (leaf 0) (fork (leaf 1) (leaf 2))) ≡ false) × (blocked 0 (fork (leaf 0) (fork (leaf 1) (leaf 2))) ≡ true) × (blocked 3 (fork (leaf 0) (fork (leaf 1) (leaf 2))) ≡ true) × (blocked 1 (fork (leaf 0) (fork (leaf 2) (leaf 1))) ≡ true)
unfolding noughts marker_ends path_to
markers = (refl, refl, refl, refl)

-- "64 gates (0,2,0) placed at target 8; 65 give 8": no tree at half that target, and none at all for 65
unfoldable pub alike : ℕ → List ℕ
alike zero = []
alike (suc k) = 0 ∷ 2 ∷ 0 ∷ alike k

abbrev nodes_of : Option Tree → ℕ
nodes_of none = 0
nodes_of (some t) = size t

sixty_four : (nodes_of (plan_tree 0 (alike 64) 64) ≡ 127) × (first_target (tree_within 0 (alike 64) (placed_gates (alike 64) 64) 0) (targets - 1) 1 ≡ none) × (plan_tree 0 (alike 65) 65 ≡ none)
unfolding alike constants_of degree_at placed_from comes_before inserted sorted greatest exponent_from offer offer_all grown may_stand first_bound first_target tree_within search_tree plan_tree
sixty_four = (refl, refl, refl)

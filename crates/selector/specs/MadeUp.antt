-- 01, 'When a call is turned down', 19: which nodes, D, K and F a plan may have.
--
-- Main definition: `nodes_fit`.
use Rattle.std.specs.Prelude.{◌+◌, suc, zero, ℕ, eqb, leb, ltb, Bool, false, true, List}
use Rattle.std.proofs.Math.Option.{Option, none, some}
use Rattle.base.specs.Pick.{pick}
use Rattle.selector.specs.Gates.{kind_of}
use Rattle.selector.specs.Nodes.{left_at, most_levels, most_nodes, right_at, tree_at}
use Rattle.selector.specs.Search.{factor_of, tree_d, tree_k}
use Rattle.selector.specs.Tree.{Tree, fork, leaf, standing}

-- "a child not after its parent or past the nodes": node i is a leaf, which has no child words, or both children come after it and within the n nodes
unfoldable pub linked_at : List ℕ → ℕ → ℕ → Bool
linked_at ns n i =
    pick (eqb (left_at ns i) 0) (eqb (right_at ns i) 0)
    (pick (ltb i (left_at ns i)) (pick (ltb (left_at ns i) n) (pick (ltb i (right_at ns i)) (ltb (right_at ns i) n) false) false) false)

-- the k nodes from i on
unfoldable pub linked_from : ℕ → List ℕ → ℕ → ℕ → Bool
linked_from zero ns n i = true
linked_from (suc k) ns n i = pick (linked_at ns n i) (linked_from k ns n (i + 1)) false

-- every leaf is a listed gate
unfoldable pub all_listed : ℕ → Tree → Bool
all_listed m (leaf g) = ltb g m
all_listed m (fork l r) = pick (all_listed m l) (all_listed m r) false

-- a placed gate is wanted once, a dropped one not at all; "A gate list's only gate counts as placed."
unfoldable pub wanted : List ℕ → ℕ → ℕ → ℕ
wanted gs m g = pick (eqb m 1) 1 (pick (eqb (kind_of gs g) 2) 0 1)

-- the k gates from g on stand as often as wanted, where c g is how often g stands
unfoldable pub as_wanted : ℕ → List ℕ → ℕ → (ℕ → ℕ) → ℕ → Bool
as_wanted zero gs m c g = true
as_wanted (suc k) gs m c g = pick (eqb (c g) (wanted gs m g)) (as_wanted k gs m c (g + 1)) false

-- "leaves other than each placed gate just once"
unfoldable pub just_once : List ℕ → ℕ → Tree → Bool
just_once gs m t = pick (all_listed m t) (as_wanted m gs m (λ (g : ℕ). standing g t) 0) false

-- d, k and f are the degree and constants found and the factor of that degree
unfoldable pub numbers_are : ℕ → ℕ → ℕ → ℕ → ℕ → Bool
numbers_are top most d k f = pick (eqb d top) (pick (eqb k most) (eqb f (factor_of top)) false) false

-- "or D, K or F not the tree's"
unfoldable pub numbers_fit : ℕ → List ℕ → ℕ → ℕ → ℕ → Tree → Bool
numbers_fit x gs d k f t = numbers_are (tree_d gs t) (tree_k x gs t) d k f

unfoldable pub tree_fits : ℕ → List ℕ → ℕ → ℕ → ℕ → ℕ → Option Tree → Bool
tree_fits x gs m d k f none = false
tree_fits x gs m d k f (some t) = pick (just_once gs m t) (numbers_fit x gs d k f t) false

-- the n nodes of a plan: each is linked, the tree at node 0 is no deeper than 31, its leaves are each placed gate just once, and D, K and F are its own
unfoldable pub nodes_fit : ℕ → List ℕ → ℕ → List ℕ → ℕ → ℕ → ℕ → ℕ → Bool
nodes_fit x gs m ns n d k f =
    pick (ltb 0 n) (pick (leb n most_nodes) (pick (linked_from n ns n 0) (tree_fits x gs m d k f (tree_at most_levels ns 0)) false) false) false

-- The offer of a gate over node words, level by level: what the code of the search does, and nothing that 01 speaks of. `flat_grows` says that it is
-- the offer of Tree: each node's words tell of the tree that stands there.
--
-- Main definitions: `offer_node`, `offer_fork`, `grow_flat`, `Stands`.
use Rattle.std.specs.Prelude.{◌*◌, ◌+◌, ◌<◌, ◌≤◌, suc, zero, ℕ, eqb, length, Bool, List, [], ◌∷◌, ◌≡◌}
use Rattle.std.proofs.Math.Option.{Option, none, some}
use Rattle.base.specs.Pick.{pick}
use Rattle.selector.specs.Gates.{gate_words}
use Rattle.selector.specs.Leaves.{In, Once}
use Rattle.selector.specs.Nodes.{gate_at, left_at, most_levels, most_nodes, put, right_at}
use Rattle.selector.specs.Inner.{depth, Holds}
use Rattle.selector.specs.Tree.{Tree, size}

-- the leaf at node i becomes a fork of two new nodes, n and n + 1: its gate left, g right
unfoldable pub split_flat : List ℕ → ℕ → ℕ → ℕ → List ℕ
split_flat ns n i g = put (put (put ns n 0 0 (gate_at ns i)) (n + 1) 0 0 g) i n (n + 1) 0

-- nodes and their number
pub record Placed : Type 0 where
  pub nodes : List ℕ
  pub count : ℕ

abbrev pub placed : List ℕ → ℕ → Placed
placed ns n = record { nodes = ns; count = n }

-- what the left side answered, unless it refused
abbrev pub or_else : ℕ → Placed → Placed → Placed
or_else n a b = pick (eqb a.count n) b a

unfoldable pub offer_leaf : (ℕ → ℕ → Bool) → ℕ → ℕ → ℕ → List ℕ → ℕ → Placed
offer_leaf fit g d i ns n =
    pick (fit (gate_at ns i) (d + 1))
    (pick (fit g (d + 1)) (placed (split_flat ns n i g) (n + 2)) (placed ns n))
    (placed ns n)

-- gate g is offered to node i at depth d, with f levels left
unfoldable pub offer_node : ℕ → (ℕ → ℕ → Bool) → ℕ → ℕ → ℕ → List ℕ → ℕ → Placed
offer_node zero fit g d i ns n = placed ns n
offer_node (suc f) fit g d i ns n =
    pick (eqb (left_at ns i) 0)
    (offer_leaf fit g d i ns n)
    (or_else n (offer_node f fit g (d + 1) (left_at ns i) ns n) (offer_node f fit g (d + 1) (right_at ns i) ns n))

-- and to the sides of the fork at node i, which stand at depth d
unfoldable pub offer_fork : ℕ → (ℕ → ℕ → Bool) → ℕ → ℕ → ℕ → List ℕ → ℕ → Placed
offer_fork f fit g d i ns n = or_else n (offer_node f fit g d (left_at ns i) ns n) (offer_node f fit g d (right_at ns i) ns n)

-- children stay within the n nodes, each node's gate has its words in gs, and there is room for two nodes more
pub record Fine (gs ns : List ℕ) (n i g : ℕ) : Type 0 where
  pub room : n + 2 ≤ most_nodes
  pub here : i < n
  pub listed : g * gate_words + 2 < length gs
  pub lefts : (k : ℕ) → k < n → left_at ns k < n
  pub rights : (k : ℕ) → k < n → right_at ns k < n
  pub gates : (k : ℕ) → k < n → gate_at ns k * gate_words + 2 < length gs

-- the gates of a list, offered in order, with levels enough for every bound; a refusal leaves no count
unfoldable pub grow_from : (ℕ → ℕ → Bool) → List ℕ → List ℕ → ℕ → Placed
grow_from fit [] ns n = placed ns n
grow_from fit (g ∷ rest) ns n =
    pick (eqb (offer_node most_levels fit g 0 0 ns n).count n)
    (placed ns 0)
    (grow_from fit rest (offer_node most_levels fit g 0 0 ns n).nodes (offer_node most_levels fit g 0 0 ns n).count)

-- the whole tree: the first gate alone, then the others
unfoldable pub grow_flat : (ℕ → ℕ → Bool) → List ℕ → List ℕ → Placed
grow_flat fit [] ns = placed ns 0
grow_flat fit (g ∷ rest) ns = pick (fit g 0) (grow_from fit rest (put ns 0 0 0 g) 1) (placed ns 0)

-- the tree t of gates below m stands in the n nodes from node 0 on
pub record Stood (m : ℕ) (t : Tree) (ns : List ℕ) (n : ℕ) : Type 0 where
  pub some : 0 < n
  pub holds : Holds ns n 0 t
  pub once : Once t
  pub listed : (g : ℕ) → In g t → g < m
  pub sized : n ≡ size t
  pub small : n ≤ most_nodes
  pub deep : depth t ≤ most_levels

-- what a search leaves: no count where there is no tree, else the tree
abbrev pub Stands : ℕ → Option Tree → List ℕ → ℕ → Type 0
Stands m none ns n = n ≡ 0
Stands m (some t) ns n = Stood m t ns n

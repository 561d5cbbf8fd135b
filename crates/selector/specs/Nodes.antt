-- 01, 'Box tree: nodes in a flat array, children after parents'. A node is three words: left, right, gate; a left word 0 is a leaf, since node 0 is
-- nobody's child; a leaf's right word is 0 too. The plan's node words are its tree in preorder over zeros.
--
-- Main definitions: `node_size`, `most_nodes`, `node_slots`, `most_levels`, `laid`, `tree_at`.
use Rattle.std.specs.Prelude.{◌*◌, ◌+◌, ◌-◌, suc, zero, ℕ, eqb, get_or, replicate, set, List}
use Rattle.std.proofs.Math.Option.{Option, none, some}
use Rattle.base.specs.Limits.{most_gates}
use Rattle.base.specs.Pick.{pick}
use Rattle.selector.specs.Tree.{Tree, fork, leaf, size}

-- a node's words
abbrev pub node_size : ℕ
node_size = 3

-- as many nodes as a tree with a leaf for each gate has
abbrev pub most_nodes : ℕ
most_nodes = most_gates * 2 - 1

-- and their words: a plan's array
abbrev pub node_slots : ℕ
node_slots = most_nodes * node_size

-- "a leaf below depth 31": a tree has at most this many levels, so that depth 31 is the last. The search has as many, which every bound is
-- within.
abbrev pub most_levels : ℕ
most_levels = 32

abbrev pub left_at : List ℕ → ℕ → ℕ
left_at ns i = get_or ns (i * node_size) 0

abbrev pub right_at : List ℕ → ℕ → ℕ
right_at ns i = get_or ns (i * node_size + 1) 0

abbrev pub gate_at : List ℕ → ℕ → ℕ
gate_at ns i = get_or ns (i * node_size + 2) 0

-- a node's three words written
abbrev pub put : List ℕ → ℕ → ℕ → ℕ → ℕ → List ℕ
put ns i l r g = set (set (set ns (i * node_size) l) (i * node_size + 1) r) (i * node_size + 2) g

-- a tree in preorder from node i on, written over ns: a fork's left side starts at the next node, its right side behind that
unfoldable pub laid : Tree → ℕ → List ℕ → List ℕ
laid (leaf g) i ns = put ns i 0 0 g
laid (fork l r) i ns = laid r (i + 1 + size l) (put (laid l (i + 1) ns) i (i + 1) (i + 1 + size l) 0)

-- the node words of a plan with tree t; unused words are 0
abbrev pub node_words : Tree → List ℕ
node_words t = laid t 0 (replicate node_slots 0)

abbrev pub both_sides : Option Tree → Option Tree → Option Tree
both_sides (some l) (some r) = some (fork l r)
both_sides (some l) none = none
both_sides none q = none

-- the tree at node i, none where it is f deep or more
unfoldable pub tree_at : ℕ → List ℕ → ℕ → Option Tree
tree_at zero ns i = none
tree_at (suc f) ns i =
    pick (eqb (left_at ns i) 0) (some (leaf (gate_at ns i))) (both_sides (tree_at f ns (left_at ns i)) (tree_at f ns (right_at ns i)))

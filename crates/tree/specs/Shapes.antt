-- The words of a tree in a plan: its nodes in preorder, D, K and F. Where there is no tree they are zeros.
--
-- Main definitions: `shape_of`, `shape_or_zeros`.
use Rattle.std.specs.Prelude.{ℕ, replicate, List, Option as Optional, None, Some}
use Rattle.std.proofs.Math.Option.{Option, none, some}
use Rattle.selector.specs.Nodes.{node_slots, node_words}
use Rattle.selector.specs.Search.{tree_d, tree_f, tree_k}
use Rattle.selector.specs.Tree.{Tree, size}
use Rattle.tree.specs.declared.nodes.Shape.{Shape}

-- a tree's nodes in preorder, over zeros; no tree: all zeros
abbrev pub shape_of : ℕ → List ℕ → Option Tree → Shape
shape_of x gs none = record { nodes = replicate node_slots 0; count = 0; degree = 0; constants = 0; factor = 0 }
shape_of x gs (some t) = record { nodes = node_words t; count = size t; degree = tree_d gs t; constants = tree_k x gs t; factor = tree_f gs t }

-- a shape, or zeros where there is none
abbrev pub shape_or_zeros : Optional Shape → Shape
shape_or_zeros None = record { nodes = replicate node_slots 0; count = 0; degree = 0; constants = 0; factor = 0 }
shape_or_zeros (Some s) = s

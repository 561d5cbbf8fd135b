-- Private to the pass that lays a tree out: what it needs to know of the nodes, and what it leaves.
--
-- Main definitions: `walked`, `Room`, `Done`.
use Rattle.std.specs.Prelude.{◌+◌, ◌<◌, ◌≤◌, max, ℕ, List, ◌≡◌}
use Rattle.selector.specs.Leaves.{In}
use Rattle.selector.specs.Nodes.{laid, most_nodes}
use Rattle.selector.specs.Search.{constants_over, degree_over}
use Rattle.selector.specs.Inner.{depth, Holds}
use Rattle.selector.specs.Tree.{Tree, size}
use Rattle.tree.specs.declared.nodes.Stats.{Stats}

-- what a walk over a tree at depth d adds to what was counted before
abbrev pub walked : ℕ → List ℕ → ℕ → Tree → Stats → Stats
walked x gs d t s =
    record {
      next = s.next + size t;
      degree = max s.degree (degree_over gs d t);
      constants = max s.constants (constants_over x gs d t);
    }

-- a tree of listed gates stands at node i, less than f deep, and there is room for it from node `next` on
pub record Room (m : ℕ) (old : List ℕ) (i f next : ℕ) : Type 0 where
  pub tree : Tree
  pub holds : Holds old most_nodes i tree
  pub listed : (g : ℕ) → In g tree → g < m
  pub room : next + size tree ≤ most_nodes
  pub deep : depth tree < f

-- the tree t at depth d is laid out, and its stats are taken
pub record Done (x : ℕ) (gs : List ℕ) (d : ℕ) (t : Tree) (s : Stats) (new out : List ℕ) (r : Stats) : Type 0 where
  pub nodes : out ≡ laid t s.next new
  pub sums : r ≡ walked x gs d t s

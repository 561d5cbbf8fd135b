-- 01, 'Paths' (the Rust's output_placement): the way from the root to a gate's leaf, and its words. 02, Change 2: what is answered of a gate.
--
-- Main definitions: `path_to`, `path_of`, `Selector`, `bits_of`.
use Rattle.std.specs.Prelude.{◌*◌, ◌+◌, ℕ, eqb, List, [], ◌∷◌}
use Rattle.std.proofs.Math.Option.{Option, none, some}
use Rattle.base.specs.Pick.{pick}
use Rattle.selector.specs.Tree.{Tree, fork, leaf}

-- a step before the first of two ways that is there
abbrev pub turned : ℕ → Option (List ℕ) → Option (List ℕ) → Option (List ℕ)
turned b (some p) q = some (b ∷ p)
turned b none q = q

-- "Paths: 1 left, 0 right"; none for a gate at no leaf
unfoldable pub path_to : ℕ → Tree → Option (List ℕ)
path_to g (leaf h) = pick (eqb g h) (some []) none
path_to g (fork l r) = turned 1 (path_to g l) (turned 0 (path_to g r) none)

abbrev pub or_empty : Option (List ℕ) → List ℕ
or_empty (some p) = p
or_empty none = []

-- "a dropped gate's is empty"
abbrev pub path_of : ℕ → Tree → List ℕ
path_of g t = or_empty (path_to g t)

-- 02, Change 2: "The path answer becomes one of three: a path, no selector, or unknown gate"
pub data Selector : Type 0 where
  a_path : List ℕ → Selector
  no_selector : Selector
  unknown_gate : Selector

-- a listed gate at a leaf has its path, one at no leaf, a dropped gate, has no selector
abbrev pub selected : Option (List ℕ) → Selector
selected (some p) = a_path p
selected none = no_selector

-- the steps that an answer has; only a path has any
abbrev pub steps : Selector → List ℕ
steps (a_path p) = p
steps no_selector = []
steps unknown_gate = []

-- "bits and a length": bit i, from the least, is step i from the root
unfoldable pub bits_of : List ℕ → ℕ
bits_of [] = 0
bits_of (b ∷ p) = bits_of p * 2 + b

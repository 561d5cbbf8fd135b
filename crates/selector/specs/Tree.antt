-- 01, 'Gates and tree': the tree of gates (the Rust's TreeNode) and the offer of a gate to it (its try_add_gate).
-- `fit g d` says whether gate g may stand at depth d.
--
-- Main definitions: `Tree`, `offer`, `grown`, `size`, `standing`.
use Rattle.std.specs.Prelude.{◌+◌, suc, ℕ, eqb, Bool, List, [], ◌∷◌}
use Rattle.std.proofs.Math.Option.{Option, none, some}
use Rattle.base.specs.Pick.{pick}

pub data Tree : Type 0 where
  leaf : ℕ → Tree
  fork : Tree → Tree → Tree

-- the left side's answer, else the right side's
abbrev pub or_fork : Tree → Tree → Option Tree → Option Tree → Option Tree
or_fork l r (some x) q = some (fork x r)
or_fork l r none (some y) = some (fork l y)
or_fork l r none none = none

-- "A leaf at depth d becomes a fork, old gate left, new right, if both fit one deeper. A fork offers left, then right."
unfoldable pub offer : (ℕ → ℕ → Bool) → ℕ → ℕ → Tree → Option Tree
offer fit g d (leaf h) = pick (fit h (d + 1)) (pick (fit g (d + 1)) (some (fork (leaf h) (leaf g))) none) none
offer fit g d (fork l r) = or_fork l r (offer fit g (d + 1) l) (offer fit g (d + 1) r)

abbrev pub and_then : Option Tree → (Tree → Option Tree) → Option Tree
and_then none f = none
and_then (some t) f = f t

-- the gates of a list, offered in order
unfoldable pub offer_all : (ℕ → ℕ → Bool) → List ℕ → Tree → Option Tree
offer_all fit [] t = some t
offer_all fit (g ∷ l) t = and_then (offer fit g 0 t) (offer_all fit l)

-- "start empty and offer the gates in order. An empty tree takes a gate whose degree and constants fit at depth 0."
unfoldable pub grown : (ℕ → ℕ → Bool) → List ℕ → Option Tree
grown fit [] = none
grown fit (g ∷ l) = pick (fit g 0) (offer_all fit l (leaf g)) none

-- the number of nodes
abbrev pub size : Tree → ℕ
size (leaf g) = 1
size (fork l r) = suc (size l + size r)

-- at how many leaves a gate stands
unfoldable pub standing : ℕ → Tree → ℕ
standing g (leaf h) = pick (eqb g h) 1 0
standing g (fork l r) = standing g l + standing g r

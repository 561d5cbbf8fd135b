-- Where gates stand in a tree.
use Rattle.std.specs.Prelude.{ℕ, ◌⊎◌}
use Rattle.std.proofs.Math.Path.{◌≡◌}
use Rattle.selector.specs.Tree.{Tree, fork, leaf}

-- a gate stands at a leaf
abbrev pub In : ℕ → Tree → Type 0
In g (leaf h) = g ≡ h
In g (fork l r) = In g l ⊎ In g r

-- no gate stands at two leaves
abbrev pub Once : Tree → Type 0
Once (leaf h) = Unit {0}
Once (fork l r) = ((g : ℕ) → In g l → In g r → ⊥) × Once l × Once r

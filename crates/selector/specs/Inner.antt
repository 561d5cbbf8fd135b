-- Terms of the laws and of the contracts inside the tree layer: nothing that a public contract cites.
--
-- Main definitions: `Listed`, `Distinct`, `Sound`, `depth`, `Holds`.
use Rattle.std.specs.Prelude.{◌*◌, ◌<◌, ◌≤◌, max, suc, ℕ, length, List, [], ◌∷◌, ◌⊎◌, ◌≡◌}
use Rattle.base.specs.Limits.{most_gates}
use Rattle.selector.specs.Gates.{constants_word, degree_of, gate_words}
use Rattle.selector.specs.Nodes.{gate_at, left_at, right_at}
use Rattle.selector.specs.Tree.{Tree, fork, leaf}

-- each gate of the list is below m
abbrev pub Listed : ℕ → List ℕ → Type 0
Listed m [] = Unit {0}
Listed m (g ∷ l) = (g < m) × Listed m l

abbrev pub Among : ℕ → List ℕ → Type 0
Among g [] = ⊥
Among g (h ∷ l) = (g ≡ h) ⊎ Among g l

-- no gate stands in the list twice
abbrev pub Distinct : List ℕ → Type 0
Distinct [] = Unit {0}
Distinct (g ∷ l) = (Among g l → ⊥) × Distinct l

-- the bounds that accepted records keep, where the lookup gate has x constants
pub record Sound (gs : List ℕ) (m x : ℕ) : Type 0 where
  pub all : m * gate_words ≤ length gs
  pub few : m ≤ most_gates
  pub degrees : (g : ℕ) → g < m → degree_of gs g ≤ 64
  pub constants : (g : ℕ) → g < m → constants_word gs g ≤ 16
  pub extra : x ≤ 1

-- the depth of the deepest leaf
abbrev pub depth : Tree → ℕ
depth (leaf g) = 0
depth (fork l r) = suc (max (depth l) (depth r))

-- the first n of the nodes hold the tree at node i
abbrev pub Holds : List ℕ → ℕ → ℕ → Tree → Type 0
Holds ns n i (leaf g) = (i < n) × (left_at ns i ≡ 0) × (gate_at ns i ≡ g)
Holds ns n i (fork l r) = (i < n) × (left_at ns i ≡ 0 → ⊥) × Holds ns n (left_at ns i) l × Holds ns n (right_at ns i) r

-- A walk over a tree that marks the gates that it meets and stops at the first that is unlisted or met twice: what the code's test for a made-up plan does.
-- `asked` is what the code asks of the walk in the end; `fit_by` says that it is 01's test.
--
-- Main definitions: `Walk`, `meet_all`, `Visited`, `asked`.
use Rattle.std.specs.Prelude.{◌+◌, ◌<◌, max, ℕ, eqb, ltb, get_or, replicate, set, Bool, false, true, List, ◌≡◌}
use Rattle.std.proofs.Math.Option.{Option, none, some}
use Rattle.base.specs.Pick.{pick}
use Rattle.selector.specs.Gates.{constants_of, degree_at}
use Rattle.selector.specs.MadeUp.{as_wanted, numbers_are}
use Rattle.selector.specs.Nodes.{left_at, right_at}
use Rattle.base.specs.Limits.{most_gates}
use Rattle.selector.specs.Tree.{Tree, fork, leaf}

-- marks, one a gate; whether nothing was wrong so far; the greatest degree at depth and constants plus depth so far
pub record Walk : Type 0 where
  pub marks : List ℕ
  pub fine : Bool
  pub degree : ℕ
  pub constants : ℕ

abbrev pub lost : Walk → Walk
lost w = record { marks = w.marks; fine = false; degree = w.degree; constants = w.constants }

-- gate g is marked, with its degree and its constants at depth
abbrev pub met : Walk → ℕ → ℕ → ℕ → Walk
met w g d c = record { marks = set w.marks g 1; fine = true; degree = max w.degree d; constants = max w.constants c }

-- a leaf is met
unfoldable pub meet : ℕ → List ℕ → ℕ → ℕ → ℕ → Walk → Walk
meet x gs m g d w =
    pick (ltb g m)
    (pick (eqb (get_or w.marks g 0) 0) (met w g (degree_at gs g d) (constants_of x gs g + d)) (lost w))
    (lost w)

unfoldable pub meet_all : ℕ → List ℕ → ℕ → Tree → ℕ → Walk → Walk
meet_all x gs m (leaf g) d w = meet x gs m g d w
meet_all x gs m (fork l r) d w = let a = meet_all x gs m l (d + 1) w in pick a.fine (meet_all x gs m r (d + 1) a) a

-- what a visit of a node leaves, by the tree that stands there
abbrev pub Visited : ℕ → List ℕ → ℕ → Option Tree → ℕ → Walk → Walk → Type 0
Visited x gs m none d w v = v.fine ≡ false
Visited x gs m (some t) d w v = v ≡ meet_all x gs m t d w

-- children stay within the n nodes
abbrev pub Links : List ℕ → ℕ → Type 0
Links ns n = (i : ℕ) → i < n → (left_at ns i ≡ 0 → ⊥) → (left_at ns i < n) × (right_at ns i < n)

-- a walk that has met nothing
abbrev pub nothing : Walk
nothing = record { marks = replicate most_gates 0; fine = true; degree = 0; constants = 0 }

-- what the code asks after the visit of node 0
abbrev pub asked : List ℕ → ℕ → ℕ → ℕ → ℕ → Walk → Bool
asked gs m d k f v =
    pick v.fine (pick (as_wanted m gs m (λ (g : ℕ). get_or v.marks g 0) 0)
    (numbers_are v.degree v.constants d k f) false) false

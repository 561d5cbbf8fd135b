-- The pass that lays a tree out in preorder: what is known at a node, and what a leaf and a fork leave.
--
-- Main statements: `sides`, `done_leaf`, `done_fork`, `found`, `found_room`, `laid_shape`.
use Prim.Native.Nat.{◌+◌, ◌-◌, ◌<◌, ◌≤◌, max, suc, ℕ}
use lib.ListN.{replicate}
use mathlib.Core.List.{List}
use mathlib.Core.Logic.{inl, inr}
use mathlib.Core.Option.{Option, none, some}
use mathlib.Core.Path.{◌∙◌, ◌≡◌, ap, refl}
use native.Mathlib.Omega.{arith}
use Rattle.selector.specs.Flat.{Stands, Stood}
use Rattle.selector.specs.Gates.{constants_of, degree_at}
use Rattle.selector.specs.Leaves.{In}
use Rattle.selector.specs.NodeLaws.{size-some as sized-some}
use Rattle.selector.specs.Nodes.{gate_at, laid, left_at, most_levels, most_nodes, node_slots, put, right_at}
use Rattle.selector.proofs.RecordLaws.{degree_small}
use Rattle.selector.specs.Search.{constants_over, degree_over, factor_of, tree_d, tree_k}
use Rattle.selector.specs.Inner.{depth, Holds, Sound}
use Rattle.selector.specs.Tree.{Tree, fork, leaf, size}
use Rattle.tree.specs.Layout.{Done, Room, walked}
use Rattle.tree.specs.Shapes.{shape_of}
use Rattle.tree.specs.declared.nodes.Shape.{Shape}
use Rattle.tree.specs.declared.nodes.Stats.{Stats}

-- the sides of the fork at node i
pub record Sides (m : ℕ) (old : List ℕ) (i f next : ℕ) : Type 0 where
  pub l : Tree
  pub r : Tree
  pub holds_l : Holds old most_nodes (left_at old i) l
  pub holds_r : Holds old most_nodes (right_at old i) r
  pub listed_l : (g : ℕ) → In g l → g < m
  pub listed_r : (g : ℕ) → In g r → g < m
  pub room : next + 1 + size l + size r ≤ most_nodes
  pub deep_l : suc (depth l) < f
  pub deep_r : suc (depth r) < f

module _ (m : ℕ) (old : List ℕ) (i f next : ℕ) where
  here_by : (t : Tree) → Holds old most_nodes i t → i < most_nodes
  here_by (leaf g) h = h.0
  here_by (fork l r) h = h.0

  pub room_here : Room m old i f next → i < most_nodes
  room_here w = here_by w.tree w.holds

  size-some : (t : Tree) → 0 < size t
  size-some (leaf g) = omega arith
  size-some (fork l r) = omega arith

  pub room_next : Room m old i f next → next < most_nodes
  room_next w = omega (arith, size-some w.tree, w.room)

  pub room_level : Room m old i f next → 0 < f
  room_level w = omega (arith, w.deep)

  gate_by : (t : Tree) → Holds old most_nodes i t → ((g : ℕ) → In g t → g < m) → left_at old i ≡ 0 → gate_at old i < m
  gate_by (leaf g) h k e = k (gate_at old i) h.2
  gate_by (fork l r) h k e = absurd (h.1 e)

  pub room_gate : Room m old i f next → left_at old i ≡ 0 → gate_at old i < m
  room_gate w e = gate_by w.tree w.holds w.listed e

  sides_by : (t : Tree) → Holds old most_nodes i t → ((g : ℕ) → In g t → g < m) → next + size t ≤ most_nodes → depth t < f → (left_at old i ≡ 0 → ⊥) → Sides m old i f next
  sides_by (leaf g) h k s d e = absurd (e h.1)
  sides_by (fork a b) h k s d e =
      record {
        l = a;
        r = b;
        holds_l = h.2;
        holds_r = h.3;
        listed_l = λ g z. k g (inl z);
        listed_r = λ g z. k g (inr z);
        room = omega arith;
        deep_l = omega arith;
        deep_r = omega arith;
      }

  pub sides : Room m old i f next → (left_at old i ≡ 0 → ⊥) → Sides m old i f next
  sides w e = sides_by w.tree w.holds w.listed w.room w.deep e

  pub room_left : Sides m old i f next → Room m old (left_at old i) (f - 1) (next + 1)
  room_left s = record { tree = s.l; holds = s.holds_l; listed = s.listed_l; room = omega (arith, s.room); deep = omega (arith, s.deep_l) }

  pub room_right : (s : Sides m old i f next) (after : ℕ) → after ≡ next + 1 + size s.l → Room m old (right_at old i) (f - 1) after
  room_right s after e = record { tree = s.r; holds = s.holds_r; listed = s.listed_r; room = omega (arith, s.room); deep = omega (arith, s.deep_r) }

module _ (x : ℕ) (gs old : List ℕ) (i d : ℕ) (s : Stats) (new : List ℕ) where
  pub done_leaf : (t : Tree) → Holds old most_nodes i t → left_at old i ≡ 0
      → Done x gs d t s new (put new s.next 0 0 (gate_at old i))
      (record { next = s.next + 1; degree = max s.degree (degree_at gs (gate_at old i) d); constants = max s.constants (constants_of x gs (gate_at old i) + d) })
  unfolding laid degree_over constants_over
  done_leaf (leaf g) h e = rw h.2 (record { nodes = refl; sums = refl })
  done_leaf (fork l r) h e = absurd (h.1 e)

  fork_sums : (l r : Tree) → walked x gs (d + 1) r (walked x gs (d + 1) l (record { next = s.next + 1; degree = s.degree; constants = s.constants }))
      ≡ walked x gs d (fork l r) s
  unfolding degree_over constants_over
  fork_sums l r =
      let n : s.next + 1 + size l + size r ≡ s.next + suc (size l + size r) = omega arith in
      let a : max (max s.degree (degree_over gs (d + 1) l)) (degree_over gs (d + 1) r) ≡ max s.degree (max (degree_over gs (d + 1) l) (degree_over gs (d + 1) r)) = omega arith in
      let b : max (max s.constants (constants_over x gs (d + 1) l)) (constants_over x gs (d + 1) r) ≡ max s.constants (max (constants_over x gs (d + 1) l) (constants_over x gs (d + 1) r)) = omega arith in
      rw (n, a, b)

  pub done_fork : (f : ℕ) (t : Tree) → Holds old most_nodes i t → depth t < f → (left_at old i ≡ 0 → ⊥) → (o₁ o₂ : List ℕ) (s₁ s₂ : Stats)
      → ((l : Tree) → Holds old most_nodes (left_at old i) l → depth l < f - 1
      → Done x gs (d + 1) l (record { next = s.next + 1; degree = s.degree; constants = s.constants }) new o₁ s₁)
      → ((r : Tree) → Holds old most_nodes (right_at old i) r → depth r < f - 1
      → Done x gs (d + 1) r s₁ (put o₁ s.next (s.next + 1) s₁.next 0) o₂ s₂)
      → Done x gs d t s new o₂ s₂
  unfolding laid
  done_fork f (leaf g) h k e o₁ o₂ s₁ s₂ p q = absurd (e h.1)
  done_fork f (fork l r) h k e o₁ o₂ s₁ s₂ p q =
      let a = p l h.2 (omega arith) in
      let b = q r h.3 (omega arith) in
      let n : s₁.next ≡ s.next + 1 + size l = ap (λ (z : Stats). z.next) a.sums in
      record {
        nodes = b.nodes ∙ rw (n, a.nodes);
        sums = b.sums ∙ ap (walked x gs (d + 1) r) a.sums ∙ fork_sums l r;
      }

pub holds_more : (ns : List ℕ) (n k i : ℕ) (t : Tree) → n ≤ k → Holds ns n i t → Holds ns k i t
holds_more ns n k i (leaf g) h (a, b, c) = (omega arith, b, c)
holds_more ns n k i (fork l r) h (a, b, x, y) =
    (omega arith, b, holds_more ns n k (left_at ns i) l h x, holds_more ns n k (right_at ns i) r h y)

pub degree_over-small : (gs : List ℕ) (m x : ℕ) → Sound gs m x → (t : Tree) (d : ℕ) → ((g : ℕ) → In g t → g < m) → degree_over gs d t ≤ d + depth t + 64
unfolding degree_over
degree_over-small gs m x s (leaf g) d h = omega (arith, degree_small gs m x s g d (h g refl))
degree_over-small gs m x s (fork l r) d h =
    omega (arith, degree_over-small gs m x s l (d + 1) (λ g z. h g (inl z)), degree_over-small gs m x s r (d + 1) (λ g z. h g (inr z)))

-- the tree that a count tells of
pub record Found (m : ℕ) (q : Option Tree) (ns : List ℕ) (n : ℕ) : Type 0 where
  pub tree : Tree
  pub is : q ≡ some tree
  pub stood : Stood m tree ns n
  pub whole : Holds ns most_nodes 0 tree
  pub shallow : depth tree < most_levels + 1

pub found : (m : ℕ) (q : Option Tree) (ns : List ℕ) (n : ℕ) → Stands m q ns n → (n ≡ 0 → ⊥) → Found m q ns n
found m none ns n h z = absurd (z h)
found m (some t) ns n h z = record { tree = t; is = refl; stood = h; whole = holds_more ns n most_nodes 0 t h.small h.holds; shallow = omega (arith, h.deep) }

pub found_room : (m : ℕ) (q : Option Tree) (ns : List ℕ) (n : ℕ) → Found m q ns n → Room m ns 0 (most_levels + 1) 0
found_room m q ns n w =
    let s = w.stood in
    record { tree = w.tree; holds = w.whole; listed = s.listed; room = omega (arith, s.sized, s.small); deep = w.shallow }

-- a tree that was found and laid out over zeros
module _ (x : ℕ) (gs : List ℕ) (m : ℕ) (q : Option Tree) (ns : List ℕ) (n : ℕ) (w : Found m q ns n) (out : List ℕ) (r : Stats) (done : Done x gs 0 w.tree (record { next = 0; degree = 0; constants = 0 }) (replicate node_slots 0) out r) where
  laid_degree : r.degree ≡ tree_d gs w.tree
  laid_degree = ap (λ (z : Stats). z.degree) done.sums ∙ omega arith

  pub laid-small : Sound gs m x → r.degree ≤ 1024
  laid-small s =
      let d = degree_over-small gs m x s w.tree 0 w.stood.listed in
      omega (arith, laid_degree, w.shallow, d)

  pub laid-some : 0 < r.next
  laid-some =
      let a : r.next ≡ size w.tree = ap (λ (z : Stats). z.next) done.sums ∙ omega arith in
      omega (arith, a, sized-some w.tree)

  pub laid_shape : (f : ℕ) → f ≡ factor_of r.degree
      → ◌≡◌ {A = Shape} (record { nodes = out; count = r.next; degree = r.degree; constants = r.constants; factor = f }) (shape_of x gs q)
  laid_shape f e =
      let a : r.next ≡ size w.tree = ap (λ (z : Stats). z.next) done.sums ∙ omega arith in
      let k : r.constants ≡ tree_k x gs w.tree = ap (λ (z : Stats). z.constants) done.sums ∙ omega arith in
      rw (w.is, e, laid_degree, a, k, done.nodes) refl

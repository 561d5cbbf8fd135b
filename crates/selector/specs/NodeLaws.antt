-- Node words: what a written node changes, and that the words of a tree in preorder hold the tree.
--
-- Main statements: `put-left`, `put-left_other` and the like, `laid-length`, `own_holds`, `decoded`, `own_tree` (the tree is read back), `tree_shallow`.
use Prim.Native.Nat.{◌*◌, ◌+◌, ◌-◌, ◌<◌, ◌≤◌, suc, zero, ℕ}
use borrow.Author.Tests.{eq-eqb, ne_eqb}
use Rattle.std.specs.Prelude.{eqb, length, set, Bool, false, true, List, ◌≡◌, refl}
use Rattle.std.proofs.Common.{length-set, get_or-set_other, get_or-set_same, ◌∙◌, ap, subst}
use Rattle.std.proofs.Math.Option.{Option, none, some}
use native.Mathlib.Omega.{arith}
use Rattle.base.specs.Pick.{pick}
use Rattle.selector.specs.Nodes.{both_sides, gate_at, laid, left_at, node_size, put, right_at, tree_at}
use Rattle.selector.specs.Inner.{depth, Holds}
use Rattle.selector.specs.Tree.{Tree, fork, leaf, size}

module _ (ns : List ℕ) (i l r g : ℕ) where
  pub length-put : length (put ns i l r g) ≡ length ns
  length-put = simp length-set

  pub put-left_other : (k : ℕ) → (k ≡ i → ⊥) → left_at (put ns i l r g) k ≡ left_at ns k
  put-left_other k h =
      get_or-set_other (set (set ns (i * node_size) l) (i * node_size + 1) r) (i * node_size + 2) (k * node_size) g 0 (omega arith)
      ∙ get_or-set_other (set ns (i * node_size) l) (i * node_size + 1) (k * node_size) r 0 (omega arith)
      ∙ get_or-set_other ns (i * node_size) (k * node_size) l 0 (omega arith)

  pub put_right_other : (k : ℕ) → (k ≡ i → ⊥) → right_at (put ns i l r g) k ≡ right_at ns k
  put_right_other k h =
      get_or-set_other (set (set ns (i * node_size) l) (i * node_size + 1) r) (i * node_size + 2) (k * node_size + 1) g 0 (omega arith)
      ∙ get_or-set_other (set ns (i * node_size) l) (i * node_size + 1) (k * node_size + 1) r 0 (omega arith)
      ∙ get_or-set_other ns (i * node_size) (k * node_size + 1) l 0 (omega arith)

  pub put_gate_other : (k : ℕ) → (k ≡ i → ⊥) → gate_at (put ns i l r g) k ≡ gate_at ns k
  put_gate_other k h =
      get_or-set_other (set (set ns (i * node_size) l) (i * node_size + 1) r) (i * node_size + 2) (k * node_size + 2) g 0 (omega arith)
      ∙ get_or-set_other (set ns (i * node_size) l) (i * node_size + 1) (k * node_size + 2) r 0 (omega arith)
      ∙ get_or-set_other ns (i * node_size) (k * node_size + 2) l 0 (omega arith)

  pub put-left : i * node_size + 2 < length ns → left_at (put ns i l r g) i ≡ l
  put-left h =
      get_or-set_other (set (set ns (i * node_size) l) (i * node_size + 1) r) (i * node_size + 2) (i * node_size) g 0 (omega arith)
      ∙ get_or-set_other (set ns (i * node_size) l) (i * node_size + 1) (i * node_size) r 0 (omega arith)
      ∙ get_or-set_same ns (i * node_size) l 0 (omega arith)

  pub put_right : i * node_size + 2 < length ns → right_at (put ns i l r g) i ≡ r
  put_right h =
      get_or-set_other (set (set ns (i * node_size) l) (i * node_size + 1) r) (i * node_size + 2) (i * node_size + 1) g 0 (omega arith)
      ∙ get_or-set_same (set ns (i * node_size) l) (i * node_size + 1) r 0 (simp length-set (omega arith))

  pub put_gate : i * node_size + 2 < length ns → gate_at (put ns i l r g) i ≡ g
  put_gate h = get_or-set_same (set (set ns (i * node_size) l) (i * node_size + 1) r) (i * node_size + 2) g 0 (simp length-set (omega arith))

-- node k has the same words in both
pub record Same (ns ms : List ℕ) (k : ℕ) : Type 0 where
  pub left : left_at ms k ≡ left_at ns k
  pub right : right_at ms k ≡ right_at ns k
  pub gate : gate_at ms k ≡ gate_at ns k

then : {ns ms os : List ℕ} {k : ℕ} → Same ns ms k → Same ms os k → Same ns os k
then a b = record { left = b.left ∙ a.left; right = b.right ∙ a.right; gate = b.gate ∙ a.gate }

put_same : (ns : List ℕ) (i l r g k : ℕ) → (k ≡ i → ⊥) → Same ns (put ns i l r g) k
put_same ns i l r g k h = record { left = put-left_other ns i l r g k h; right = put_right_other ns i l r g k h; gate = put_gate_other ns i l r g k h }

pub size-some : (t : Tree) → 0 < size t
size-some (leaf g) = omega arith
size-some (fork l r) = omega arith

pub laid-length : (t : Tree) (i : ℕ) (ns : List ℕ) → length (laid t i ns) ≡ length ns
unfolding laid
laid-length (leaf g) i ns = length-put ns i 0 0 g
laid-length (fork l r) i ns =
    laid-length r (i + 1 + size l) (put (laid l (i + 1) ns) i (i + 1) (i + 1 + size l) 0)
    ∙ length-put (laid l (i + 1) ns) i (i + 1) (i + 1 + size l) 0 ∙ laid-length l (i + 1) ns

laid-before : (t : Tree) (i : ℕ) (ns : List ℕ) (k : ℕ) → k < i → Same ns (laid t i ns) k
unfolding laid
laid-before (leaf g) i ns k h = put_same ns i 0 0 g k (omega arith)
laid-before (fork l r) i ns k h =
    then (laid-before l (i + 1) ns k (omega arith))
    (then (put_same (laid l (i + 1) ns) i (i + 1) (i + 1 + size l) 0 k (omega arith))
    (laid-before r (i + 1 + size l) (put (laid l (i + 1) ns) i (i + 1) (i + 1 + size l) 0) k (omega arith)))

-- a list that agrees with the laid out tree where it lies
abbrev pub Agrees : Tree → ℕ → List ℕ → List ℕ → Type 0
Agrees t i ns ms = (k : ℕ) → i ≤ k → k < i + size t → Same (laid t i ns) ms k

module _ (l r : Tree) (i : ℕ) (ns ms : List ℕ) (room : (i + size (fork l r)) * node_size ≤ length ns) (e : Agrees (fork l r) i ns ms) where
  j : ℕ
  j = i + 1 + size l

  abbrev pub mid : List ℕ
  mid = put (laid l (i + 1) ns) i (i + 1) (i + 1 + size l) 0

  long : length (laid l (i + 1) ns) ≡ length ns
  long = laid-length l (i + 1) ns

  pub left_agrees : Agrees l (i + 1) ns ms
  unfolding laid
  left_agrees k a b =
      then (put_same (laid l (i + 1) ns) i (i + 1) (i + 1 + size l) 0 k (omega arith))
      (then (laid-before r (i + 1 + size l) mid k b) (e k (omega arith) (omega arith)))

  pub right_agrees : Agrees r (i + 1 + size l) mid ms
  unfolding laid
  right_agrees k a b = e k (omega arith) (omega arith)

  root : Same mid ms i
  unfolding laid
  root = then (laid-before r (i + 1 + size l) mid i (omega arith)) (e i (omega arith) (omega arith))

  pub root_left : left_at ms i ≡ i + 1
  root_left = root.left ∙ put-left (laid l (i + 1) ns) i (i + 1) (i + 1 + size l) 0 (omega (arith, long))

  pub root_right : right_at ms i ≡ i + 1 + size l
  root_right = root.right ∙ put_right (laid l (i + 1) ns) i (i + 1) (i + 1 + size l) 0 (omega (arith, long))

  pub mid_room : (i + 1 + size l + size r) * node_size ≤ length mid
  mid_room = omega (arith, long, length-put (laid l (i + 1) ns) i (i + 1) (i + 1 + size l) 0)

laid_holds : (t : Tree) (i n : ℕ) (ns ms : List ℕ) → (i + size t) * node_size ≤ length ns → i + size t ≤ n → Agrees t i ns ms → Holds ms n i t
unfolding laid
laid_holds (leaf g) i n ns ms room h e =
    let s = e i (omega arith) (omega arith) in
    (omega arith, s.left ∙ put-left ns i 0 0 g (omega arith), s.gate ∙ put_gate ns i 0 0 g (omega arith))
laid_holds (fork l r) i n ns ms room h e =
    let a = root_left l r i ns ms room e in
    let b = root_right l r i ns ms room e in (
      omega arith,
      λ z. absurd (omega arith),
      rw a (laid_holds l (i + 1) n ns ms (omega arith) (omega arith) (left_agrees l r i ns ms room e)),
      rw b (laid_holds r (i + 1 + size l) n (mid l r i ns ms room e) ms (mid_room l r i ns ms room e) (omega arith) (right_agrees l r i ns ms room e)),
    )

decoded : (ns : List ℕ) (n : ℕ) (t : Tree) (f i : ℕ) → depth t < f → Holds ns n i t → tree_at f ns i ≡ some t
unfolding tree_at
decoded ns n t zero i h x = absurd (omega arith)
decoded ns n (leaf g) (suc f) i h (a, b, c) = rw (eq-eqb (left_at ns i) 0 b) (ap (λ (z : ℕ). some (leaf z)) c)
decoded ns n (fork l r) (suc f) i h (a, b, x, y) =
    rw (ne_eqb (left_at ns i) 0 b, decoded ns n l f (left_at ns i) (omega arith) x, decoded ns n r f (right_at ns i) (omega arith) y)

pub self_agrees : (t : Tree) (i : ℕ) (ns : List ℕ) → Agrees t i ns (laid t i ns)
self_agrees t i ns k a b = record { left = refl; right = refl; gate = refl }

module _ (t : Tree) (ns : List ℕ) (room : size t * node_size ≤ length ns) where
  pub own_holds : Holds (laid t 0 ns) (size t) 0 t
  own_holds = laid_holds t 0 (size t) ns (laid t 0 ns) (omega arith) (omega arith) (self_agrees t 0 ns)

  pub own_tree : (f : ℕ) → depth t < f → tree_at f (laid t 0 ns) 0 ≡ some t
  own_tree f h = decoded (laid t 0 ns) (size t) t f 0 h own_holds

-- the tree at a leaf, and at a fork
module _ (ns : List ℕ) (i : ℕ) where
  pub at_leaf : (f : ℕ) → 0 < f → left_at ns i ≡ 0 → tree_at f ns i ≡ some (leaf (gate_at ns i))
  unfolding tree_at
  at_leaf zero h e = absurd (omega arith)
  at_leaf (suc f) h e = rw (eq-eqb (left_at ns i) 0 e)

  pub at_fork : (f : ℕ) → 0 < f → (left_at ns i ≡ 0 → ⊥) → tree_at f ns i ≡ both_sides (tree_at (f - 1) ns (left_at ns i)) (tree_at (f - 1) ns (right_at ns i))
  unfolding tree_at
  at_fork zero h e = absurd (omega arith)
  at_fork (suc f) h e = let q : suc f - 1 ≡ f = omega arith in rw (q, ne_eqb (left_at ns i) 0 e)

-- a tree that is read in f levels is less than f deep
both_shallow : (q s : Option Tree) (f : ℕ) (t : Tree) → ((l : Tree) → q ≡ some l → depth l < f) → ((r : Tree) → s ≡ some r → depth r < f)
    → both_sides q s ≡ some t → depth t < suc f
both_shallow (some l) (some r) f t x y e =
    let k : fork l r ≡ t = cc in
    subst (λ (u : Tree). depth u < suc f) k (omega (arith, x l refl, y r refl))
both_shallow (some l) none f t x y e = let z : ◌≡◌ {A = ℕ} 0 1 = cc in absurd (omega arith)
both_shallow none s f t x y e = let z : ◌≡◌ {A = ℕ} 0 1 = cc in absurd (omega arith)

pub tree_shallow : (f : ℕ) (ns : List ℕ) (i : ℕ) (t : Tree) → tree_at f ns i ≡ some t → depth t < f
unfolding tree_at
tree_shallow zero ns i t e = let z : ◌≡◌ {A = ℕ} 0 1 = cc in absurd (omega arith)
tree_shallow (suc f) ns i t e = go (eqb (left_at ns i) 0) e (tree_shallow f ns (left_at ns i)) (tree_shallow f ns (right_at ns i))
  where
    go : (b : Bool) → pick b (some (leaf (gate_at ns i))) (both_sides (tree_at f ns (left_at ns i)) (tree_at f ns (right_at ns i))) ≡ some t
        → ((l : Tree) → tree_at f ns (left_at ns i) ≡ some l → depth l < f) → ((r : Tree) → tree_at f ns (right_at ns i) ≡ some r → depth r < f) → depth t < suc f
    go true k x y = let q : leaf (gate_at ns i) ≡ t = cc in subst (λ (u : Tree). depth u < suc f) q (omega arith)
    go false k x y = both_shallow (tree_at f ns (left_at ns i)) (tree_at f ns (right_at ns i)) f t x y k

-- Offers over node words: the equations of a turn, and the node words that a split leaves.
--
-- Main statements: `refused` (a refused offer leaves the nodes as they were), `node_leaf`, `node_fork` and the like, `implements` (the flat offer is the tree's).
use Prim.Native.Nat.{◌*◌, ◌+◌, ◌-◌, ◌<◌, ◌≤◌, suc, zero, ℕ}
use borrow.Author.Tests.{eq-eqb, ne_eqb}
use Rattle.std.specs.Prelude.{eqb, length, Bool, false, true, List, ◌⊎◌, ◌≡◌}
use Rattle.std.proofs.Math.Logic.{inl, ⊎_elim}
use Rattle.std.proofs.Common.{inr, ◌∙◌, ap, subst, sym}
use Rattle.std.proofs.Math.Option.{Option, none, some}
use Rattle.std.proofs.Math.Path.{refl}
use Rattle.std.proofs.Math.Decide.{dec_lt, ℕ_discrete}
use native.Mathlib.Omega.{arith}
use Rattle.base.specs.Pick.{pick}
use Rattle.selector.specs.Flat.{Fine, Placed, offer_fork, offer_leaf, offer_node, or_else, placed, split_flat}
use Rattle.selector.specs.Gates.{gate_words}
use Rattle.selector.specs.Leaves.{In, Once}
use Rattle.selector.specs.NodeLaws.{length-put, put_gate, put_gate_other, put-left, put-left_other, put_right, put_right_other}
use Rattle.selector.specs.Inner.{Holds}
use Rattle.selector.specs.Nodes.{gate_at, left_at, most_nodes, node_size, put, right_at}
use Rattle.selector.specs.Tree.{Tree, fork, leaf, offer, or_fork}

-- an offer leaves the nodes and the count, or adds two nodes
Outcome : List ℕ → ℕ → Placed → Type 0
Outcome ns n p = (p ≡ placed ns n) ⊎ (p.count ≡ n + 2)

outcome_pick : (ns : List ℕ) (n : ℕ) (t : Bool) (p q : Placed) → Outcome ns n p → Outcome ns n q → Outcome ns n (pick t p q)
outcome_pick ns n true p q a b = a
outcome_pick ns n false p q a b = b

module _ (fit : ℕ → ℕ → Bool) (g : ℕ) (ns : List ℕ) (n : ℕ) where
  outcome_leaf : (d i : ℕ) → Outcome ns n (offer_leaf fit g d i ns n)
  unfolding offer_leaf Outcome outcome_pick
  outcome_leaf d i =
      outcome_pick ns n (fit (gate_at ns i) (d + 1)) _ _
      (outcome_pick ns n (fit g (d + 1)) (placed (split_flat ns n i g) (n + 2)) _ (inr refl) (inl refl))
      (inl refl)

  outcome : (f d i : ℕ) → Outcome ns n (offer_node f fit g d i ns n)
  unfolding offer_node Outcome
  outcome zero d i = inl refl
  outcome (suc f) d i =
      outcome_pick ns n (eqb (left_at ns i) 0) _ _
      (outcome_leaf d i)
      (outcome_pick ns n (eqb (offer_node f fit g (d + 1) (left_at ns i) ns n).count n) _ _
      (outcome f (d + 1) (right_at ns i))
      (outcome f (d + 1) (left_at ns i)))

  -- a refused offer leaves the nodes as they were
  pub refused : (f d i : ℕ) → (offer_node f fit g d i ns n).count ≡ n → offer_node f fit g d i ns n ≡ placed ns n
  unfolding Outcome
  refused f d i e = ⊎_elim (λ p. p) (λ q. absurd (omega arith)) (outcome f d i)

  pub fork_left : (f d i : ℕ) → ((offer_node f fit g d (left_at ns i) ns n).count ≡ n → ⊥)
      → offer_fork f fit g d i ns n ≡ offer_node f fit g d (left_at ns i) ns n
  unfolding offer_fork
  fork_left f d i h = simp (ne_eqb _ _ h)

  pub fork_right : (f d i : ℕ) → (offer_node f fit g d (left_at ns i) ns n).count ≡ n
      → offer_fork f fit g d i ns n ≡ offer_node f fit g d (right_at ns i) ns n
  unfolding offer_fork
  fork_right f d i h = simp (eq-eqb _ _ h)

  pub node_none : (f d i : ℕ) → f ≡ 0 → offer_node f fit g d i ns n ≡ placed ns n
  unfolding offer_node
  node_none f d i e = rw e

  pub node_fork : (f d i : ℕ) → (f ≡ 0 → ⊥) → (left_at ns i ≡ 0 → ⊥)
      → offer_node f fit g d i ns n ≡ offer_fork (f - 1) fit g (d + 1) i ns n
  unfolding offer_node offer_fork
  node_fork zero d i h k = absurd (h refl)
  node_fork (suc f) d i h k =
      let e : suc f - 1 ≡ f = omega arith in
      rw (e, ne_eqb _ _ k)

  pub fork_sides : (f d i : ℕ) → (left_at ns i ≡ 0 → ⊥)
      → offer_node (suc f) fit g d i ns n ≡ or_else n (offer_node f fit g (d + 1) (left_at ns i) ns n) (offer_node f fit g (d + 1) (right_at ns i) ns n)
  unfolding offer_node
  fork_sides f d i k = simp (ne_eqb _ _ k)

  pub node_leaf : (f d i : ℕ) → (f ≡ 0 → ⊥) → left_at ns i ≡ 0 → offer_node f fit g d i ns n ≡ offer_leaf fit g d i ns n
  unfolding offer_node
  node_leaf zero d i h k = absurd (h refl)
  node_leaf (suc f) d i h k = rw (eq-eqb _ _ k)

  pub leaf_yes : (d i : ℕ) → fit (gate_at ns i) (d + 1) ≡ true → fit g (d + 1) ≡ true
      → offer_leaf fit g d i ns n ≡ placed (split_flat ns n i g) (n + 2)
  unfolding offer_leaf
  leaf_yes d i h k = simp (h, k)

  pub leaf_new : (d i : ℕ) → fit (gate_at ns i) (d + 1) ≡ true → fit g (d + 1) ≡ false
      → offer_leaf fit g d i ns n ≡ placed ns n
  unfolding offer_leaf
  leaf_new d i h k = simp (h, k)

  pub leaf_old : (d i : ℕ) → fit (gate_at ns i) (d + 1) ≡ false → offer_leaf fit g d i ns n ≡ placed ns n
  unfolding offer_leaf
  leaf_old d i h = simp h

-- the same at another node
pub fine_at : {gs ns : List ℕ} {n i g : ℕ} → Fine gs ns n i g → (j : ℕ) → j < n → Fine gs ns n j g
fine_at h j k = record { room = h.room; here = k; listed = h.listed; lefts = h.lefts; rights = h.rights; gates = h.gates }

pub fine_right : {gs ns : List ℕ} {n i g : ℕ} (l : List ℕ) → l ≡ ns → Fine gs ns n i g → Fine gs l n (right_at l i) g
fine_right {i = i} l e h = rw e (fine_at h _ (h.rights i h.here))

-- the nodes after a split of the leaf j
module _ (ns : List ℕ) (n j g : ℕ) (here : j < n) (room : (n + 2) * node_size ≤ length ns) where
  -- the nodes with the first, and with both new leaves
  abbrev pub one : List ℕ
  one = put ns n 0 0 (gate_at ns j)

  abbrev pub two : List ℕ
  two = put one (n + 1) 0 0 g

  pub length_two : length two ≡ length ns
  length_two = length-put one (n + 1) 0 0 g ∙ length-put ns n 0 0 (gate_at ns j)

  pub split-left_other : (k : ℕ) → k < n → (k ≡ j → ⊥) → left_at (split_flat ns n j g) k ≡ left_at ns k
  unfolding split_flat
  split-left_other k h e =
      put-left_other two j n (n + 1) 0 k e
      ∙ put-left_other one (n + 1) 0 0 g k (omega arith)
      ∙ put-left_other ns n 0 0 (gate_at ns j) k (omega arith)

  pub split_right_other : (k : ℕ) → k < n → (k ≡ j → ⊥) → right_at (split_flat ns n j g) k ≡ right_at ns k
  unfolding split_flat
  split_right_other k h e =
      put_right_other two j n (n + 1) 0 k e
      ∙ put_right_other one (n + 1) 0 0 g k (omega arith)
      ∙ put_right_other ns n 0 0 (gate_at ns j) k (omega arith)

  pub split_gate_other : (k : ℕ) → k < n → (k ≡ j → ⊥) → gate_at (split_flat ns n j g) k ≡ gate_at ns k
  unfolding split_flat
  split_gate_other k h e =
      put_gate_other two j n (n + 1) 0 k e
      ∙ put_gate_other one (n + 1) 0 0 g k (omega arith)
      ∙ put_gate_other ns n 0 0 (gate_at ns j) k (omega arith)

  pub split-left : left_at (split_flat ns n j g) j ≡ n
  unfolding split_flat
  split-left = put-left two j n (n + 1) 0 (omega (arith, length_two))

  pub split_gate : gate_at (split_flat ns n j g) j ≡ 0
  unfolding split_flat
  split_gate = put_gate two j n (n + 1) 0 (omega (arith, length_two))

  pub length-split : length (split_flat ns n j g) ≡ length ns
  unfolding split_flat
  length-split = length-put two j n (n + 1) 0 ∙ length_two

  pub old_right : right_at (split_flat ns n j g) n ≡ 0
  unfolding split_flat
  old_right = put_right_other two j n (n + 1) 0 n (omega arith) ∙ put_right_other one (n + 1) 0 0 g n (omega arith) ∙ put_right ns n 0 0 (gate_at ns j) (omega arith)

  pub new_right : right_at (split_flat ns n j g) (n + 1) ≡ 0
  unfolding split_flat
  new_right = put_right_other two j n (n + 1) 0 (n + 1) (omega arith) ∙ put_right one (n + 1) 0 0 g (omega (arith, length-put ns n 0 0 (gate_at ns j)))

  pub split_right : right_at (split_flat ns n j g) j ≡ n + 1
  unfolding split_flat
  split_right = put_right two j n (n + 1) 0 (omega (arith, length_two))

  -- the new leaves: the old gate, and the new one
  pub old-left : left_at (split_flat ns n j g) n ≡ 0
  unfolding split_flat
  old-left = put-left_other two j n (n + 1) 0 n (omega arith) ∙ put-left_other one (n + 1) 0 0 g n (omega arith) ∙ put-left ns n 0 0 (gate_at ns j) (omega arith)

  pub old_gate : gate_at (split_flat ns n j g) n ≡ gate_at ns j
  unfolding split_flat
  old_gate = put_gate_other two j n (n + 1) 0 n (omega arith) ∙ put_gate_other one (n + 1) 0 0 g n (omega arith) ∙ put_gate ns n 0 0 (gate_at ns j) (omega arith)

  pub new-left : left_at (split_flat ns n j g) (n + 1) ≡ 0
  unfolding split_flat
  new-left = put-left_other two j n (n + 1) 0 (n + 1) (omega arith) ∙ put-left one (n + 1) 0 0 g (omega (arith, length-put ns n 0 0 (gate_at ns j)))

  pub new_gate : gate_at (split_flat ns n j g) (n + 1) ≡ g
  unfolding split_flat
  new_gate = put_gate_other two j n (n + 1) 0 (n + 1) (omega arith) ∙ put_gate one (n + 1) 0 0 g (omega (arith, length-put ns n 0 0 (gate_at ns j)))

  -- a tree that has the leaf's gate nowhere keeps its meaning
  pub frame : (i : ℕ) (t : Tree) → left_at ns j ≡ 0 → (In (gate_at ns j) t → ⊥) → Holds ns n i t → Holds (split_flat ns n j g) (n + 2) i t
  frame i (leaf h) e out (a, b, c) =
      let apart : i ≡ j → ⊥ = λ z. out (ap (gate_at ns) (sym z) ∙ c) in
      (omega arith, split-left_other i a apart ∙ b, split_gate_other i a apart ∙ c)
  frame i (fork l r) e out (a, b, x, y) =
      let apart : i ≡ j → ⊥ = λ z. b (ap (left_at ns) z ∙ e) in (
        omega arith,
        λ z. b (sym (split-left_other i a apart) ∙ z),
        rw (split-left_other i a apart) (frame (left_at ns i) l e (λ w. out (inl w)) x),
        rw (split_right_other i a apart) (frame (right_at ns i) r e (λ w. out (inr w)) y),
      )

-- the flat nodes after a gate g was taken by the tree t at i, which then is u: the leaf at `spot` was split
pub record Grown (ns : List ℕ) (n i : ℕ) (t : Tree) (g : ℕ) (u : Tree) (p : Placed) : Type 0 where
  pub spot : ℕ
  pub inside : spot < n
  pub bare : left_at ns spot ≡ 0
  pub held : In (gate_at ns spot) t
  pub said : p ≡ placed (split_flat ns n spot g) (n + 2)
  pub holds : Holds (split_flat ns n spot g) (n + 2) i u

-- what the flat offer answers where the tree's offer answers q
abbrev pub Match : List ℕ → ℕ → ℕ → Tree → ℕ → Option Tree → Placed → Type 0
Match ns n i t g none p = p ≡ placed ns n
Match ns n i t g (some u) p = Grown ns n i t g u p

module _ (ns : List ℕ) (n g : ℕ) (room : (n + 2) * node_size ≤ length ns) where
  leaf_match : (i : ℕ) → i < n → left_at ns i ≡ 0 → (x y : Bool)
      → Match ns n i (leaf (gate_at ns i)) g
      (pick x (pick y (some (fork (leaf (gate_at ns i)) (leaf g))) none) none)
      (pick x (pick y (placed (split_flat ns n i g) (n + 2)) (placed ns n)) (placed ns n))
  leaf_match i h e true true =
      record {
        spot = i;
        inside = h;
        bare = e;
        held = refl;
        said = refl;
        holds = (
          omega arith,
          λ z. absurd (omega (arith, split-left ns n i g h room)),
          rw (split-left ns n i g h room) (omega arith, old-left ns n i g h room, old_gate ns n i g h room),
          rw (split_right ns n i g h room) (omega arith, new-left ns n i g h room, new_gate ns n i g h room),
        );
      }
  leaf_match i h e true false = refl
  leaf_match i h e false y = refl

  -- a fork's answer is that of the side that took the gate
  combine : (i : ℕ) (l r : Tree) → Once (fork l r) → Holds ns n i (fork l r) → (q s : Option Tree) (a b : Placed)
      → Match ns n (left_at ns i) l g q a → Match ns n (right_at ns i) r g s b
      → Match ns n i (fork l r) g (or_fork l r q s) (or_else n a b)
  combine i l r once held none none a b x y = simp (eq-eqb _ _ (ap (λ (p : Placed). p.count) x)) y
  combine i l r (apart, ol, orr) (h, e, hl, hr) none (some u) a b x y =
      let j = y.spot in
      let k : i ≡ j → ⊥ = λ z. e (ap (left_at ns) z ∙ y.bare) in
      record {
        spot = j;
        inside = y.inside;
        bare = y.bare;
        held = inr y.held;
        said = simp (eq-eqb _ _ (ap (λ (p : Placed). p.count) x)) y.said;
        holds = (
          omega arith,
          λ z. e (sym (split-left_other ns n j g y.inside room i h k) ∙ z),
          rw (split-left_other ns n j g y.inside room i h k)
              (frame ns n j g y.inside room (left_at ns i) l y.bare (λ w. apart _ w y.held) hl),
          rw (split_right_other ns n j g y.inside room i h k) y.holds,
        );
      }
  combine i l r (apart, ol, orr) (h, e, hl, hr) (some u) s a b x y =
      let j = x.spot in
      let k : i ≡ j → ⊥ = λ z. e (ap (left_at ns) z ∙ x.bare) in
      let m : a.count ≡ n → ⊥ = λ z. absurd (omega (arith, ap (λ (p : Placed). p.count) x.said)) in
      record {
        spot = j;
        inside = x.inside;
        bare = x.bare;
        held = inl x.held;
        said = simp (ne_eqb _ _ m) x.said;
        holds = (
          omega arith,
          λ z. e (sym (split-left_other ns n j g x.inside room i h k) ∙ z),
          rw (split-left_other ns n j g x.inside room i h k) x.holds,
          rw (split_right_other ns n j g x.inside room i h k)
              (frame ns n j g x.inside room (right_at ns i) r x.bare (λ w. apart _ x.held w) hr),
        );
      }

module _ (fit : ℕ → ℕ → Bool) (c g : ℕ) (full : (h d : ℕ) → c < d → fit h d ≡ false) (ns : List ℕ) (n : ℕ) where
  -- at the bound's depth nothing is taken
  too_deep : (t : Tree) (d : ℕ) → c ≤ d → offer fit g d t ≡ none
  unfolding offer
  too_deep (leaf h) d e = simp (full h (d + 1) (omega arith))
  too_deep (fork l r) d e = rw (too_deep l (d + 1) (omega arith), too_deep r (d + 1) (omega arith))

  at_zero : (t : Tree) (d i : ℕ) → c ≤ d → Match ns n i t g (offer fit g d t) (placed ns n)
  at_zero t d i e = rw (too_deep t d e) refl

  -- the level cut-off never changes an answer: the flat offer is the tree's, where the levels reach to the bound
  pub implements : (n + 2) * node_size ≤ length ns → (t : Tree) (f d i : ℕ) → Once t → c ≤ d + f → Holds ns n i t
      → Match ns n i t g (offer fit g d t) (offer_node f fit g d i ns n)
  unfolding offer offer_leaf
  implements room (leaf h) zero d i once e held = rw (node_none fit g ns n 0 d i refl) (at_zero (leaf h) d i (omega arith))
  implements room (leaf h) (suc f) d i once e (a, l, k) =
      rw (node_leaf fit g ns n (suc f) d i (λ z. absurd (omega arith)) l)
      (subst (λ (x : ℕ). Match ns n i (leaf x) g (offer fit g d (leaf x)) (offer_leaf fit g d i ns n)) k
      (leaf_match ns n g room i a l (fit (gate_at ns i) (d + 1)) (fit g (d + 1))))
  implements room (fork l r) zero d i once e held = rw (node_none fit g ns n 0 d i refl) (at_zero (fork l r) d i (omega arith))
  implements room (fork l r) (suc f) d i (apart, ol, orr) e (h, k, hl, hr) =
      rw (fork_sides fit g ns n f d i k)
      (combine ns n g room i l r (apart, ol, orr) (h, k, hl, hr) (offer fit g (d + 1) l) (offer fit g (d + 1) r)
      (offer_node f fit g (d + 1) (left_at ns i) ns n)
      (offer_node f fit g (d + 1) (right_at ns i) ns n)
      (implements room l f (d + 1) (left_at ns i) ol (omega arith) hl)
      (implements room r f (d + 1) (right_at ns i) orr (omega arith) hr))

-- an offer leaves the nodes and the count, or splits a node
abbrev pub Spot : List ℕ → ℕ → ℕ → Placed → Type 0
Spot ns n g p = (p ≡ placed ns n) ⊎ ((j : ℕ) × (j < n) × (p ≡ placed (split_flat ns n j g) (n + 2)))

spot_pick : (ns : List ℕ) (n g : ℕ) (t : Bool) (p q : Placed) → Spot ns n g p → Spot ns n g q → Spot ns n g (pick t p q)
spot_pick ns n g true p q a b = a
spot_pick ns n g false p q a b = b

module _ (fit : ℕ → ℕ → Bool) (g : ℕ) (gs ns : List ℕ) (n : ℕ) where
  spot_leaf : (d i : ℕ) → i < n → Spot ns n g (offer_leaf fit g d i ns n)
  unfolding offer_leaf
  spot_leaf d i h =
      spot_pick ns n g (fit (gate_at ns i) (d + 1)) _ _
      (spot_pick ns n g (fit g (d + 1)) (placed (split_flat ns n i g) (n + 2)) _ (inr (i, h, refl)) (inl refl))
      (inl refl)

  pub spot : (f d i : ℕ) → Fine gs ns n i g → Spot ns n g (offer_node f fit g d i ns n)
  unfolding offer_node
  spot zero d i h = inl refl
  spot (suc f) d i h =
      spot_pick ns n g (eqb (left_at ns i) 0) _ _
      (spot_leaf d i h.here)
      (spot_pick ns n g (eqb (offer_node f fit g (d + 1) (left_at ns i) ns n).count n) _ _
      (spot f (d + 1) (right_at ns i) (fine_at h _ (h.rights i h.here)))
      (spot f (d + 1) (left_at ns i) (fine_at h _ (h.lefts i h.here))))

-- where a node k stands after a split of j
data Which (n j k : ℕ) : Type 0 where
  split_one : k ≡ j → Which n j k
  as_before : k < n → (k ≡ j → ⊥) → Which n j k
  old-one : k ≡ n → Which n j k
  new-one : k ≡ n + 1 → Which n j k

which : (n j k : ℕ) → k < n + 2 → Dec (k ≡ j) → Dec (k < n) → Dec (k ≡ n) → Which n j k
which n j k h (yes a) b c = split_one a
which n j k h (no a) (yes b) c = as_before b a
which n j k h (no a) (no b) (yes c) = old-one c
which n j k h (no a) (no b) (no c) = new-one (omega arith)

module _ (gs ns : List ℕ) (n i g j x : ℕ) (fine : Fine gs ns n i g) (inside : j < n) (room : (n + 2) * node_size ≤ length ns) (listed : x * gate_words + 2 < length gs) where
  lefts_by : (k : ℕ) → Which n j k → left_at (split_flat ns n j x) k < n + 2
  lefts_by k (split_one e) = rw (e, split-left ns n j x inside room) (omega arith)
  lefts_by k (as_before a b) = rw (split-left_other ns n j x inside room k a b) (omega (arith, fine.lefts k a))
  lefts_by k (old-one e) = rw (e, old-left ns n j x inside room) (omega arith)
  lefts_by k (new-one e) = rw (e, new-left ns n j x inside room) (omega arith)

  rights_by : (k : ℕ) → Which n j k → right_at (split_flat ns n j x) k < n + 2
  rights_by k (split_one e) = rw (e, split_right ns n j x inside room) (omega arith)
  rights_by k (as_before a b) = rw (split_right_other ns n j x inside room k a b) (omega (arith, fine.rights k a))
  rights_by k (old-one e) = rw (e, old_right ns n j x inside room) (omega arith)
  rights_by k (new-one e) = rw (e, new_right ns n j x inside room) (omega arith)

  gates-by : (k : ℕ) → Which n j k → gate_at (split_flat ns n j x) k * gate_words + 2 < length gs
  gates-by k (split_one e) = rw (e, split_gate ns n j x inside room) (omega arith)
  gates-by k (as_before a b) = rw (split_gate_other ns n j x inside room k a b) (fine.gates k a)
  gates-by k (old-one e) = rw (e, old_gate ns n j x inside room) (fine.gates j inside)
  gates-by k (new-one e) = rw (e, new_gate ns n j x inside room) listed

  -- a split leaves the nodes fit for the next offer, y, to the node at the root
  pub fine_split : (y : ℕ) → n + 2 + 2 ≤ most_nodes → y * gate_words + 2 < length gs → Fine gs (split_flat ns n j x) (n + 2) 0 y
  fine_split y more next =
      record {
        room = more;
        here = omega arith;
        listed = next;
        lefts = λ k h. lefts_by k (which n j k h (ℕ_discrete k j) (dec_lt k n) (ℕ_discrete k n));
        rights = λ k h. rights_by k (which n j k h (ℕ_discrete k j) (dec_lt k n) (ℕ_discrete k n));
        gates = λ k h. gates-by k (which n j k h (ℕ_discrete k j) (dec_lt k n) (ℕ_discrete k n));
      }

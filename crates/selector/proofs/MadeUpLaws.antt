-- What a plan's nodes that pass the test are known to have, and that planning's own nodes pass it.
--
-- Main definition: `Sturdy`. Main statements: `sturdy`, `own_passes`, `links`, `tree-constants` (K is small), `unwanted` (which gates are dropped), `unwanted_bare` (they have no constants).
use Prim.Native.Nat.{◌*◌, ◌+◌, ◌-◌, ◌<◌, ◌≤◌, suc, zero, ℕ}
use borrow.Author.Tests.{eq-eqb, eqb-false, eqb-true, le-leb, leb-true, lt-ltb, ltb-true, ne_eqb}
use Rattle.std.specs.Prelude.{eqb, leb, ltb, length, replicate, Bool, List, ◌↔◌, ◌≢◌}
use Rattle.std.proofs.Math.Bool.{false, true}
use Rattle.std.proofs.Common.{inr, ◌∙◌, sym}
use Rattle.std.proofs.Math.Option.{Option, none, some}
use Rattle.std.proofs.Math.Path.{◌≡◌, refl, subst}
use Rattle.std.proofs.Math.Decide.{dec_lt, ℕ_discrete}
use native.Mathlib.Omega.{arith}
use Rattle.base.specs.Exponent.{exponent, exponent-least}
use Rattle.base.specs.Pick.{both, both_true, pick, pick_yes}
use Rattle.selector.specs.Gates.{constants_of, constants_word, degree_of, kind_of, placed_gates}
use Rattle.selector.specs.MadeUp.{all_listed, as_wanted, just_once, linked_at, linked_from, nodes_fit, numbers_are, numbers_fit, tree_fits, wanted}
use Rattle.selector.specs.NodeLaws.{Agrees, left_agrees, mid, mid_room, own_tree, put-left, put_right, right_agrees, root_left, root_right, self_agrees, size-some, tree_shallow}
use Rattle.selector.specs.Nodes.{laid, left_at, most_levels, most_nodes, node_size, node_slots, node_words, right_at, tree_at}
use Rattle.selector.proofs.RecordLaws.{constants-small, marker_bare, records-each, top-constants}
use Rattle.selector.specs.Refusals.{record_number, records_number}
use Rattle.selector.specs.Search.{constants_over, plan_tree, search_tree, tree_d, tree_f, tree_k}
use Rattle.selector.proofs.SearchLaws.{Searched, search_facts}
use Rattle.selector.specs.SortLaws.{leaf_other, leaf_self, length-placed, times, times_inside, times_outside}
use Rattle.selector.specs.Inner.{depth, Sound}
use Rattle.selector.specs.Tree.{Tree, fork, leaf, size, standing}
use Rattle.selector.specs.Walk.{Links}

-- a conjunction's parts
and_left : (a b : Bool) → both a b ≡ true → a ≡ true
and_left a b e = (both_true a b e).0

and_right : (a b : Bool) → both a b ≡ true → b ≡ true
and_right a b e = (both_true a b e).1

-- links
module _ (ns : List ℕ) (n : ℕ) where
  pub linked_step : (k i : ℕ) → 0 < k → linked_from k ns n i ≡ pick (linked_at ns n i) (linked_from (k - 1) ns n (i + 1)) false
  unfolding linked_from
  linked_step zero i h = absurd (omega arith)
  linked_step (suc k) i h = let e : suc k - 1 ≡ k = omega arith in rw e

  pub linked_begin : linked_from n ns n 0 ≡ linked_from (n - 0) ns n 0
  linked_begin = let e : n - 0 ≡ n = omega arith in rw e

  pub linked_in : (i : ℕ) → (left_at ns i ≡ 0 → ⊥) → i < left_at ns i → left_at ns i < n → i < right_at ns i → linked_at ns n i ≡ ltb (right_at ns i) n
  unfolding linked_at
  linked_in i e h k l = rw (ne_eqb (left_at ns i) 0 e, lt-ltb i (left_at ns i) h, lt-ltb (left_at ns i) n k, lt-ltb i (right_at ns i) l)

  pub linked_leaf : (i : ℕ) → left_at ns i ≡ 0 → linked_at ns n i ≡ eqb (right_at ns i) 0
  unfolding linked_at
  linked_leaf i e = rw (eq-eqb (left_at ns i) 0 e)

  pub linked_end : (k i : ℕ) → k ≤ 0 → linked_from k ns n i ≡ true
  unfolding linked_from
  linked_end k i h = let e : k ≡ 0 = omega arith in rw e

  each_linked : (k i j : ℕ) → linked_from k ns n i ≡ true → i ≤ j → j < i + k → linked_at ns n j ≡ true
  unfolding linked_from
  each_linked zero i j e h l = absurd (omega arith)
  each_linked (suc k) i j e h l = by (ℕ_discrete i j) (each_linked k (i + 1) j (and_right (linked_at ns n i) _ e))
    where
      by : Dec (i ≡ j) → (i + 1 ≤ j → j < i + 1 + k → linked_at ns n j ≡ true) → linked_at ns n j ≡ true
      by (yes q) more = subst (λ (z : ℕ). linked_at ns n z ≡ true) q (and_left (linked_at ns n i) _ e)
      by (no q) more = more (omega arith) (omega arith)

  within_by : (i : ℕ) → linked_at ns n i ≡ true → (left_at ns i ≡ 0 → ⊥) → (left_at ns i < n) × (right_at ns i < n)
  unfolding linked_at
  within_by i e h =
      let a = rw (ne_eqb (left_at ns i) 0 h) at e in
      let b = and_right (ltb i (left_at ns i)) _ a in
      let d = and_right (ltb (left_at ns i) n) _ b in
      (ltb-true (left_at ns i) n (and_left (ltb (left_at ns i) n) _ b), ltb-true (right_at ns i) n (and_right (ltb i (right_at ns i)) _ d))

  pub links : linked_from n ns n 0 ≡ true → Links ns n
  links e i h k = within_by i (each_linked n 0 i e (omega arith) (omega arith)) k

leaf_linked : (ms : List ℕ) (n k : ℕ) → left_at ms k ≡ 0 → right_at ms k ≡ 0 → linked_at ms n k ≡ true
unfolding linked_at
leaf_linked ms n k e f = rw (eq-eqb (left_at ms k) 0 e, eq-eqb (right_at ms k) 0 f)

laid_linked : (t : Tree) (i n : ℕ) (ns ms : List ℕ) → (i + size t) * node_size ≤ length ns → i + size t ≤ n → Agrees t i ns ms
    → (k : ℕ) → i ≤ k → k < i + size t → linked_at ms n k ≡ true
unfolding laid
laid_linked (leaf g) i n ns ms room h e k a b =
    let q : k ≡ i = omega arith in
    let w = e i (omega arith) (omega arith) in
    rw q (leaf_linked ms n i (w.left ∙ put-left ns i 0 0 g (omega arith)) (w.right ∙ put_right ns i 0 0 g (omega arith)))
laid_linked (fork l r) i n ns ms room h e k a b =
    by (ℕ_discrete k i) (dec_lt k (i + 1 + size l))
    (laid_linked l (i + 1) n ns ms (omega arith) (omega arith) (left_agrees l r i ns ms room e) k)
    (laid_linked r (i + 1 + size l) n (mid l r i ns ms room e) ms (mid_room l r i ns ms room e) (omega arith) (right_agrees l r i ns ms room e) k)
  where
    by : Dec (k ≡ i) → Dec (k < i + 1 + size l) → (i + 1 ≤ k → k < i + 1 + size l → linked_at ms n k ≡ true)
        → (i + 1 + size l ≤ k → k < i + 1 + size l + size r → linked_at ms n k ≡ true) → linked_at ms n k ≡ true
    by (yes q) d x y =
        let p = root_left l r i ns ms room e in
        let w = root_right l r i ns ms room e in
        let z = size-some r in
        rw q (linked_in ms n i (λ v. absurd (omega arith)) (omega arith) (omega arith) (omega arith) ∙ lt-ltb (right_at ms i) n (omega arith))
    by (no q) (yes d) x y = x (omega arith) d
    by (no q) (no d) x y = y (omega arith) (omega arith)

linked_all : (ns : List ℕ) (n k i : ℕ) → ((j : ℕ) → i ≤ j → j < i + k → linked_at ns n j ≡ true) → linked_from k ns n i ≡ true
unfolding linked_from
linked_all ns n zero i h = refl
linked_all ns n (suc k) i h =
    pick_yes (linked_at ns n i) (linked_from k ns n (i + 1)) false (h i (omega arith) (omega arith))
    ∙ linked_all ns n k (i + 1) (λ j a b. h j (omega arith) (omega arith))

module _ (t : Tree) (ns : List ℕ) (room : size t * node_size ≤ length ns) where
  own_linked : linked_from (size t) (laid t 0 ns) (size t) 0 ≡ true
  own_linked = linked_all (laid t 0 ns) (size t) (size t) 0 (λ k a b. laid_linked t 0 (size t) ns (laid t 0 ns) (omega arith) (omega arith) (self_agrees t 0 ns) k a b)

-- the leaves are listed, where only listed gates stand
listed_by : (m : ℕ) (t : Tree) → ((g : ℕ) → 0 < standing g t → g < m) → all_listed m t ≡ true
unfolding all_listed standing
listed_by m (leaf g) h = lt-ltb g m (h g (rw (leaf_self g) (omega arith)))
listed_by m (fork l r) h =
    pick_yes (all_listed m l) (all_listed m r) false (listed_by m l (λ g z. h g (omega arith))) ∙ listed_by m r (λ g z. h g (omega arith))

wanted_all : (gs : List ℕ) (m : ℕ) (a : ℕ → ℕ) (k g : ℕ) → ((h : ℕ) → g ≤ h → h < g + k → a h ≡ wanted gs m h) → as_wanted k gs m a g ≡ true
unfolding as_wanted
wanted_all gs m a zero g e = refl
wanted_all gs m a (suc k) g e =
    pick_yes (eqb (a g) (wanted gs m g)) (as_wanted k gs m a (g + 1)) false (eq-eqb (a g) (wanted gs m g) (e g (omega arith) (omega arith)))
    ∙ wanted_all gs m a k (g + 1) (λ h y z. e h (omega arith) (omega arith))

-- a plan that planning could have made: the nodes laid out, with D, K and F of the tree
module _ (gs : List ℕ) (m x : ℕ) where
  wanted-more : (h : ℕ) → (m ≡ 1 → ⊥) → wanted gs m h ≡ pick (eqb (kind_of gs h) 2) 0 1
  unfolding wanted
  wanted-more h e = rw (ne_eqb m 1 e)

  wanted-one : (h : ℕ) → m ≡ 1 → wanted gs m h ≡ 1
  unfolding wanted
  wanted-one h e = rw (eq-eqb m 1 e)

  once_by : (t : Tree) → ((g : ℕ) → 0 < standing g t → g < m) → ((h : ℕ) → h < m → standing h t ≡ wanted gs m h) → just_once gs m t ≡ true
  unfolding just_once
  once_by t a b =
      pick_yes (all_listed m t) (as_wanted m gs m (λ (g : ℕ). standing g t) 0) false (listed_by m t a)
      ∙ wanted_all gs m (λ (g : ℕ). standing g t) m 0 (λ h y z. b h (omega arith))

  numbers_own : (t : Tree) → numbers_fit x gs (tree_d gs t) (tree_k x gs t) (tree_f gs t) t ≡ true
  unfolding numbers_fit numbers_are
  numbers_own t = rw (eq-eqb (tree_d gs t) (tree_d gs t) refl, eq-eqb (tree_k x gs t) (tree_k x gs t) refl) (eq-eqb (tree_f gs t) (tree_f gs t) refl)

  own_by : (t : Tree) → size t ≤ most_nodes → depth t < most_levels → just_once gs m t ≡ true
      → nodes_fit x gs m (node_words t) (size t) (tree_d gs t) (tree_k x gs t) (tree_f gs t) ≡ true
  unfolding nodes_fit tree_fits
  own_by t s d j =
      rw (lt-ltb 0 (size t) (size-some t), le-leb (size t) most_nodes s, own_linked t (replicate node_slots 0) (omega arith), own_tree t (replicate node_slots 0) (omega arith) most_levels (omega arith), j)
      (numbers_own t)

  module _ (sound : Sound gs m x) where
    search_once : (t : Tree) → (m ≡ 1 → ⊥) → Searched x gs m t → just_once gs m t ≡ true
    search_once t more f =
        once_by t (λ g z. below g z (dec_lt g m)) (λ h y. count h ∙ times_inside gs h m 0 (omega arith) (omega arith) ∙ sym (wanted-more h more))
      where
        count : (h : ℕ) → standing h t ≡ times h (placed_gates gs m)
        count h = f.counts h

        below : (g : ℕ) → 0 < standing g t → Dec (g < m) → g < m
        below g z (yes h) = h
        below g z (no h) = absurd (omega (arith, count g, times_outside gs g m 0 (inr (omega arith))))

    lone_once : m ≡ 1 → just_once gs m (leaf 0) ≡ true
    lone_once e =
        once_by (leaf 0) (λ g z. below g z (ℕ_discrete g 0)) (λ h y. let q : h ≡ 0 = omega arith in rw q (leaf_self 0 ∙ sym (wanted-one 0 e)))
      where
        below : (g : ℕ) → 0 < standing g (leaf 0) → Dec (g ≡ 0) → g < m
        below g z (yes h) = omega arith
        below g z (no h) = absurd (omega (arith, leaf_other g 0 h))

    passes_by : (t : Tree) (b : Bool) → eqb m 1 ≡ b → pick b (some (leaf 0)) (search_tree x gs m) ≡ some t
        → nodes_fit x gs m (node_words t) (size t) (tree_d gs t) (tree_k x gs t) (tree_f gs t) ≡ true
    passes_by t true q e =
        let s : leaf 0 ≡ t = cc in
        subst (λ (u : Tree). nodes_fit x gs m (node_words u) (size u) (tree_d gs u) (tree_k x gs u) (tree_f gs u) ≡ true) s
        (own_by (leaf 0) (omega arith) (omega arith) (lone_once (eqb-true m 1 q)))
    passes_by t false q e =
        let f = search_facts gs m x t e in
        let l : exponent (length (placed_gates gs m)) ≤ 7 = exponent-least (length (placed_gates gs m)) 7 (omega (arith, length-placed x gs m 0, sound.few)) in
        own_by t (omega (arith, f.sized, length-placed x gs m 0, sound.few)) (omega (arith, f.deep, l, top-constants gs m x sound)) (search_once t (eqb-false m 1 q) f)

    -- planning's own plan passes
    pub own_passes : (t : Tree) → plan_tree x gs m ≡ some t
        → nodes_fit x gs m (node_words t) (size t) (tree_d gs t) (tree_k x gs t) (tree_f gs t) ≡ true
    unfolding plan_tree
    own_passes t e = passes_by t (eqb m 1) refl e

-- what a plan that passes is known to have
pub record Sturdy (x : ℕ) (gs : List ℕ) (m : ℕ) (ns : List ℕ) (n d k f : ℕ) : Type 0 where
  pub tree : Tree
  pub some_nodes : 0 < n
  pub few : n ≤ most_nodes
  pub linked : Links ns n
  pub is : tree_at most_levels ns 0 ≡ some tree
  pub deep : depth tree < most_levels
  pub listed : all_listed m tree ≡ true
  pub once : (g : ℕ) → g < m → standing g tree ≡ wanted gs m g
  pub most : k ≡ tree_k x gs tree
  pub top : d ≡ tree_d gs tree

each-wanted : (gs : List ℕ) (m : ℕ) (a : ℕ → ℕ) (k i g : ℕ) → as_wanted k gs m a i ≡ true → i ≤ g → g < i + k → a g ≡ wanted gs m g
unfolding as_wanted
each-wanted gs m a zero i g e h l = absurd (omega arith)
each-wanted gs m a (suc k) i g e h l = by (dec_lt i g) (each-wanted gs m a k (i + 1) g (and_right (eqb (a i) (wanted gs m i)) _ e))
  where
    by : Dec (i < g) → (i + 1 ≤ g → g < i + 1 + k → a g ≡ wanted gs m g) → a g ≡ wanted gs m g
    by (yes q) more = more (omega arith) (omega arith)
    by (no q) more =
        let s : i ≡ g = omega arith in
        subst (λ (z : ℕ). a z ≡ wanted gs m z) s (eqb-true (a i) (wanted gs m i) (and_left (eqb (a i) (wanted gs m i)) _ e))

module _ (x : ℕ) (gs : List ℕ) (m : ℕ) (ns : List ℕ) (n d k f : ℕ) where
  sturdy_by : (q : Option Tree) → tree_at most_levels ns 0 ≡ q → 0 < n → n ≤ most_nodes → Links ns n → tree_fits x gs m d k f q ≡ true → Sturdy x gs m ns n d k f
  unfolding tree_fits just_once numbers_fit numbers_are
  sturdy_by none e a b l t = let z : ◌≡◌ {A = ℕ} 0 1 = cc in absurd (omega arith)
  sturdy_by (some u) e a b l t =
      let j = and_left (just_once gs m u) _ t in
      let v = and_right (just_once gs m u) _ t in
      let w = and_right (eqb d (tree_d gs u)) _ v in
      record {
        tree = u;
        some_nodes = a;
        few = b;
        linked = l;
        is = e;
        deep = omega (arith, tree_shallow most_levels ns 0 u e);
        listed = and_left (all_listed m u) _ j;
        once = λ g h. each-wanted gs m (λ (y : ℕ). standing y u) m 0 g (and_right (all_listed m u) _ j) (omega arith) (omega arith);
        most = eqb-true k (tree_k x gs u) (and_left (eqb k (tree_k x gs u)) _ w);
        top = eqb-true d (tree_d gs u) (and_left (eqb d (tree_d gs u)) _ v);
      }

  pub sturdy : nodes_fit x gs m ns n d k f ≡ true → Sturdy x gs m ns n d k f
  unfolding nodes_fit
  sturdy e =
      let a = and_right (ltb 0 n) _ e in
      let b = and_right (leb n most_nodes) _ a in
      sturdy_by (tree_at most_levels ns 0) refl (ltb-true 0 n (and_left (ltb 0 n) _ e)) (leb-true n most_nodes (and_left (leb n most_nodes) _ a))
      (links ns n (and_left (linked_from n ns n 0) _ b)) (and_right (linked_from n ns n 0) _ b)

-- constants plus depth, where every leaf is a listed gate
pub tree-constants : (gs : List ℕ) (m x : ℕ) → Sound gs m x → (t : Tree) (d : ℕ) → all_listed m t ≡ true → constants_over x gs d t ≤ 16 + d + depth t
unfolding constants_over all_listed
tree-constants gs m x s (leaf g) d e = omega (arith, constants-small gs m x s g (ltb-true g m e))
tree-constants gs m x s (fork l r) d e =
    let b = both_true (all_listed m l) (all_listed m r) e in
    omega (arith, tree-constants gs m x s l (d + 1) b.0, tree-constants gs m x s r (d + 1) b.1)

-- how often a gate is wanted: once or not at all, and not at all where it is of kind 2 and not the only one
pub wanted_few : (gs : List ℕ) (m g : ℕ) → wanted gs m g ≤ 1
unfolding wanted
wanted_few gs m g = by (eqb m 1) (eqb (kind_of gs g) 2)
  where
    by : (s t : Bool) → pick s 1 (pick t 0 1) ≤ 1
    by true t = omega arith
    by false true = omega arith
    by false false = omega arith

pub unwanted : (gs : List ℕ) (m g : ℕ) → (wanted gs m g ≡ 0) ↔ ((m ≢ 1) × (kind_of gs g ≡ 2))
unfolding wanted
unwanted gs m g = (by (eqb m 1) (eqb (kind_of gs g) 2) refl refl, λ k. rw (ne_eqb m 1 k.0, eq-eqb (kind_of gs g) 2 k.1) refl)
  where
    by : (s t : Bool) → eqb m 1 ≡ s → eqb (kind_of gs g) 2 ≡ t → ◌≡◌ {A = ℕ} (pick s 1 (pick t 0 1)) 0 → (m ≢ 1) × (kind_of gs g ≡ 2)
    by true t l k z = absurd (omega arith)
    by false true l k z = (eqb-false m 1 l, eqb-true (kind_of gs g) 2 k)
    by false false l k z = absurd (omega arith)

pub unwanted_bare : (x : ℕ) (gs : List ℕ) (m g : ℕ) → records_number m gs 0 ≡ 0 → g < m → wanted gs m g ≡ 0 → constants_of x gs g ≡ 0
unfolding constants_of
unwanted_bare x gs m g e h w =
    let k = ((unwanted gs m g).0 w).1 in
    let z = subst (λ (y : ℕ). record_number y (degree_of gs g) (constants_word gs g) ≡ 0) k (records-each gs m 0 e g (omega arith) (omega arith)) in
    rw (ne_eqb (kind_of gs g) 3 (omega arith)) (marker_bare (degree_of gs g) (constants_word gs g) z)

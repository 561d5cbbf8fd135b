-- The walk with marks is 01's test for a made-up plan: it goes through exactly where every leaf is listed and met once, and finds D and K.
--
-- Main statements: `visit_leaf`, `visit_stop`, `visit_go` (a visit's turn), `fit_by` (what is asked in the end is `nodes_fit`), `fit_none`, `fit_many`, `fit_unlinked`.
use Prim.Native.Nat.{◌+◌, ◌-◌, ◌<◌, ◌≤◌, max, suc, zero, ℕ}
use borrow.Author.Tests.{eq-eqb, le-leb, le-ltb, lt-leb, lt-ltb, ne_eqb}
use Rattle.std.specs.Prelude.{eqb, leb, ltb, set, Bool, List, ◌⊎◌}
use Rattle.std.proofs.Math.ListN.{get_or, get_or-replicate, length, length-set}
use Rattle.std.proofs.Math.Seq.{get_or-set_other, get_or-set_same}
use Rattle.std.proofs.Math.Bool.{false, true}
use Rattle.std.proofs.Math.Logic.{inl, inr, ⊎_elim}
use Rattle.std.proofs.Math.Option.{Option, none, some}
use Rattle.std.proofs.Common.{◌∙◌, subst}
use Rattle.std.proofs.Math.Path.{◌≡◌, ap, refl, sym}
use Rattle.std.proofs.Math.Decide.{dec_lt, ℕ_discrete}
use native.Mathlib.Omega.{arith}
use Rattle.base.specs.Pick.{both, pick, pick_no, pick_yes}
use Rattle.selector.specs.Gates.{constants_of, degree_at}
use Rattle.selector.proofs.MadeUpLaws.{wanted_few}
use Rattle.selector.specs.MadeUp.{all_listed, as_wanted, just_once, linked_from, nodes_fit, numbers_are, numbers_fit, tree_fits, wanted}
use Rattle.selector.specs.NodeLaws.{at_fork, at_leaf}
use Rattle.selector.specs.Nodes.{both_sides, gate_at, left_at, most_levels, most_nodes, right_at, tree_at}
use Rattle.base.specs.Limits.{most_gates}
use Rattle.selector.specs.Search.{constants_over, degree_over, tree_d, tree_k}
use Rattle.selector.specs.Tree.{Tree, fork, leaf, standing}
use Rattle.selector.specs.Walk.{Visited, Walk, asked, lost, meet, meet_all, met, nothing}

and-not : (a b : Bool) → b ≡ false → both a b ≡ false
and-not true b e = e
and-not false b e = refl

module _ (x : ℕ) (gs : List ℕ) (m : ℕ) where
  pub meet_far : (g d : ℕ) (w : Walk) → m ≤ g → meet x gs m g d w ≡ lost w
  unfolding meet
  meet_far g d w h = rw (le-ltb g m h)

  pub meet_twice : (g d : ℕ) (w : Walk) → g < m → (get_or w.marks g 0 ≡ 0 → ⊥) → meet x gs m g d w ≡ lost w
  unfolding meet
  meet_twice g d w h e = rw (lt-ltb g m h, ne_eqb (get_or w.marks g 0) 0 e)

  pub meet-new : (g d : ℕ) (w : Walk) → g < m → get_or w.marks g 0 ≡ 0
      → meet x gs m g d w ≡ met w g (degree_at gs g d) (constants_of x gs g + d)
  unfolding meet
  meet-new g d w h e = rw (lt-ltb g m h, eq-eqb (get_or w.marks g 0) 0 e)

  module _ (ns : List ℕ) (i d : ℕ) (w : Walk) where
    pub visit_none : (f : ℕ) (v : Walk) → f ≡ 0 → v.fine ≡ false → Visited x gs m (tree_at f ns i) d w v
    unfolding tree_at
    visit_none f v e q = rw e q

    pub visit_leaf : (f : ℕ) (v : Walk) → 0 < f → left_at ns i ≡ 0 → v ≡ meet x gs m (gate_at ns i) d w → Visited x gs m (tree_at f ns i) d w v
    unfolding meet_all
    visit_leaf f v h e q = rw (at_leaf ns i f h e) q

    stop_by : (q s : Option Tree) (v : Walk) → Visited x gs m q (d + 1) w v → v.fine ≡ false → Visited x gs m (both_sides q s) d w v
    unfolding meet_all
    stop_by none s v h e = e
    stop_by (some l) none v h e = e
    stop_by (some l) (some r) v h e = let k : (meet_all x gs m l (d + 1) w).fine ≡ false = ap (λ (z : Walk). z.fine) (sym h) ∙ e in
        h ∙ sym (pick_no (meet_all x gs m l (d + 1) w).fine (meet_all x gs m r (d + 1) (meet_all x gs m l (d + 1) w)) (meet_all x gs m l (d + 1) w) k)

    go_by : (q s : Option Tree) (u v : Walk) → Visited x gs m q (d + 1) w u → u.fine ≡ true → Visited x gs m s (d + 1) u v → Visited x gs m (both_sides q s) d w v
    unfolding meet_all
    go_by none s u v h e k = let z : ◌≡◌ {A = ℕ} 0 1 = cc in absurd (omega arith)
    go_by (some l) none u v h e k = k
    go_by (some l) (some r) u v h e k =
        let j : (meet_all x gs m l (d + 1) w).fine ≡ true = ap (λ (z : Walk). z.fine) (sym h) ∙ e in
        k ∙ ap (meet_all x gs m r (d + 1)) h ∙ sym (pick_yes (meet_all x gs m l (d + 1) w).fine (meet_all x gs m r (d + 1) (meet_all x gs m l (d + 1) w)) (meet_all x gs m l (d + 1) w) j)

    pub visit_stop : (f : ℕ) (v : Walk) → 0 < f → (left_at ns i ≡ 0 → ⊥) → Visited x gs m (tree_at (f - 1) ns (left_at ns i)) (d + 1) w v → v.fine ≡ false
        → Visited x gs m (tree_at f ns i) d w v
    visit_stop f v h e k q = rw (at_fork ns i f h e) (stop_by (tree_at (f - 1) ns (left_at ns i)) (tree_at (f - 1) ns (right_at ns i)) v k q)

    pub visit_go : (f : ℕ) (u v : Walk) → 0 < f → (left_at ns i ≡ 0 → ⊥) → Visited x gs m (tree_at (f - 1) ns (left_at ns i)) (d + 1) w u → u.fine ≡ true
        → Visited x gs m (tree_at (f - 1) ns (right_at ns i)) (d + 1) u v → Visited x gs m (tree_at f ns i) d w v
    visit_go f u v h e k q j = rw (at_fork ns i f h e) (go_by (tree_at (f - 1) ns (left_at ns i)) (tree_at (f - 1) ns (right_at ns i)) u v k q j)

-- the walk from a state whose marks are the counts c
module _ (x : ℕ) (gs : List ℕ) (m : ℕ) (few : m ≤ most_gates) where
  pub record Good (c : ℕ → ℕ) (t : Tree) (d : ℕ) (w v : Walk) : Type 0 where
    pub listed : all_listed m t ≡ true
    pub marks : (g : ℕ) → g < m → get_or v.marks g 0 ≡ c g + standing g t
    pub long : length v.marks ≡ most_gates
    pub fine : v.fine ≡ true
    pub degree : v.degree ≡ max w.degree (degree_over gs d t)
    pub constants : v.constants ≡ max w.constants (constants_over x gs d t)

  pub record Bad (c : ℕ → ℕ) (t : Tree) (v : Walk) : Type 0 where
    pub fine : v.fine ≡ false
    pub cause : (all_listed m t ≡ false) ⊎ ((g : ℕ) × (g < m) × (2 ≤ c g + standing g t))

  self : (g : ℕ) → standing g (leaf g) ≡ 1
  unfolding standing
  self g = rw (eq-eqb g g refl)

  other : (g h : ℕ) → (h ≡ g → ⊥) → standing h (leaf g) ≡ 0
  unfolding standing
  other g h e = rw (ne_eqb h g e)

  unlisted : (g : ℕ) → m ≤ g → all_listed m (leaf g) ≡ false
  unfolding all_listed
  unlisted g h = le-ltb g m h

  enlisted : (g : ℕ) → g < m → all_listed m (leaf g) ≡ true
  unfolding all_listed
  enlisted g h = lt-ltb g m h

  leaf_good : (c : ℕ → ℕ) (g d : ℕ) (w : Walk) → ((h : ℕ) → h < m → get_or w.marks h 0 ≡ c h) → length w.marks ≡ most_gates → g < m → get_or w.marks g 0 ≡ 0
      → (v : Walk) → v ≡ met w g (degree_at gs g d) (constants_of x gs g + d)
      → Good c (leaf g) d w v
  unfolding degree_over constants_over
  leaf_good c g d w mk long h z v e =
      record {
        listed = enlisted g h;
        marks = λ k j. ap (λ (y : Walk). get_or y.marks k 0) e ∙ at k j (ℕ_discrete k g);
        long = ap (λ (y : Walk). length y.marks) e ∙ length-set w.marks g 1 ∙ long;
        fine = ap (λ (y : Walk). y.fine) e;
        degree = ap (λ (y : Walk). y.degree) e;
        constants = ap (λ (y : Walk). y.constants) e;
      }
    where
      at : (k : ℕ) → k < m → Dec (k ≡ g) → get_or (set w.marks g 1) k 0 ≡ c k + standing k (leaf g)
      at k j (yes q) = rw (q, get_or-set_same w.marks g 1 0 (omega arith)) (omega (arith, self g, mk g h))
      at k j (no q) = get_or-set_other w.marks g k 1 0 q ∙ omega (arith, other g k q, mk k j)

  leaf_by : (c : ℕ → ℕ) (g d : ℕ) (w : Walk) → ((h : ℕ) → h < m → get_or w.marks h 0 ≡ c h) → length w.marks ≡ most_gates → Dec (g < m) → Dec (get_or w.marks g 0 ≡ 0)
      → Good c (leaf g) d w (meet x gs m g d w) ⊎ Bad c (leaf g) (meet x gs m g d w)
  leaf_by c g d w mk long (no h) q =
      inr (record { fine = ap (λ (y : Walk). y.fine) (meet_far x gs m g d w (omega arith)); cause = inl (unlisted g (omega arith)) })
  leaf_by c g d w mk long (yes h) (no q) =
      inr (record { fine = ap (λ (y : Walk). y.fine) (meet_twice x gs m g d w h q); cause = inr (g, h, omega (arith, self g, mk g h)) })
  leaf_by c g d w mk long (yes h) (yes q) = inl (leaf_good c g d w mk long h q (meet x gs m g d w) (meet-new x gs m g d w h q))

  fork_on : (c : ℕ → ℕ) (l r : Tree) (d : ℕ) (w u v : Walk) → Good c l (d + 1) w u → Good (λ (g : ℕ). c g + standing g l) r (d + 1) u v → Good c (fork l r) d w v
  unfolding all_listed standing degree_over constants_over
  fork_on c l r d w u v a b =
      record {
        listed = pick_yes (all_listed m l) (all_listed m r) false a.listed ∙ b.listed;
        marks = λ g h. b.marks g h ∙ omega arith;
        long = b.long;
        fine = b.fine;
        degree = omega (arith, a.degree, b.degree);
        constants = omega (arith, a.constants, b.constants);
      }

  fork_off : (c : ℕ → ℕ) (l r : Tree) (d : ℕ) (w u v : Walk) → Good c l (d + 1) w u → Bad (λ (g : ℕ). c g + standing g l) r v → Bad c (fork l r) v
  unfolding all_listed standing
  fork_off c l r d w u v a b =
      record { fine = b.fine; cause = ⊎_elim (λ e. inl (and-not (all_listed m l) (all_listed m r) e)) (λ q. inr (q.0, q.1, omega (arith, q.2))) b.cause }

  fork_stop : (c : ℕ → ℕ) (l r : Tree) (v : Walk) → Bad c l v → Bad c (fork l r) v
  unfolding all_listed standing
  fork_stop c l r v b =
      record { fine = b.fine; cause = ⊎_elim (λ e. inl (pick_no (all_listed m l) (all_listed m r) false e)) (λ q. inr (q.0, q.1, omega (arith, q.2))) b.cause }

  pub outcome : (t : Tree) (c : ℕ → ℕ) (d : ℕ) (w : Walk) → ((g : ℕ) → g < m → get_or w.marks g 0 ≡ c g) → length w.marks ≡ most_gates
      → Good c t d w (meet_all x gs m t d w) ⊎ Bad c t (meet_all x gs m t d w)
  unfolding meet_all
  outcome (leaf g) c d w mk long = leaf_by c g d w mk long (dec_lt g m) (ℕ_discrete (get_or w.marks g 0) 0)
  outcome (fork l r) c d w mk long =
      by (outcome l c (d + 1) w mk long) (λ h k. outcome r (λ (g : ℕ). c g + standing g l) (d + 1) (meet_all x gs m l (d + 1) w) h k)
    where
      u : Walk
      u = meet_all x gs m l (d + 1) w

      v : Walk
      v = pick u.fine (meet_all x gs m r (d + 1) u) u

      on : Good c l (d + 1) w u → Good (λ (g : ℕ). c g + standing g l) r (d + 1) u (meet_all x gs m r (d + 1) u) ⊎ Bad (λ (g : ℕ). c g + standing g l) r (meet_all x gs m r (d + 1) u)
          → Good c (fork l r) d w v ⊎ Bad c (fork l r) v
      on a q =
          let e : v ≡ meet_all x gs m r (d + 1) u = pick_yes u.fine (meet_all x gs m r (d + 1) u) u a.fine in
          ⊎_elim (λ b. inl (subst (λ (y : Walk). Good c (fork l r) d w y) (sym e) (fork_on c l r d w u (meet_all x gs m r (d + 1) u) a b)))
          (λ b. inr (subst (λ (y : Walk). Bad c (fork l r) y) (sym e) (fork_off c l r d w u (meet_all x gs m r (d + 1) u) a b))) q

      by : Good c l (d + 1) w u ⊎ Bad c l u
          → (((g : ℕ) → g < m → get_or u.marks g 0 ≡ c g + standing g l) → length u.marks ≡ most_gates
          → Good (λ (g : ℕ). c g + standing g l) r (d + 1) u (meet_all x gs m r (d + 1) u) ⊎ Bad (λ (g : ℕ). c g + standing g l) r (meet_all x gs m r (d + 1) u))
          → Good c (fork l r) d w v ⊎ Bad c (fork l r) v
      by (inl a) more = on a (more a.marks a.long)
      by (inr b) more =
          let e : v ≡ u = pick_no u.fine (meet_all x gs m r (d + 1) u) u b.fine in
          inr (subst (λ (y : Walk). Bad c (fork l r) y) (sym e) (fork_stop c l r u b))

-- gates as wanted
module _ (gs : List ℕ) (m : ℕ) where
  pub wanted_step : (c : ℕ → ℕ) (k g : ℕ) → 0 < k → as_wanted k gs m c g ≡ pick (eqb (c g) (wanted gs m g)) (as_wanted (k - 1) gs m c (g + 1)) false
  unfolding as_wanted
  wanted_step c zero g h = absurd (omega arith)
  wanted_step c (suc k) g h = let e : suc k - 1 ≡ k = omega arith in rw e

  pub wanted_begin : (c : ℕ → ℕ) → as_wanted m gs m c 0 ≡ as_wanted (m - 0) gs m c 0
  wanted_begin c = let e : m - 0 ≡ m = omega arith in rw e

  pub wanted-end : (c : ℕ → ℕ) (k g : ℕ) → k ≤ 0 → as_wanted k gs m c g ≡ true
  unfolding as_wanted
  wanted-end c k g h = let e : k ≡ 0 = omega arith in rw e

  wanted_same : (a b : ℕ → ℕ) (k g : ℕ) → ((h : ℕ) → h < g + k → a h ≡ b h) → as_wanted k gs m a g ≡ as_wanted k gs m b g
  unfolding as_wanted
  wanted_same a b zero g e = refl
  wanted_same a b (suc k) g e = rw (e g (omega arith), wanted_same a b k (g + 1) (λ h l. e h (omega arith)))

  wanted-not : (a : ℕ → ℕ) (k i g : ℕ) → i ≤ g → g < i + k → 2 ≤ a g → as_wanted k gs m a i ≡ false
  unfolding as_wanted
  wanted-not a zero i g h l e = absurd (omega arith)
  wanted-not a (suc k) i g h l e = by (ℕ_discrete i g) (wanted-not a k (i + 1) g)
    where
      by : Dec (i ≡ g) → (i + 1 ≤ g → g < i + 1 + k → 2 ≤ a g → as_wanted k gs m a (i + 1) ≡ false)
          → pick (eqb (a i) (wanted gs m i)) (as_wanted k gs m a (i + 1)) false ≡ false
      by (yes q) more =
          let n : a i ≡ a g = ap a q in
          pick_no (eqb (a i) (wanted gs m i)) (as_wanted k gs m a (i + 1)) false (ne_eqb (a i) (wanted gs m i) (λ z. absurd (omega (arith, wanted_few gs m i))))
      by (no q) more = and-not (eqb (a i) (wanted gs m i)) (as_wanted k gs m a (i + 1)) (more (omega arith) (omega arith) e)

  module _ (x : ℕ) (few : m ≤ most_gates) where
    pub once_good : (t : Tree) (d : ℕ) (w v : Walk) → Good x gs m few (λ (g : ℕ). 0) t d w v → just_once gs m t ≡ as_wanted m gs m (λ (g : ℕ). get_or v.marks g 0) 0
    unfolding just_once
    once_good t d w v a =
        pick_yes (all_listed m t) (as_wanted m gs m (λ (g : ℕ). standing g t) 0) false a.listed
        ∙ wanted_same (λ (g : ℕ). standing g t) (λ (g : ℕ). get_or v.marks g 0) m 0 (λ h l. sym (a.marks h (omega arith) ∙ omega arith))

    pub once_bad : (t : Tree) (v : Walk) → Bad x gs m few (λ (g : ℕ). 0) t v → just_once gs m t ≡ false
    unfolding just_once
    once_bad t v b =
        ⊎_elim (λ e. pick_no (all_listed m t) (as_wanted m gs m (λ (g : ℕ). standing g t) 0) false e)
        (λ q. and-not (all_listed m t) (as_wanted m gs m (λ (g : ℕ). standing g t) 0) (wanted-not (λ (g : ℕ). standing g t) m 0 q.0 (omega arith) (omega (arith, q.1)) (omega (arith, q.2))))
        b.cause

-- the whole test, after the visit of node 0 from nothing marked
module _ (x : ℕ) (gs : List ℕ) (m : ℕ) (few : m ≤ most_gates) (d k f : ℕ) where
  tree-asked : (t : Tree) (v : Walk) → Good x gs m few (λ (g : ℕ). 0) t 0 nothing v ⊎ Bad x gs m few (λ (g : ℕ). 0) t v
      → tree_fits x gs m d k f (some t) ≡ asked gs m d k f v
  unfolding tree_fits numbers_fit
  tree-asked t v (inr b) =
      pick_no (just_once gs m t) (numbers_fit x gs d k f t) false (once_bad gs m x few t v b)
      ∙ sym (pick_no v.fine _ false b.fine)
  tree-asked t v (inl a) =
      let e = once_good gs m x few t 0 nothing v a in
      let p : tree_d gs t ≡ v.degree = sym (a.degree ∙ omega arith) in
      let q : tree_k x gs t ≡ v.constants = sym (a.constants ∙ omega arith) in
      rw (e, p, q) (sym (pick_yes v.fine (pick (as_wanted m gs m (λ (g : ℕ). get_or v.marks g 0) 0)
      (numbers_are v.degree v.constants d k f) false) false a.fine))

  pub fits_asked : (q : Option Tree) (v : Walk) → Visited x gs m q 0 nothing v → tree_fits x gs m d k f q ≡ asked gs m d k f v
  unfolding tree_fits
  fits_asked none v h = sym (pick_no v.fine _ false h)
  fits_asked (some t) v h =
      rw h (tree-asked t (meet_all x gs m t 0 nothing)
      (outcome x gs m few t (λ (g : ℕ). 0) 0 nothing (λ g l. get_or-replicate most_gates g 0 0 (omega arith)) refl))

-- the code's ways out
module _ (x : ℕ) (gs : List ℕ) (m : ℕ) (ns : List ℕ) (n d k f : ℕ) where
  pub fit_none : n ≡ 0 → nodes_fit x gs m ns n d k f ≡ false
  unfolding nodes_fit
  fit_none h = rw (le-ltb 0 n (omega arith))

  pub fit_many : most_nodes < n → nodes_fit x gs m ns n d k f ≡ false
  unfolding nodes_fit
  fit_many h = and-not (ltb 0 n) _ (rw (lt-leb n most_nodes h))

  pub fit_unlinked : linked_from n ns n 0 ≡ false → nodes_fit x gs m ns n d k f ≡ false
  unfolding nodes_fit
  fit_unlinked h = and-not (ltb 0 n) _ (and-not (leb n most_nodes) _ (pick_no (linked_from n ns n 0) _ false h))

  pub fit_by : (few : m ≤ most_gates) (v : Walk) → 0 < n → n ≤ most_nodes → linked_from n ns n 0 ≡ true → Visited x gs m (tree_at most_levels ns 0) 0 nothing v
      → nodes_fit x gs m ns n d k f ≡ asked gs m d k f v
  unfolding nodes_fit
  fit_by few v a b h w = rw (lt-ltb 0 n a, le-leb n most_nodes b, h) (fits_asked x gs m few d k f (tree_at most_levels ns 0) v w)

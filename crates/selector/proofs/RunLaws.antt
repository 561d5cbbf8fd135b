-- A run of flat offers is the run of the tree's offers.
--
-- Main statement: `flat_grows`.
use Rattle.std.specs.Prelude.{◌*◌, ◌+◌, ◌<◌, ◌≤◌, ℕ, eqb, length, Bool, false, true, ◌≡◌}
use Rattle.std.proofs.Common.{eq-eqb, ne_eqb, inl, inr, ⊎_elim, ◌∙◌, ap, subst, arith}
use mathlib.Core.List.{List, [], ◌∷◌}
use Rattle.std.proofs.Math.Option.{Option, none, some}
use Rattle.std.proofs.Math.Path.{refl}
use Rattle.base.specs.Limits.{most_gates}
use Rattle.base.specs.Pick.{pick}
use Rattle.selector.specs.Flat.{Placed, Stands, grow_flat, grow_from, offer_node, placed, split_flat}
use Rattle.selector.specs.FlatLaws.{Grown, Match, implements, length-split}
use Rattle.selector.specs.Inner.{Among, Distinct, Listed, depth, Holds}
use Rattle.selector.specs.Leaves.{In, Once}
use Rattle.selector.proofs.GrowthLaws.{Kept, Within, offer-kept, offer-within}
use Rattle.selector.specs.NodeLaws.{length-put, put_gate, put-left}
use Rattle.selector.specs.Nodes.{most_levels, most_nodes, node_size, node_slots, put}
use Rattle.selector.specs.Tree.{Tree, and_then, fork, grown, leaf, offer, offer_all, size}

module _ (m c : ℕ) (deep : c ≤ most_levels) (fit : ℕ → ℕ → Bool) (full : (g d : ℕ) → c < d → fit g d ≡ false) where
  -- what holds before the gates of a list are offered
  pub record Ready (l : List ℕ) (u : Tree) (ns : List ℕ) (n : ℕ) : Type 0 where
    pub once : Once u
    pub apart : (h : ℕ) → In h u → Among h l → ⊥
    pub rest : Distinct l
    pub holds : Holds ns n 0 u
    pub room : n + length l * 2 ≤ most_nodes
    pub long : length ns ≡ node_slots
    pub listed : (h : ℕ) → In h u → h < m
    pub all : Listed m l
    pub sized : n ≡ size u
    pub within : depth u + 0 ≤ c

  ready_next : (g : ℕ) (l : List ℕ) (u v : Tree) (ns : List ℕ) (n : ℕ) (p : Placed) → Ready (g ∷ l) u ns n → (y : Grown ns n 0 u g v p) → Kept g u (some v) → Within c 0 (some v)
      → Ready l v (split_flat ns n y.spot g) (n + 2)
  ready_next g l u v ns n p w y kept within =
      let room : (n + 2) * node_size ≤ length ns = omega (arith, w.room, w.long) in
      record {
        once = kept.1 (λ z. w.apart g z (inl refl)) w.once;
        apart = λ h z i. ⊎_elim (λ a. w.apart h a (inr i)) (λ b. w.rest.0 (subst (λ (k : ℕ). Among k l) b i)) (kept.0 h z);
        rest = w.rest.1;
        holds = y.holds;
        room = omega (arith, w.room);
        long = length-split ns n y.spot g y.inside room ∙ w.long;
        listed = λ h z. ⊎_elim (λ a. w.listed h a) (λ b. omega (arith, w.all.0)) (kept.0 h z);
        all = w.all.1;
        sized = omega (arith, kept.2, w.sized);
        within = within;
      }

  run_by : (g : ℕ) (l : List ℕ) (u : Tree) (ns : List ℕ) (n : ℕ) → Ready (g ∷ l) u ns n → (q : Option Tree) (p : Placed)
      → Match ns n 0 u g q p → Kept g u q → Within c 0 q
      → ((v : Tree) (ms : List ℕ) (k : ℕ) → Ready l v ms k
      → Stands m (offer_all fit l v) (grow_from fit l ms k).nodes (grow_from fit l ms k).count)
      → (z : Placed) → z ≡ pick (eqb p.count n) (placed ns 0) (grow_from fit l p.nodes p.count)
      → Stands m (and_then q (offer_all fit l)) z.nodes z.count
  run_by g l u ns n w none p y kept within next z e =
      ap (λ (k : Placed). k.count) e ∙ simp (eq-eqb _ _ (ap (λ (k : Placed). k.count) y))
  run_by g l u ns n w (some v) p y kept within next z e =
      let more : n + 2 ≡ n → ⊥ = λ k. omega arith in
      let same : z ≡ grow_from fit l (split_flat ns n y.spot g) (n + 2) = e ∙ rw y.said (simp (ne_eqb _ _ more)) in
      rw same (next v (split_flat ns n y.spot g) (n + 2) (ready_next g l u v ns n p w y kept within))

  holds_some : (u : Tree) (ns : List ℕ) (n : ℕ) → Holds ns n 0 u → 0 < n
  holds_some (leaf y) ns n h = h.0
  holds_some (fork l r) ns n h = h.0

  pub run : (l : List ℕ) (u : Tree) (ns : List ℕ) (n : ℕ) → Ready l u ns n
      → Stands m (offer_all fit l u) (grow_from fit l ns n).nodes (grow_from fit l ns n).count
  unfolding offer_all grow_from
  run [] u ns n w =
      record {
        some = holds_some u ns n w.holds;
        holds = w.holds;
        once = w.once;
        listed = w.listed;
        sized = w.sized;
        small = omega (arith, w.room);
        deep = omega (arith, w.within);
      }
  run (g ∷ l) u ns n w =
      run_by g l u ns n w (offer fit g 0 u) (offer_node most_levels fit g 0 0 ns n)
      (implements fit c g full ns n (omega (arith, w.room, w.long)) u most_levels 0 0 w.once (omega arith) w.holds)
      (offer-kept fit g u 0)
      (offer-within c fit full g u 0 w.within)
      (λ v ms k r. run l v ms k r)
      (grow_from fit (g ∷ l) ns n) refl

  ready_first : (g : ℕ) (l ns : List ℕ) → Distinct (g ∷ l) → Listed m (g ∷ l) → length l < most_gates → length ns ≡ node_slots → Ready l (leaf g) (put ns 0 0 0 g) 1
  ready_first g l ns d a k e =
      record {
        once = tt;
        apart = λ h z y. d.0 (subst (λ (i : ℕ). Among i l) z y);
        rest = d.1;
        holds = (omega arith, put-left ns 0 0 0 g (omega arith), put_gate ns 0 0 0 g (omega arith));
        room = omega arith;
        long = length-put ns 0 0 0 g ∙ e;
        listed = λ h z. omega (arith, a.0);
        all = a.1;
        sized = refl;
        within = omega arith;
      }

  stands-pick : (y : Bool) (q : Option Tree) (p : Placed) (ns : List ℕ) → Stands m q p.nodes p.count
      → Stands m (pick y q none) (pick y p (placed ns 0)).nodes (pick y p (placed ns 0)).count
  stands-pick true q p ns r = r
  stands-pick false q p ns r = refl

  -- what `grow` leaves: no count if there is no such tree, else the tree's nodes
  pub whole : (l ns : List ℕ) → Distinct l → Listed m l → length l ≤ most_gates → length ns ≡ node_slots
      → Stands m (grown fit l) (grow_flat fit l ns).nodes (grow_flat fit l ns).count
  unfolding grown grow_flat
  whole [] ns d a k e = refl
  whole (g ∷ l) ns d a k e =
      stands-pick (fit g 0) (offer_all fit l (leaf g)) (grow_from fit l (put ns 0 0 0 g) 1) ns
      (run l (leaf g) (put ns 0 0 0 g) 1 (ready_first g l ns d a (omega arith) e))

  pub flat_grows : (l ns ms : List ℕ) (n : ℕ) → Distinct l → Listed m l → length l ≤ most_gates → length ns ≡ node_slots → grow_flat fit l ns ≡ placed ms n
      → Stands m (grown fit l) ms n
  flat_grows l ns ms n d a k e same = subst (λ (p : Placed). Stands m (grown fit l) p.nodes p.count) same (whole l ns d a k e)

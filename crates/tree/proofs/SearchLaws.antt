-- The code of `search`: what holds at the tests of its loops.
--
-- Main definition: `Growing` (the offers so far are those of the definition's run).
-- Main statements: `grow_next`, `bound_won`, `bound-lost`, `target_won`, `target_lost`.
use Prim.Native.Nat.{◌*◌, ◌+◌, ◌-◌, ◌<◌, ◌≤◌, suc, zero, ℕ}
use borrow.Author.Tests.{eq-eqb, ne_eqb}
use lib.Dec.{eqb}
use lib.ListN.{drop, drop_of_length-le, get_or, length, length-drop}
use lib.Seq.{drop-cons, get_or-drop}
use mathlib.Core.Bool.{Bool, false, true}
use mathlib.Core.List.{List, [], ◌∷◌}
use mathlib.Core.Logic.{inl, inr}
use mathlib.Core.Option.{Option, none, some}
use mathlib.Core.Path.{◌∙◌, ◌≡◌, ap, refl, sym}
use native.Mathlib.Numerals.{add-one}
use native.Mathlib.Omega.{arith}
use Rattle.base.specs.Limits.{most_gates}
use Rattle.base.specs.Exponent.{exponent}
use Rattle.base.specs.Pick.{pick}
use Rattle.selector.specs.Flat.{Fine, Placed, Stands, Stood, grow_flat, grow_from, offer_node, placed, split_flat}
use Rattle.selector.specs.FlatLaws.{Spot, fine_split, length-split, spot}
use Rattle.selector.specs.Inner.{Distinct, Listed}
use Rattle.selector.specs.Gates.{gate_words, placed_gates, sorted, top_constants, top_degree}
use Rattle.selector.specs.NodeLaws.{put_gate, put-left}
use Rattle.selector.specs.Nodes.{most_levels, node_size, node_slots, put}
use Rattle.selector.proofs.RunLaws.{flat_grows}
use Rattle.selector.specs.Search.{extra_levels, factor_of, first_bound, first_target, may_stand, or_tree, plan_tree, search_tree, targets, tree_within}
use Rattle.selector.proofs.SearchLaws.{nothing_deeper}
use Rattle.selector.specs.SortLaws.{distinct_placed, distinct_sorted, listed_placed, listed_sorted}
use Rattle.selector.specs.Tree.{Tree, grown, leaf}

pub listed_get : (m : ℕ) (l : List ℕ) (k : ℕ) → Listed m l → k < length l → get_or l k 0 < m
listed_get m [] k h j = absurd (omega arith)
listed_get m (g ∷ l) zero (h, r) j = h
listed_get m (g ∷ l) (suc k) (h, r) j = listed_get m l k r (omega arith)

pub listed_at : (m : ℕ) (o : List ℕ) (b i : ℕ) → Listed m (drop b o) → b ≤ i → i < length o → get_or o i 0 < m
listed_at m o b i h k j =
    let e : b + (i - b) ≡ i = omega arith in
    rw e at (rw (get_or-drop b o (i - b) 0) at (listed_get m (drop b o) (i - b) h (omega (arith, length-drop b o))))

-- what holds at the test of the loop that offers the gates after the first
pub record Growing (fit : ℕ → ℕ → Bool) (gs : List ℕ) (m base : ℕ) (o ns₀ ns : List ℕ) (n i : ℕ) : Type 0 where
  pub some : base < i
  pub upto : i ≤ most_gates
  pub twice : n + 1 + base * 2 ≡ i * 2
  pub long : length ns ≡ node_slots
  pub ready : i < most_gates → Fine gs ns n 0 (get_or o i 0)
  pub same : grow_from fit (drop (base + 1) o) ns₀ 1 ≡ grow_from fit (drop i o) ns n

module _ (fit : ℕ → ℕ → Bool) (gs : List ℕ) where
  run_step : (g : ℕ) (l ns : List ℕ) (n : ℕ) → grow_from fit (g ∷ l) ns n
      ≡ pick (eqb (offer_node most_levels fit g 0 0 ns n).count n)
      (placed ns 0)
      (grow_from fit l (offer_node most_levels fit g 0 0 ns n).nodes (offer_node most_levels fit g 0 0 ns n).count)
  unfolding grow_from
  run_step g l ns n = refl

  run_end : (ns : List ℕ) (n : ℕ) → grow_from fit [] ns n ≡ placed ns n
  unfolding grow_from
  run_end ns n = refl

  module _ (m base : ℕ) (all : m * gate_words ≤ length gs) (o : List ℕ) (wide : length o ≡ most_gates) (listed : Listed m (drop base o)) (ns₀ : List ℕ) where
    pub grow_end : (ns : List ℕ) (n i : ℕ) → Growing fit gs m base o ns₀ ns n i → most_gates ≤ i → grow_from fit (drop (base + 1) o) ns₀ 1 ≡ placed ns n
    grow_end ns n i w h = w.same ∙ rw (drop_of_length-le o {i = i} (omega arith)) (run_end ns n)

    front : (i : ℕ) → i < most_gates → drop i o ≡ get_or o i 0 ∷ drop (i + 1) o
    front i h = rw add-one (drop-cons o i 0 (omega arith))

    pub grow_stop : (ns : List ℕ) (n i : ℕ) → Growing fit gs m base o ns₀ ns n i → i < most_gates
        → (offer_node most_levels fit (get_or o i 0) 0 0 ns n).count ≡ n
        → grow_from fit (drop (base + 1) o) ns₀ 1 ≡ placed ns 0
    grow_stop ns n i w h e =
        w.same ∙ ap (λ (l : List ℕ). grow_from fit l ns n) (front i h) ∙ run_step (get_or o i 0) (drop (i + 1) o) ns n ∙ simp (eq-eqb _ _ e)

    grow_by : (ns : List ℕ) (n i : ℕ) → Growing fit gs m base o ns₀ ns n i → i < most_gates → (p : Placed)
        → p ≡ offer_node most_levels fit (get_or o i 0) 0 0 ns n
        → (p.count ≡ n → ⊥) → Spot ns n (get_or o i 0) p → Growing fit gs m base o ns₀ p.nodes p.count (i + 1)
    grow_by ns n i w h p e more (inl y) = absurd (more (ap (λ (q : Placed). q.count) y))
    grow_by ns n i w h p e more (inr (j, inside, y)) =
        let g = get_or o i 0 in
        let fine = w.ready h in
        let room : (n + 2) * node_size ≤ length ns = omega (arith, w.long, w.twice) in
        let count : p.count ≡ n + 2 = ap (λ (q : Placed). q.count) y in
        let nodes : p.nodes ≡ split_flat ns n j g = ap (λ (q : Placed). q.nodes) y in
        record {
          some = omega (arith, w.some);
          upto = omega arith;
          twice = omega (arith, w.twice);
          long = ap length nodes ∙ length-split ns n j g inside room ∙ w.long;
          ready = λ z. rw (nodes, count) (fine_split gs ns n 0 g j g fine inside room fine.listed (get_or o (i + 1) 0) (omega (arith, w.twice)) (omega (arith, listed_at m o base (i + 1) listed (omega (arith, w.some)) (omega arith))));
          same = w.same ∙ ap (λ (l : List ℕ). grow_from fit l ns n) (front i h) ∙ run_step g (drop (i + 1) o) ns n
              ∙ rw (← e) (simp (ne_eqb _ _ more));
        }

    pub grow_next : (ns : List ℕ) (n i : ℕ) → Growing fit gs m base o ns₀ ns n i → i < most_gates
        → ((offer_node most_levels fit (get_or o i 0) 0 0 ns n).count ≡ n → ⊥)
        → Growing fit gs m base o ns₀ (offer_node most_levels fit (get_or o i 0) 0 0 ns n).nodes (offer_node most_levels fit (get_or o i 0) 0 0 ns n).count (i + 1)
    grow_next ns n i w h more =
        grow_by ns n i w h (offer_node most_levels fit (get_or o i 0) 0 0 ns n) refl more (spot fit (get_or o i 0) gs ns n most_levels 0 0 (w.ready h))

    pub grow_fits : (ns : List ℕ) → base < most_gates → ns₀ ≡ put ns 0 0 0 (get_or o base 0) → fit (get_or o base 0) 0 ≡ true
        → grow_flat fit (drop base o) ns ≡ grow_from fit (drop (base + 1) o) ns₀ 1
    unfolding grow_flat
    grow_fits ns h q e = rw (front base h, e, q)

    pub grow_not : (ns : List ℕ) → base < most_gates → fit (get_or o base 0) 0 ≡ false
        → grow_flat fit (drop base o) ns ≡ placed ns 0
    unfolding grow_flat
    grow_not ns h e = rw (front base h, e)

    pub grow_none : (ns : List ℕ) → most_gates ≤ base → grow_flat fit (drop base o) ns ≡ placed ns 0
    unfolding grow_flat
    grow_none ns h = rw (drop_of_length-le o {i = base} (omega arith))

-- what `place_all` leaves, by the flat run that it makes
module _ (x t c : ℕ) (gs : List ℕ) (m base : ℕ) (o ns : List ℕ) (all : m * gate_words ≤ length gs) (deep : c ≤ most_levels) (wide : length o ≡ most_gates) (long : length ns ≡ node_slots)
    (listed : Listed m (drop base o)) (distinct : Distinct (drop base o)) where
  pub stands : (ms : List ℕ) (n : ℕ) → grow_flat (may_stand x gs t c) (drop base o) ns ≡ placed ms n → Stands m (grown (may_stand x gs t c) (drop base o)) ms n
  stands ms n e =
      flat_grows m c deep (may_stand x gs t c) (nothing_deeper x gs t c) (drop base o) ns ms n distinct listed (omega (arith, length-drop base o)) long e

module _ (m : ℕ) where
  -- a tree that stands is the first one; where none stands, the next is asked
  first_won : (q s : Option Tree) (ns : List ℕ) (n : ℕ) → Stands m q ns n → (n ≡ 0 → ⊥) → Stands m (or_tree q s) ns n
  first_won none s ns n h z = absurd (z h)
  first_won (some t) s ns n h z = h

  first-lost : (q s : Option Tree) (ns : List ℕ) (n : ℕ) → Stands m q ns n → n ≡ 0 → or_tree q s ≡ s
  first-lost none s ns n h z = refl
  first-lost (some t) s ns n h z = absurd (omega (arith, h.some))

  module _ (f : ℕ → Option Tree) where
    bound_step : (k b : ℕ) → 0 < k → first_bound f k b ≡ or_tree (f b) (first_bound f (k - 1) (b + 1))
    unfolding first_bound
    bound_step zero b h = absurd (omega arith)
    bound_step (suc k) b h = let e : suc k - 1 ≡ k = omega arith in rw e

    pub bound_won : (k b : ℕ) (ns : List ℕ) (n : ℕ) → 0 < k → Stands m (f b) ns n → (n ≡ 0 → ⊥) → Stands m (first_bound f k b) ns n
    bound_won k b ns n h w z = rw (bound_step k b h) (first_won (f b) (first_bound f (k - 1) (b + 1)) ns n w z)

    pub bound-lost : (k b : ℕ) (ns : List ℕ) (n : ℕ) → 0 < k → Stands m (f b) ns n → n ≡ 0 → first_bound f k b ≡ first_bound f (k - 1) (b + 1)
    bound-lost k b ns n h w z = bound_step k b h ∙ first-lost (f b) (first_bound f (k - 1) (b + 1)) ns n w z

    pub bound-none : (k b : ℕ) → k ≤ 0 → first_bound f k b ≡ none
    unfolding first_bound
    bound-none k b h = let e : k ≡ 0 = omega arith in rw e

    target_step : (k t : ℕ) → 0 < k → first_target f k t ≡ or_tree (f t) (first_target f (k - 1) (t * 2))
    unfolding first_target
    target_step zero t h = absurd (omega arith)
    target_step (suc k) t h = let e : suc k - 1 ≡ k = omega arith in rw e

    pub target_won : (k t : ℕ) (ns : List ℕ) (n : ℕ) → 0 < k → Stands m (f t) ns n → (n ≡ 0 → ⊥) → Stands m (first_target f k t) ns n
    target_won k t ns n h w z = rw (target_step k t h) (first_won (f t) (first_target f (k - 1) (t * 2)) ns n w z)

    pub target_lost : (k t : ℕ) (ns : List ℕ) (n : ℕ) → 0 < k → Stands m (f t) ns n → n ≡ 0 → first_target f k t ≡ first_target f (k - 1) (t * 2)
    target_lost k t ns n h w z = target_step k t h ∙ first-lost (f t) (first_target f (k - 1) (t * 2)) ns n w z

    pub target_none : (k t : ℕ) → k ≤ 0 → first_target f k t ≡ none
    unfolding first_target
    target_none k t h = let e : k ≡ 0 = omega arith in rw e

-- how large a target can be when k are left
abbrev pub cap : ℕ → ℕ
cap zero = 16384
cap (suc zero) = 8192
cap (suc (suc zero)) = 4096
cap (suc (suc (suc zero))) = 2048
cap (suc (suc (suc (suc k)))) = 1024

pub cap-next : (k t : ℕ) → 0 < k → k ≤ 4 → t ≤ cap k → t * 2 ≤ cap (k - 1)
cap-next zero t h j l = absurd (omega arith)
cap-next (suc zero) t h j l = omega arith
cap-next (suc (suc zero)) t h j l = omega arith
cap-next (suc (suc (suc zero))) t h j l = omega arith
cap-next (suc (suc (suc (suc zero)))) t h j l = omega arith
cap-next (suc (suc (suc (suc (suc k))))) t h j l = absurd (omega arith)

module _ (gs : List ℕ) (m x : ℕ) where
  abbrev pub in_order : List ℕ
  in_order = sorted x gs (placed_gates gs m)

  abbrev pub within : ℕ → Option Tree
  within = tree_within x gs in_order (top_constants x gs (placed_gates gs m))

  pub search_begin : (t : ℕ) → t ≡ factor_of (top_degree gs (placed_gates gs m)) → search_tree x gs m ≡ first_target within targets t
  unfolding search_tree
  search_begin t e = rw e

  module _ (o : List ℕ) (b : ℕ) (e : drop b o ≡ in_order) where
    pub order_listed : Listed m (drop b o)
    order_listed = rw e (listed_sorted m x gs (placed_gates gs m) (listed_placed m x gs m 0 (omega arith)))

    pub order_distinct : Distinct (drop b o)
    order_distinct = rw e (distinct_sorted x gs (placed_gates gs m) (distinct_placed x gs m 0))

    pub bounds_are : (t l c : ℕ) → length o ≡ most_gates → l ≡ exponent (most_gates - b) → c ≡ top_constants x gs (placed_gates gs m)
        → first_bound (λ (k : ℕ). grown (may_stand x gs t k) (drop b o)) (l + (extra_levels + 1)) c ≡ within t
    unfolding tree_within
    bounds_are t l c h p q =
        let n : most_gates - b ≡ length in_order = sym (rw h at (length-drop b o)) ∙ ap length e in
        rw (e, p, q, n)

  pub plan-one : m ≡ 1 → plan_tree x gs m ≡ some (leaf 0)
  unfolding plan_tree
  plan-one e = simp (eq-eqb _ _ e)

  pub plan-more : (m ≡ 1 → ⊥) → plan_tree x gs m ≡ search_tree x gs m
  unfolding plan_tree
  plan-more e = simp (ne_eqb _ _ e)

-- a lone leaf stands in one node
pub lone : (m : ℕ) (ns : List ℕ) → 0 < m → length ns ≡ node_slots → Stood m (leaf 0) (put ns 0 0 0 0) 1
lone m ns h l =
    record {
      some = omega arith;
      holds = (omega arith, put-left ns 0 0 0 0 (omega arith), put_gate ns 0 0 0 0 (omega arith));
      once = tt;
      listed = λ g e. omega arith;
      sized = refl;
      small = omega arith;
      deep = omega arith;
    }

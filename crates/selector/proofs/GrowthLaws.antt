-- What an offer makes of a tree, and what a tree has that was grown by offers.
--
-- Main definitions: `In`, `Once`, `AllFit`, `Facts`.
-- Main statements: `offer-kept` (gates, size), `offer-within` (depth), `grown_facts` (the leaves are the gates offered, every one fits where it stands).
use Rattle.std.specs.Prelude.{◌*◌, ◌+◌, ◌<◌, ◌≤◌, ℕ, length, Bool, ◌⊎◌}
use Rattle.std.proofs.Math.Bool.{false, true}
use mathlib.Core.List.{List, [], ◌∷◌}
use Rattle.std.proofs.Common.{inl, inr, ⊎_elim, ◌∙◌, sym}
use Rattle.std.proofs.Math.Option.{Option, none, some}
use Rattle.std.proofs.Math.Path.{◌≡◌, refl, subst}
use Rattle.std.proofs.Math.Decide.{dec_lt}
use native.Mathlib.Omega.{arith}
use Rattle.base.specs.Pick.{pick}
use Rattle.selector.specs.SortLaws.{times}
use Rattle.selector.specs.Inner.{depth}
use Rattle.selector.specs.Tree.{Tree, and_then, fork, grown, leaf, offer, offer_all, or_fork, size, standing}
use Rattle.selector.specs.Leaves.{In, Once}

-- what an offer of g makes of the gates of t
abbrev pub Kept : ℕ → Tree → Option Tree → Type 0
Kept g t none = Unit {0}
Kept g t (some u) = ((h : ℕ) → In h u → In h t ⊎ (h ≡ g)) × ((In g t → ⊥) → Once t → Once u) × (size u ≡ size t + 2)

leaf_kept : (g x : ℕ) (a b : Bool) → Kept g (leaf x) (pick a (pick b (some (fork (leaf x) (leaf g))) none) none)
leaf_kept g x true true =
    (λ h z. z, λ out o. ((λ h a b. out (sym b ∙ a)), tt, tt), refl)
leaf_kept g x true false = tt
leaf_kept g x false b = tt

fork_kept : (g : ℕ) (l r : Tree) (q s : Option Tree) → Kept g l q → Kept g r s → Kept g (fork l r) (or_fork l r q s)
fork_kept g l r none none a b = tt
fork_kept g l r none (some y) a b = (
  λ h z. ⊎_elim (λ w. inl (inl w)) (λ w. ⊎_elim (λ v. inl (inr v)) (λ v. inr v) (b.0 h w)) z,
  λ out o. ((λ h x z. ⊎_elim (λ v. o.0 h x v) (λ v. out (inl (subst (λ (k : ℕ). In k l) v x))) (b.0 h z)), o.1, b.1 (λ w. out (inr w)) o.2),
  omega (arith, b.2),
)
fork_kept g l r (some x) s a b = (
  λ h z. ⊎_elim (λ w. ⊎_elim (λ v. inl (inl v)) (λ v. inr v) (a.0 h w)) (λ w. inl (inr w)) z,
  λ out o. ((λ h y z. ⊎_elim (λ v. o.0 h v z) (λ v. out (inr (subst (λ (k : ℕ). In k r) v z))) (a.0 h y)), a.1 (λ w. out (inl w)) o.1, o.2),
  omega (arith, a.2),
)

pub offer-kept : (fit : ℕ → ℕ → Bool) (g : ℕ) (t : Tree) (d : ℕ) → Kept g t (offer fit g d t)
unfolding offer
offer-kept fit g (leaf x) d = leaf_kept g x (fit x (d + 1)) (fit g (d + 1))
offer-kept fit g (fork l r) d =
    fork_kept g l r (offer fit g (d + 1) l) (offer fit g (d + 1) r) (offer-kept fit g l (d + 1)) (offer-kept fit g r (d + 1))

-- a tree that stands at depth d within c stays within c, where nothing fits below c
abbrev pub Within : ℕ → ℕ → Option Tree → Type 0
Within c d none = Unit {0}
Within c d (some u) = depth u + d ≤ c

module _ (c : ℕ) (fit : ℕ → ℕ → Bool) (full : (g d : ℕ) → c < d → fit g d ≡ false) (g : ℕ) where
  leaf_within : (x d : ℕ) (a b : Bool) → (c < d + 1 → a ≡ false) → Within c d (pick a (pick b (some (fork (leaf x) (leaf g))) none) none)
  leaf_within x d false b k = tt
  leaf_within x d true false k = tt
  leaf_within x d true true k = by (dec_lt c (d + 1))
    where
      by : Dec (c < d + 1) → depth (fork (leaf x) (leaf g)) + d ≤ c
      by (yes h) = let z : ◌≡◌ {A = ℕ} 0 1 = cc (k h) in absurd (omega arith)
      by (no h) = omega arith

  fork_within : (l r : Tree) (d : ℕ) (q s : Option Tree) → depth l + (d + 1) ≤ c → depth r + (d + 1) ≤ c → Within c (d + 1) q → Within c (d + 1) s
      → Within c d (or_fork l r q s)
  fork_within l r d none none h k a b = tt
  fork_within l r d none (some y) h k a b = omega arith
  fork_within l r d (some x) s h k a b = omega arith

  pub offer-within : (t : Tree) (d : ℕ) → depth t + d ≤ c → Within c d (offer fit g d t)
  unfolding offer
  offer-within (leaf x) d h = leaf_within x d (fit x (d + 1)) (fit g (d + 1)) (full x (d + 1))
  offer-within (fork l r) d h =
      fork_within l r d (offer fit g (d + 1) l) (offer fit g (d + 1) r) (omega arith) (omega arith)
      (offer-within l (d + 1) (omega arith)) (offer-within r (d + 1) (omega arith))

-- what an offer adds
abbrev Counted : ℕ → ℕ → Tree → Option Tree → Type 0
Counted h g t none = Unit {0}
Counted h g t (some u) = standing h u ≡ standing h t + standing h (leaf g)

module _ (fit : ℕ → ℕ → Bool) (h g : ℕ) where
  leaf_counted : (y : ℕ) (a b : Bool) → Counted h g (leaf y) (pick a (pick b (some (fork (leaf y) (leaf g))) none) none)
  unfolding standing
  leaf_counted y true true = refl
  leaf_counted y true false = tt
  leaf_counted y false b = tt

  fork_counted : (l r : Tree) (q s : Option Tree) → Counted h g l q → Counted h g r s → Counted h g (fork l r) (or_fork l r q s)
  unfolding standing
  fork_counted l r none none a b = tt
  fork_counted l r none (some y) a b = omega arith
  fork_counted l r (some y) s a b = omega arith

  offer-counted : (t : Tree) (d : ℕ) → Counted h g t (offer fit g d t)
  unfolding offer
  offer-counted (leaf y) d = leaf_counted y (fit y (d + 1)) (fit g (d + 1))
  offer-counted (fork l r) d = fork_counted l r (offer fit g (d + 1) l) (offer fit g (d + 1) r) (offer-counted l (d + 1)) (offer-counted r (d + 1))

-- every gate of the tree fits where it stands, the root at depth d
abbrev pub AllFit : (ℕ → ℕ → Bool) → ℕ → Tree → Type 0
AllFit fit d (leaf g) = fit g d ≡ true
AllFit fit d (fork l r) = AllFit fit (d + 1) l × AllFit fit (d + 1) r

abbrev Fitted : (ℕ → ℕ → Bool) → ℕ → Option Tree → Type 0
Fitted fit d none = Unit {0}
Fitted fit d (some u) = AllFit fit d u

module _ (fit : ℕ → ℕ → Bool) (g : ℕ) where
  leaf_fitted : (y d : ℕ) (a b : Bool) → fit y (d + 1) ≡ a → fit g (d + 1) ≡ b → Fitted fit d (pick a (pick b (some (fork (leaf y) (leaf g))) none) none)
  leaf_fitted y d true true p q = (p, q)
  leaf_fitted y d true false p q = tt
  leaf_fitted y d false b p q = tt

  fork_fitted : (l r : Tree) (d : ℕ) (q s : Option Tree) → AllFit fit (d + 1) l → AllFit fit (d + 1) r → Fitted fit (d + 1) q → Fitted fit (d + 1) s
      → Fitted fit d (or_fork l r q s)
  fork_fitted l r d none none x y a b = tt
  fork_fitted l r d none (some u) x y a b = (x, b)
  fork_fitted l r d (some u) s x y a b = (a, y)

  offer_fitted : (t : Tree) (d : ℕ) → AllFit fit d t → Fitted fit d (offer fit g d t)
  unfolding offer
  offer_fitted (leaf y) d h = leaf_fitted y d (fit y (d + 1)) (fit g (d + 1)) refl refl
  offer_fitted (fork l r) d (x, y) =
      fork_fitted l r d (offer fit g (d + 1) l) (offer fit g (d + 1) r) x y (offer_fitted l (d + 1) x) (offer_fitted r (d + 1) y)

-- what is known of a tree that was grown of the gates of a list, where nothing fits deeper than c
pub record Facts (fit : ℕ → ℕ → Bool) (c : ℕ) (l : List ℕ) (t : Tree) : Type 0 where
  pub counts : (h : ℕ) → standing h t ≡ times h l
  pub sized : size t + 1 ≡ length l * 2
  pub deep : depth t ≤ c
  pub fits : AllFit fit 0 t

module _ (c : ℕ) (fit : ℕ → ℕ → Bool) (full : (g d : ℕ) → c < d → fit g d ≡ false) where
  abbrev FactsOf : List ℕ → Tree → Option Tree → Type 0
  FactsOf l t none = Unit {0}
  FactsOf l t (some u) = ((h : ℕ) → standing h u ≡ standing h t + times h l) × (size u ≡ size t + length l * 2) × (depth u ≤ c) × AllFit fit 0 u

  more_facts : (g : ℕ) (l : List ℕ) (t u : Tree) (q : Option Tree) → ((h : ℕ) → Counted h g t (some u)) → size u ≡ size t + 2 → FactsOf l u q → FactsOf (g ∷ l) t q
  unfolding times
  more_facts g l t u none a b f = tt
  more_facts g l t u (some v) a b (x, y, z, w) = ((λ h. x h ∙ omega (arith, a h)), omega arith, z, w)

  all_by : (g : ℕ) (l : List ℕ) (t : Tree) (q : Option Tree) → ((h : ℕ) → Counted h g t q) → Kept g t q → Within c 0 q → Fitted fit 0 q
      → ((u : Tree) → depth u ≤ c → AllFit fit 0 u → FactsOf l u (offer_all fit l u)) → FactsOf (g ∷ l) t (and_then q (offer_all fit l))
  all_by g l t none a k w f next = tt
  all_by g l t (some u) a k w f next = more_facts g l t u (offer_all fit l u) a k.2 (next u (omega arith) f)

  all_facts : (l : List ℕ) (t : Tree) → depth t ≤ c → AllFit fit 0 t → FactsOf l t (offer_all fit l t)
  unfolding offer_all times
  all_facts [] t h f = ((λ k. omega arith), omega arith, h, f)
  all_facts (g ∷ l) t h f =
      all_by g l t (offer fit g 0 t) (λ k. offer-counted fit k g t 0) (offer-kept fit g t 0) (offer-within c fit full g t 0 (omega arith)) (offer_fitted fit g t 0 f)
      (λ u k e. all_facts l u k e)

  first_facts : (g : ℕ) (l : List ℕ) (b : Bool) (q : Option Tree) → (b ≡ true → FactsOf l (leaf g) q) → (t : Tree) → pick b q none ≡ some t → Facts fit c (g ∷ l) t
  unfolding times
  first_facts g l true (some u) f t e =
      let s : u ≡ t = cc in
      let k = f refl in
      subst (λ (v : Tree). Facts fit c (g ∷ l) v) s (record { counts = k.0; sized = omega (arith, k.1); deep = k.2; fits = k.3 })
  first_facts g l true none f t e = let s : ◌≡◌ {A = ℕ} 0 1 = cc in absurd (omega arith)
  first_facts g l false q f t e = let s : ◌≡◌ {A = ℕ} 0 1 = cc in absurd (omega arith)

  pub grown_facts : (l : List ℕ) (t : Tree) → grown fit l ≡ some t → Facts fit c l t
  unfolding grown
  grown_facts [] t e = let s : ◌≡◌ {A = ℕ} 0 1 = cc in absurd (omega arith)
  grown_facts (g ∷ l) t e = first_facts g l (fit g 0) (offer_all fit l (leaf g)) (λ z. all_facts l (leaf g) (omega arith) z) t e

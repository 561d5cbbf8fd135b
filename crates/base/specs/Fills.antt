-- A stretch of a list filled with a function's values, every other word kept: what a loop over lent words leaves.
--
-- Main definition: `Filled`. Main statements: `filled_none`, `filled_next` (one more word), `filled_join` (one stretch after the other),
-- `filled_same`, `filled_list` (a stretch from the start, as one list).
use Rattle.std.specs.Prelude.{◌≡◌, refl, List, ◌++◌, ℕ, ◌+◌, ◌-◌, ◌≤◌, ◌<◌, length, get_or, set, drop}
use Rattle.std.proofs.Common.{sym, ap, ◌∙◌, arith, length-set, length-append, length-drop, get_or-set_same, get_or-set_other, get_or-append-add, get_or-drop, ext_get_or}
use Rattle.std.proofs.Math.Decide.{ℕ_discrete, dec_lt}
use Rattle.std.proofs.Math.ListN.{get_or-append}
use Rattle.base.specs.Tables.{table, table-length, table_at}

-- the words a to b - 1 are f's, every other is the old list's
pub record Filled (f : ℕ → ℕ) (a b : ℕ) (old new : List ℕ) : Type 0 where
  pub same_length : length new ≡ length old
  pub inside : (i : ℕ) → a ≤ i → i < b → get_or new i 0 ≡ f i
  pub before : (i : ℕ) → i < a → get_or new i 0 ≡ get_or old i 0
  pub beyond : (i : ℕ) → b ≤ i → get_or new i 0 ≡ get_or old i 0

pub filled_none : (f : ℕ → ℕ) (a : ℕ) (old : List ℕ) → Filled f a a old old
filled_none f a old = record { same_length = refl; inside = λ i h l. absurd (omega arith); before = λ i h. refl; beyond = λ i h. refl }

pub filled_next : (f : ℕ → ℕ) (a b v : ℕ) (old new : List ℕ) → Filled f a b old new → a ≤ b → b < length old → v ≡ f b
    → Filled f a (b + 1) old (set new b v)
filled_next f a b v old new h o l e =
    record {
      same_length = length-set new b v ∙ h.same_length;
      inside = λ i p q. at i p q (ℕ_discrete i b);
      before = λ i p. get_or-set_other new b i v 0 (omega arith) ∙ h.before i p;
      beyond = λ i p. get_or-set_other new b i v 0 (omega arith) ∙ h.beyond i (omega arith);
    }
  where
    at : (i : ℕ) → a ≤ i → i < b + 1 → Dec (i ≡ b) → get_or (set new b v) i 0 ≡ f i
    at i p q (yes z) = rw z (get_or-set_same new b v 0 (omega (arith, h.same_length)) ∙ e)
    at i p q (no d) = get_or-set_other new b i v 0 d ∙ h.inside i p (omega arith)

pub filled_join : (f : ℕ → ℕ) (a b c : ℕ) (x y z : List ℕ) → a ≤ b → b ≤ c → Filled f a b x y → Filled f b c y z → Filled f a c x z
filled_join f a b c x y z o q g h =
    record {
      same_length = h.same_length ∙ g.same_length;
      inside = λ i l m. at i l m (dec_lt i b);
      before = λ i l. h.before i (omega arith) ∙ g.before i l;
      beyond = λ i l. h.beyond i l ∙ g.beyond i (omega arith);
    }
  where
    at : (i : ℕ) → a ≤ i → i < c → Dec (i < b) → get_or z i 0 ≡ f i
    at i l m (yes d) = h.before i d ∙ g.inside i l d
    at i l m (no d) = h.inside i (omega arith) m

pub filled_same : (f g : ℕ → ℕ) (a b : ℕ) (old new : List ℕ) → ((i : ℕ) → a ≤ i → i < b → f i ≡ g i) → Filled f a b old new → Filled g a b old new
filled_same f g a b old new e h =
    record { same_length = h.same_length; inside = λ i l m. h.inside i l m ∙ e i l m; before = h.before; beyond = h.beyond }

pub filled_list : (f : ℕ → ℕ) (b : ℕ) (old new : List ℕ) → b ≤ length old → Filled f 0 b old new → new ≡ table b f ++ drop b old
filled_list f b old new l h =
    ext_get_or 0 new (table b f ++ drop b old) (h.same_length ∙ sym total) (λ i m. at i (dec_lt i b))
  where
    total : length (table b f ++ drop b old) ≡ length old
    total = rw (length-append, table-length, length-drop) (omega arith)

    at : (i : ℕ) → Dec (i < b) → get_or new i 0 ≡ get_or (table b f ++ drop b old) i 0
    at i (yes d) =
        h.inside i (omega arith) d ∙ sym (get_or-append (table b f) (drop b old) 0 i (omega (arith, table-length b f)) ∙ table_at b f i d)
    at i (no d) =
        let e : i ≡ length (table b f) + (i - b) = omega (arith, table-length b f) in
        let q : b + (i - b) ≡ i = omega arith in
        h.beyond i (omega arith)
        ∙ sym (ap (λ (j : ℕ). get_or (table b f ++ drop b old) j 0) e ∙ get_or-append-add (table b f) (drop b old) (i - b) 0 ∙ get_or-drop b old (i - b) 0 ∙ ap (λ (j : ℕ). get_or old j 0) q)

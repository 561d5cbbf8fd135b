-- The search for representatives, for its proofs: its equations, how the code holds the columns found so far, and what is known of them.
--
-- Main definitions: `stored` (the columns in arrays of `most_columns`), `no_representatives`, `Chosen` (what the search keeps true).
-- Main statements: `search_stop`, `search_next`; `tried-kept`, `tried_residue`, `tried_coset`; `taken_stop`, `taken_next`, `search_taken` (no column without a power taken), `search_most` (no more columns than asked for);
-- `absent_apart`; `search_chosen`, `found_chosen`.
use Rattle.std.specs.Prelude.{◌≡◌, ◌≢◌, ◌⊎◌, Bool, List, [], ◌∷◌, ◌++◌, eqb, get_or, set, take, drop, replicate}
use Rattle.std.proofs.Math.Path.{refl, ap}
use Rattle.std.proofs.Common.{sym, ◌∙◌, inl, inr, append_assoc, not-suc-le-zero, le_of_suc-le-suc, add-one, length-append, take_at, lt-ltb, le-ltb, eq-eqb, ne_eqb}
use Rattle.std.proofs.Math.Bool.{true, false}
use Prim.Native.Nat.{ℕ, zero, suc, ◌+◌, ◌-◌, ◌≤◌, ◌<◌}
use Rattle.std.proofs.Math.Decide.{ℕ_discrete, dec_lt}
use native.Mathlib.Omega.{arith}
use Rattle.std.proofs.Math.Dec.{ltb}
use Rattle.std.proofs.Math.ListN.{length, get_or-append}
use Rattle.std.proofs.Math.Seq.{set-append_seam, get_or-append_seam}
use Rattle.base.specs.Pick.{pick}
use Rattle.base.specs.Drops.{drop-none, drop-one}
use Rattle.base.specs.Powers.{one-pow}
use Rattle.field.specs.Field.{p, fpow, is_non_residue}
use Rattle.field.proofs.FieldLaws.{non_residue_unit}
use Rattle.labels.specs.declared.NonResidues.{NonResidues}
use Rattle.labels.specs.Ranges.{most_columns}
use Rattle.labels.specs.Labels.{Columns, kept, first_column, absent, tried, search_from, found, taken_one, taken_from, column_words}
use Rattle.labels.specs.Stored.{stored}

-- one more word goes where the zeros begin
pub padded-next : (xs : List ℕ) (x : ℕ) → length xs < most_columns → set (column_words xs) (length xs) x ≡ column_words (xs ++ (x ∷ []))
padded-next xs x h =
    let e : most_columns - length xs ≡ suc (most_columns - (length xs + 1)) = omega arith in
    rw (e, length-append) (set-append_seam xs 0 (replicate (most_columns - (length xs + 1)) 0) x ∙ sym (append_assoc xs (x ∷ []) (replicate (most_columns - (length xs + 1)) 0)))

-- what the code holds of the powers
pub held_powers : (f : NonResidues) (s : Columns) (t : ℕ) → f ≡ stored s t → length s.powers ≡ length s.values → take f.kept f.powers ≡ s.powers
held_powers f s t e b = rw e (take_at s.powers (replicate (most_columns - length s.powers) 0) (length s.values) b)

-- the code's steps: a power is taken; where it is kept, a store into each array, and the count of columns
pub held-taken : (f : NonResidues) (s : Columns) (t : ℕ) → f ≡ stored s t
    → ◌≡◌ {A = NonResidues} (record { kept = f.kept; values = f.values; powers = f.powers; taken = f.taken + 1 }) (stored s (t + 1))
held-taken f s t e = rw e

pub held_next : (f : NonResidues) (s : Columns) (t k q : ℕ) → f ≡ stored s t → length s.powers ≡ length s.values → f.kept < most_columns
    → ◌≡◌ {A = NonResidues} (record { kept = f.kept + 1; values = set f.values f.kept k; powers = set f.powers f.kept q; taken = f.taken + 1 }) (stored (kept s k q) (t + 1))
held_next f s t k q e b h =
    let l : length s.values < most_columns = rw e at h in
    let m : length s.powers < most_columns = omega arith in
    rw (e, padded-next s.values k l, ← b, padded-next s.powers q m, length-append s.values, b)

module _ (x : ℕ) (ws : List ℕ) (i : ℕ) where
  pub absent-end : length ws ≤ i → absent x (drop i ws) ≡ true
  unfolding absent
  absent-end h = ap (absent x) (drop-none ws i h)

  pub absent_step : i < length ws → absent x (drop i ws) ≡ pick (eqb x (get_or ws i 0)) false (absent x (drop (i + 1) ws))
  unfolding absent
  absent_step h = ap (absent x) (drop-one ws i h)

-- a word that is absent is none of the words
absent_apart : (x : ℕ) (ws : List ℕ) (i : ℕ) → absent x ws ≡ true → i < length ws → get_or ws i 0 ≢ x
unfolding absent
absent_apart x [] i a h q = absurd (not-suc-le-zero h)
absent_apart x (w ∷ ws) i a h q = go (ℕ_discrete x w) i h q (absent_apart x ws)
  where
    go : Dec (x ≡ w) → (i : ℕ) → i < suc (length ws) → get_or (w ∷ ws) i 0 ≡ x → ((j : ℕ) → absent x ws ≡ true → j < length ws → get_or ws j 0 ≡ x → ⊥) → ⊥
    go (yes e) i h q more = let z : false ≡ true = sym (rw (eq-eqb x w e)) ∙ a in let o : ◌≡◌ {A = ℕ} 0 1 = cc in omega arith
    go (no d) zero h q more = d (sym q)
    go (no d) (suc j) h q more = more j (rw (ne_eqb x w d) at a) (le_of_suc-le-suc h) q

-- a candidate counts once or not at all
pub one_most : (test : ℕ → Bool) (k : ℕ) → taken_one test k ≤ 1
one_most test k = go (test k)
  where
    go : (b : Bool) → pick b 1 0 ≤ 1
    go true = omega arith
    go false = omega arith

module _ (test : ℕ → Bool) (power : ℕ → ℕ) where
  pub tried-kept : (k : ℕ) (s : Columns) → test k ≡ true → absent (power k) s.powers ≡ true → tried test power k s ≡ kept s k (power k)
  unfolding tried
  tried-kept k s a b = rw (a, b)

  pub tried_coset : (k : ℕ) (s : Columns) → test k ≡ true → absent (power k) s.powers ≡ false → tried test power k s ≡ s
  unfolding tried
  tried_coset k s a b = rw (a, b)

  pub tried_residue : (k : ℕ) (s : Columns) → test k ≡ false → tried test power k s ≡ s
  unfolding tried
  tried_residue k s a = rw a

  pub search_stop : (fuel c k : ℕ) (s : Columns) → c ≤ length s.values → search_from test power fuel c k s ≡ s
  unfolding search_from
  search_stop zero c k s h = refl
  search_stop (suc fuel) c k s h = rw (le-ltb (length s.values) c h)

  pub search_out : (fuel c k : ℕ) (s : Columns) → fuel ≡ 0 → search_from test power fuel c k s ≡ s
  unfolding search_from
  search_out fuel c k s h = rw h

  pub search_next : (fuel c k : ℕ) (s : Columns) → 0 < fuel → length s.values < c
      → search_from test power fuel c k s ≡ search_from test power (fuel - 1) c (k + 1) (tried test power k s)
  unfolding search_from
  search_next zero c k s z h = absurd (omega arith)
  search_next (suc fuel) c k s z h = let e : suc fuel - 1 ≡ fuel = omega arith in rw (lt-ltb (length s.values) c h, e, add-one)

  -- ---- the powers taken, beside the search
  pub taken_stop : (fuel c k : ℕ) (s : Columns) → c ≤ length s.values → taken_from test power fuel c k s ≡ 0
  unfolding taken_from
  taken_stop zero c k s h = refl
  taken_stop (suc fuel) c k s h = rw (le-ltb (length s.values) c h)

  pub taken_out : (fuel c k : ℕ) (s : Columns) → fuel ≡ 0 → taken_from test power fuel c k s ≡ 0
  unfolding taken_from
  taken_out fuel c k s h = rw h

  pub taken_next : (fuel c k : ℕ) (s : Columns) → 0 < fuel → length s.values < c
      → taken_from test power fuel c k s ≡ taken_one test k + taken_from test power (fuel - 1) c (k + 1) (tried test power k s)
  unfolding taken_from
  taken_next zero c k s z h = absurd (omega arith)
  taken_next (suc fuel) c k s z h = let e : suc fuel - 1 ≡ fuel = omega arith in rw (lt-ltb (length s.values) c h, e, add-one)

  -- a column that is found has cost a power
  tried-taken : (k : ℕ) (s : Columns) → length (tried test power k s).values ≤ length s.values + taken_one test k
  tried-taken k s = go (test k) (absent (power k) s.powers) refl refl
    where
      go : (a b : Bool) → test k ≡ a → absent (power k) s.powers ≡ b → length (tried test power k s).values ≤ length s.values + taken_one test k
      go true true a b = rw (tried-kept k s a b, length-append, a) (omega arith)
      go true false a b = rw (tried_coset k s a b) (omega arith)
      go false b a e = rw (tried_residue k s a) (omega arith)

  pub search_taken : (fuel c k : ℕ) (s : Columns) → length (search_from test power fuel c k s).values ≤ length s.values + taken_from test power fuel c k s
  unfolding search_from taken_from
  search_taken zero c k s = omega arith
  search_taken (suc fuel) c k s = go (ltb (length s.values) c) refl (search_taken fuel c (suc k) (tried test power k s))
    where
      go : (b : Bool) → ltb (length s.values) c ≡ b
          → length (search_from test power fuel c (suc k) (tried test power k s)).values ≤ length (tried test power k s).values + taken_from test power fuel c (suc k) (tried test power k s)
          → length (pick (ltb (length s.values) c) (search_from test power fuel c (suc k) (tried test power k s)) s).values
          ≤ length s.values + pick (ltb (length s.values) c) (taken_one test k + taken_from test power fuel c (suc k) (tried test power k s)) 0
      go true e m = rw e (omega (arith, m, tried-taken k s))
      go false e m = rw e (omega arith)

  -- the search ends where c columns have theirs
  pub search_most : (fuel c k : ℕ) (s : Columns) → length s.values ≤ c → length (search_from test power fuel c k s).values ≤ c
  unfolding search_from
  search_most zero c k s h = h
  search_most (suc fuel) c k s h = go (dec_lt (length s.values) c) (search_most fuel c (suc k) (tried test power k s))
    where
      more : Columns
      more = search_from test power fuel c (suc k) (tried test power k s)

      go : Dec (length s.values < c) → (length (tried test power k s).values ≤ c → length more.values ≤ c) → length (pick (ltb (length s.values) c) more s).values ≤ c
      go (yes l) m = rw (lt-ltb (length s.values) c l) (m (omega (arith, tried-taken k s, one_most test k)))
      go (no l) m = rw (le-ltb (length s.values) c (omega arith)) h

-- a non-residue's power to p - 1 is 1
unit_power : (k : ℕ) → is_non_residue k ≡ true → fpow k (p - 1) ≡ 1
unfolding fpow
unit_power k h = non_residue_unit k h

-- What the search keeps true of the columns found so far. Column 0 is among them, so a power that is none of theirs is not 1 either.
pub record Chosen (n : ℕ) (s : Columns) : Type 0 where
  pub some : 1 ≤ length s.values
  pub beside : length s.powers ≡ length s.values
  pub first : get_or s.values 0 0 ≡ 1
  pub power : (i : ℕ) → i < length s.values → get_or s.powers i 0 ≡ fpow (get_or s.values i 0) n
  pub unit : (i : ℕ) → i < length s.values → fpow (get_or s.values i 0) (p - 1) ≡ 1
  pub apart : (i j : ℕ) → i < length s.values → j < length s.values → get_or s.powers i 0 ≡ get_or s.powers j 0 → i ≡ j

power_of-one : (k e : ℕ) → k ≡ 1 → fpow k e ≡ 1
unfolding fpow
power_of-one k e h = rw (h, one-pow)

pub first_chosen : (n : ℕ) → Chosen n first_column
first_chosen n =
    record {
      some = omega arith;
      beside = refl;
      first = refl;
      power = λ i h. let z : i ≡ 0 = omega arith in rw z (sym (power_of-one 1 n refl));
      unit = λ i h. let z : i ≡ 0 = omega arith in power_of-one (get_or (1 ∷ []) i 0) (p - 1) (rw z);
      apart = λ i j h l q. omega arith;
    }

-- a word at a place of a list with one word more
snoc_at : (xs : List ℕ) (x i : ℕ) → i < length xs → get_or (xs ++ (x ∷ [])) i 0 ≡ get_or xs i 0
snoc_at xs x i h = get_or-append xs (x ∷ []) 0 i h

snoc_last : (xs : List ℕ) (x i : ℕ) → i ≡ length xs → get_or (xs ++ (x ∷ [])) i 0 ≡ x
snoc_last xs x i h = rw h (get_or-append_seam xs x [] 0)

module _ (n : ℕ) (s : Columns) (h : Chosen n s) (k : ℕ) (nr : is_non_residue k ≡ true) (fresh : absent (fpow k n) s.powers ≡ true) where
  long : length (s.values ++ (k ∷ [])) ≡ length s.values + 1
  long = rw length-append

  where_is : (i : ℕ) → i < length (s.values ++ (k ∷ [])) → (i < length s.values) ⊎ (i ≡ length s.values)
  where_is i l = go (dec_lt i (length s.values))
    where
      go : Dec (i < length s.values) → (i < length s.values) ⊎ (i ≡ length s.values)
      go (yes a) = inl a
      go (no a) = inr (omega (arith, long))

  kept_chosen : Chosen n (kept s k (fpow k n))
  kept_chosen =
      record {
        some = omega (arith, long);
        beside = rw (length-append, length-append) (ap (λ (x : ℕ). x + 1) h.beside);
        first = snoc_at s.values k 0 h.some ∙ h.first;
        power = λ i l. power_at i (where_is i l);
        unit = λ i l. unit_at i (where_is i l);
        apart = λ i j l m. apart_at i j (where_is i l) (where_is j m);
      }
    where
      power_at : (i : ℕ) → (i < length s.values) ⊎ (i ≡ length s.values) → get_or (s.powers ++ (fpow k n ∷ [])) i 0 ≡ fpow (get_or (s.values ++ (k ∷ [])) i 0) n
      power_at i (inl a) =
          snoc_at s.powers (fpow k n) i (omega (arith, h.beside)) ∙ h.power i a ∙ ap (λ (x : ℕ). fpow x n) (sym (snoc_at s.values k i a))
      power_at i (inr a) = snoc_last s.powers (fpow k n) i (a ∙ sym h.beside) ∙ ap (λ (x : ℕ). fpow x n) (sym (snoc_last s.values k i a))

      unit_at : (i : ℕ) → (i < length s.values) ⊎ (i ≡ length s.values) → fpow (get_or (s.values ++ (k ∷ [])) i 0) (p - 1) ≡ 1
      unit_at i (inl a) = ap (λ (x : ℕ). fpow x (p - 1)) (snoc_at s.values k i a) ∙ h.unit i a
      unit_at i (inr a) = ap (λ (x : ℕ). fpow x (p - 1)) (snoc_last s.values k i a) ∙ unit_power k nr

      old : (i : ℕ) → i < length s.values → get_or (s.powers ++ (fpow k n ∷ [])) i 0 ≡ get_or s.powers i 0
      old i a = snoc_at s.powers (fpow k n) i (omega (arith, h.beside))

      new : (i : ℕ) → i ≡ length s.values → get_or (s.powers ++ (fpow k n ∷ [])) i 0 ≡ fpow k n
      new i a = snoc_last s.powers (fpow k n) i (a ∙ sym h.beside)

      apart_at : (i j : ℕ) → (i < length s.values) ⊎ (i ≡ length s.values) → (j < length s.values) ⊎ (j ≡ length s.values)
          → get_or (s.powers ++ (fpow k n ∷ [])) i 0 ≡ get_or (s.powers ++ (fpow k n ∷ [])) j 0 → i ≡ j
      apart_at i j (inl a) (inl b) q = h.apart i j a b (sym (old i a) ∙ q ∙ old j b)
      apart_at i j (inl a) (inr b) q = absurd (absent_apart (fpow k n) s.powers i fresh (omega (arith, h.beside)) (sym (old i a) ∙ q ∙ new j b))
      apart_at i j (inr a) (inl b) q = absurd (absent_apart (fpow k n) s.powers j fresh (omega (arith, h.beside)) (sym (old j b) ∙ sym q ∙ new i a))
      apart_at i j (inr a) (inr b) q = a ∙ sym b

pub tried_chosen : (n k : ℕ) (s : Columns) → Chosen n s → Chosen n (tried is_non_residue (λ j. fpow j n) k s)
tried_chosen n k s h = go (is_non_residue k) (absent (fpow k n) s.powers) refl refl
  where
    go : (a b : Bool) → is_non_residue k ≡ a → absent (fpow k n) s.powers ≡ b → Chosen n (tried is_non_residue (λ j. fpow j n) k s)
    go true true a b = rw (tried-kept is_non_residue (λ j. fpow j n) k s a b) (kept_chosen n s h k a b)
    go true false a b = rw (tried_coset is_non_residue (λ j. fpow j n) k s a b) h
    go false b a e = rw (tried_residue is_non_residue (λ j. fpow j n) k s a) h

search_chosen : (n fuel c k : ℕ) (s : Columns) → Chosen n s → Chosen n (search_from is_non_residue (λ j. fpow j n) fuel c k s)
unfolding search_from
search_chosen n zero c k s h = h
search_chosen n (suc fuel) c k s h = go (ltb (length s.values) c) refl (search_chosen n fuel c (suc k) (tried is_non_residue (λ j. fpow j n) k s) (tried_chosen n k s h))
  where
    more : Columns
    more = search_from is_non_residue (λ j. fpow j n) fuel c (suc k) (tried is_non_residue (λ j. fpow j n) k s)

    go : (b : Bool) → ltb (length s.values) c ≡ b → Chosen n more → Chosen n (pick (ltb (length s.values) c) more s)
    go true e m = rw e m
    go false e m = rw e h

pub found_chosen : (n c : ℕ) → Chosen n (found n c)
unfolding found
found_chosen n c = search_chosen n (p - 2) c 2 first_column (first_chosen n)

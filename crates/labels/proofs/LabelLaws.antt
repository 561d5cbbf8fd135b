-- What the layers above use of labels.
--
-- Main definition: `DistinctLabels` (below p, nonzero, pairwise distinct).
-- Main statements: `distinct_labels`, for any list of representatives that are `Cosets` of base; `search_cosets` (01's search gives such a
-- list); `powers_beside`, `zeros_behind`, `taken_enough` (what is handed back beside it); for the words that `labels_written` puts down: `written_is`, `written_refused`.
use Rattle.std.specs.Prelude.{◌≡◌, ◌≢◌, true, List, ◌++◌, ℕ, ◌+◌, ◌-◌, ◌*◌, ◌/◌, ◌%◌, ◌^◌, ◌≤◌, ◌<◌, length, get_or, drop, replicate}
use Rattle.std.proofs.Math.Path.{sym}
use Rattle.std.proofs.Common.{ap, ◌∙◌, subst, mod-lt, div-lt_iff_lt-mul, arith, get_or-append-add}
use Rattle.std.proofs.Math.Nat.{div-add-mod}
use Rattle.std.proofs.Math.Decide.{dec_lt}
use Rattle.std.proofs.lemmas.List.{length-replicate, get_or-replicate}
use Rattle.std.proofs.Math.ListN.{get_or-append, get_or-eq_default}
use borrow.Author.Tests.{lt-ltb, le-leb, eq-eqb, ne_eqb}
use Rattle.base.specs.Pick.{pick, pick-zero}
use Rattle.base.specs.Exponent.{exponent}
use Rattle.base.specs.Tables.{table}
use Rattle.base.specs.Modular.{mul-mod}
use Rattle.base.specs.Roots.{Root}
use Rattle.base.specs.Cosets.{Cosets, coset_apart, coset_nonzero}
use Rattle.field.specs.Field.{p, fpow, is_non_residue}
use Rattle.field.proofs.FieldLaws.{fmul_below}
use Rattle.labels.specs.Refusals.{out_of_range, candidates_reach_p}
use Rattle.labels.specs.Ranges.{ranges_fit, most_columns}
use Rattle.labels.specs.RangesLaws.{Ranges, ranges-fit, some_row}
use Rattle.labels.specs.Labels.{domain_generator, first_column, found, powers_taken, search_number, column_words, representatives_number, representatives_of, powers_of, taken_of, label_of, label_number, label_answer, fill_number, labels_written}
use Rattle.labels.proofs.Search.{search_taken, search_most, found_chosen}
use Rattle.labels.proofs.Filling.{generator_root}

-- labels at the first m words of a list
pub record DistinctLabels (m : ℕ) (labels : List ℕ) : Type 0 where
  pub below : (i : ℕ) → i < m → get_or labels i 0 < p
  pub nonzero : (i : ℕ) → i < m → get_or labels i 0 ≢ 0
  pub apart : (i j : ℕ) → i < m → j < m → get_or labels i 0 ≡ get_or labels j 0 → i ≡ j

-- a label as a product with a plain power
label_product : (n : ℕ) (reps : List ℕ) (cell : ℕ) → label_of n reps cell ≡ get_or reps (cell / n) 0 * domain_generator n ^ (cell % n) % p
unfolding label_of fpow
label_product n reps cell = mul-mod (get_or reps (cell / n) 0) (domain_generator n ^ (cell % n)) p

label_below : (n : ℕ) (reps : List ℕ) (cell : ℕ) → label_of n reps cell < p
unfolding label_of
label_below n reps cell = fmul_below (get_or reps (cell / n) 0) (fpow (domain_generator n) (cell % n))

-- the representatives of a list, by column
abbrev pub column_rep : List ℕ → ℕ → ℕ
column_rep reps i = get_or reps i 0

module _ (n c : ℕ) (r : Ranges n c) (reps : List ℕ) (cosets : Cosets p n c (column_rep reps)) where
  cosets' : Cosets p (2 ^ exponent n) c (column_rep reps)
  cosets' = subst (λ (m : ℕ). Cosets p m c (column_rep reps)) (sym r.power) cosets

  column-of : (i : ℕ) → i < c * n → i / n < c
  column-of i h = (div-lt_iff_lt-mul (some_row n c r)).1 h

  row_of : (i : ℕ) → i % n < 2 ^ exponent n
  row_of i = rw r.power (mod-lt i (some_row n c r))

  root : Root p (exponent n) (domain_generator n)
  root = generator_root n c r

  pub label_nonzero : (i : ℕ) → i < c * n → label_of n reps i ≢ 0
  label_nonzero i h q =
      coset_nonzero p (omega arith) (exponent n) (domain_generator n) root c (column_rep reps) cosets'
      (i / n) (i % n) (column-of i h) (row_of i) (sym (label_product n reps i) ∙ q)

  pub label_apart : (i j : ℕ) → i < c * n → j < c * n → label_of n reps i ≡ label_of n reps j → i ≡ j
  label_apart i j hi hj q =
      let e = sym (label_product n reps i) ∙ q ∙ label_product n reps j in
      let d = coset_apart p (omega arith) (exponent n) (domain_generator n) root c (column_rep reps) cosets'
      (i / n) (j / n) (i % n) (j % n) (column-of i hi) (column-of j hj) (row_of i) (row_of j) e in
      sym (div-add-mod i n) ∙ rw (d.0, d.1) (div-add-mod j n)

  -- a list that begins with the labels of all cells
  pub distinct_labels : (labels : List ℕ) → ((i : ℕ) → i < c * n → get_or labels i 0 ≡ label_of n reps i) → DistinctLabels (c * n) labels
  distinct_labels labels at =
      record {
        below = λ i h. rw (at i h) (label_below n reps i);
        nonzero = λ i h q. label_nonzero i h (sym (at i h) ∙ q);
        apart = λ i j h l q. label_apart i j h l (sym (at i h) ∙ q ∙ at j l);
      }

search_enough : (n c : ℕ) → search_number n c ≡ 0 → c ≤ length (found n c).values
unfolding search_number
search_enough n c z = go (dec_lt (length (found n c).values) c)
  where
    go : Dec (length (found n c).values < c) → c ≤ length (found n c).values
    go (yes a) = let e : candidates_reach_p ≡ 0 = rw (lt-ltb (length (found n c).values) c a) at z in absurd (omega arith)
    go (no a) = omega arith

found_most : (n c : ℕ) → 1 ≤ c → length (found n c).values ≤ c
unfolding found
found_most n c h = search_most is_non_residue (λ k. fpow k n) (p - 2) c 2 first_column h

-- what an accepted search gives
pub record AcceptedSearch (n c : ℕ) : Type 0 where
  pub ranges : Ranges n c
  pub many : length (found n c).values ≡ c
  pub answer : representatives_of n c ≡ column_words (found n c).values
  pub powers : powers_of n c ≡ column_words (found n c).powers
  pub taken : taken_of n c ≡ powers_taken n c

accepted_search : (n c : ℕ) → representatives_number n c ≡ 0 → AcceptedSearch n c
unfolding representatives_number representatives_of powers_of taken_of
accepted_search n c z =
    let q = pick-zero (ranges_fit n c) (search_number n c) out_of_range (omega arith) z in
    let r = ranges-fit n c q.0 in
    record {
      ranges = r;
      many = omega (arith, search_enough n c q.1, found_most n c r.some-column);
      answer = rw (eq-eqb (pick (ranges_fit n c) (search_number n c) out_of_range) 0 z);
      powers = rw (eq-eqb (pick (ranges_fit n c) (search_number n c) out_of_range) 0 z);
      taken = rw (eq-eqb (pick (ranges_fit n c) (search_number n c) out_of_range) 0 z);
    }

-- an accepted search finds C columns
pub found_all : (n c : ℕ) → representatives_number n c ≡ 0 → length (found n c).values ≡ c
found_all n c z = (accepted_search n c z).many

-- column 0 is there from the start, and every other column has cost a power
found-taken : (n c : ℕ) → length (found n c).values ≤ 1 + powers_taken n c
unfolding found powers_taken
found-taken n c = search_taken is_non_residue (λ k. fpow k n) (p - 2) c 2 first_column

-- the word of a column that has one
padded-at : (xs : List ℕ) (i : ℕ) → i < length xs → get_or (column_words xs) i 0 ≡ get_or xs i 0
padded-at xs i h = get_or-append xs (replicate (most_columns - length xs) 0) 0 i h

-- a list of zeros is read as 0 everywhere, past its end too
zero-at : (n i : ℕ) → get_or (replicate {A = ℕ} n 0) i 0 ≡ 0
zero-at n i = go (dec_lt i n)
  where
    go : Dec (i < n) → get_or (replicate {A = ℕ} n 0) i 0 ≡ 0
    go (yes h) = get_or-replicate n i 0 0 h
    go (no h) = get_or-eq_default (replicate {A = ℕ} n 0) 0 (rw length-replicate (omega arith))

-- the word of a column that has none
padded_behind : (xs : List ℕ) (i : ℕ) → length xs ≤ i → get_or (column_words xs) i 0 ≡ 0
padded_behind xs i h =
    let e : i ≡ length xs + (i - length xs) = omega arith in
    ap (λ (j : ℕ). get_or (column_words xs) j 0) e ∙ get_or-append-add xs (replicate (most_columns - length xs) 0) (i - length xs) 0 ∙ zero-at (most_columns - length xs) (i - length xs)

module _ (n c : ℕ) (z : representatives_number n c ≡ 0) where
  rep_at : (i : ℕ) → i < c → get_or (representatives_of n c) i 0 ≡ get_or (found n c).values i 0
  rep_at i h =
      let a = accepted_search n c z in
      ap (λ (l : List ℕ). get_or l i 0) a.answer ∙ padded-at (found n c).values i (omega (arith, a.many))

  -- column 0 has representative 1
  pub column-zero : get_or (representatives_of n c) 0 0 ≡ 1
  column-zero = rep_at 0 (accepted_search n c z).ranges.some-column ∙ (found_chosen n c).first

  -- 02, Change 3: beside each representative stands its N-th power
  pub powers_beside : (i : ℕ) → i < c → get_or (powers_of n c) i 0 ≡ fpow (get_or (representatives_of n c) i 0) n
  powers_beside i h =
      let a = accepted_search n c z in
      let f = found_chosen n c in
      let l : i < length (found n c).values = omega (arith, a.many) in
      ap (λ (w : List ℕ). get_or w i 0) a.powers ∙ padded-at (found n c).powers i (omega (arith, f.beside))
      ∙ f.power i l ∙ ap (λ (x : ℕ). fpow x n) (sym (rep_at i h))

  -- what stands behind the words of the C columns
  pub zeros_behind : (i : ℕ) → c ≤ i → (get_or (representatives_of n c) i 0 ≡ 0) × (get_or (powers_of n c) i 0 ≡ 0)
  zeros_behind i h =
      let a = accepted_search n c z in
      let f = found_chosen n c in (
        ap (λ (w : List ℕ). get_or w i 0) a.answer ∙ padded_behind (found n c).values i (omega (arith, a.many)),
        ap (λ (w : List ℕ). get_or w i 0) a.powers ∙ padded_behind (found n c).powers i (omega (arith, a.many, f.beside)),
      )

  -- no column but column 0 got its representative without a power that counts
  pub taken_enough : c - 1 ≤ taken_of n c
  taken_enough = let a = accepted_search n c z in omega (arith, a.many, a.taken, found-taken n c)

  -- 01's rule gives representatives of different cosets
  pub search_cosets : Cosets p n c (column_rep (representatives_of n c))
  unfolding fpow
  search_cosets =
      let a = accepted_search n c z in
      let f = found_chosen n c in
      record {
        units = λ i h. rw (rep_at i h) (f.unit i (omega (arith, a.many)));
        apart = λ i j h l q.
            f.apart i j (omega (arith, a.many)) (omega (arith, a.many))
            (f.power i (omega (arith, a.many)) ∙ rw (rep_at i h, rep_at j l) at q ∙ sym (f.power j (omega (arith, a.many))));
      }

-- ---- a label asked for by itself
module _ (n c cell : ℕ) where
  pub label-number : ranges_fit n c ≡ true → cell < c * n → label_number n c cell ≡ representatives_number n c
  unfolding label_number representatives_number
  label-number t l = rw (t, lt-ltb cell (c * n) l)

  pub label_accepted : label_number n c cell ≡ 0 → label_answer n c cell ≡ label_of n (representatives_of n c) cell
  unfolding label_answer
  label_accepted z = rw (eq-eqb (label_number n c cell) 0 z)

  pub label_refused : label_number n c cell ≢ 0 → label_answer n c cell ≡ 0
  unfolding label_answer
  label_refused d = rw (ne_eqb (label_number n c cell) 0 d)

-- ---- the words that filling puts down
module _ (n c : ℕ) (copies : List ℕ) where
  pub fill-number : ranges_fit n c ≡ true → c * n ≤ length copies → fill_number n c copies ≡ representatives_number n c
  unfolding fill_number representatives_number
  fill-number t l = rw (t, le-leb (c * n) (length copies) l)

  pub written_refused : fill_number n c copies ≢ 0 → labels_written n c copies ≡ copies
  unfolding labels_written
  written_refused h = rw (ne_eqb (fill_number n c copies) 0 h)

  pub written_is : fill_number n c copies ≡ 0 → labels_written n c copies ≡ table (c * n) (label_of n (representatives_of n c)) ++ drop (c * n) copies
  unfolding labels_written
  written_is fine = rw (eq-eqb (fill_number n c copies) 0 fine)

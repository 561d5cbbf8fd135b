-- 01's worked representatives, computed: the search runs with the power by squaring, which is the field's power.
--
-- Main statements: `search_same`, `taken_same` (equal functions give the same search and the same count), `found_computes`, `taken_computes`,
-- `worked_labels` (P4 with its powers, 56 passed over at N = 64, how many powers are taken, and the labels of P8 and P9).
use Rattle.std.specs.Prelude.{◌≡◌, Bool, true, false, List, [], ◌∷◌, ◌++◌, ltb, eqb, T, length, get_or}
use Rattle.std.proofs.Math.Path.{refl}
use Rattle.std.proofs.Common.{ap, ◌∙◌}
use Prim.Native.Nat.{ℕ, zero, suc, ◌-◌, ◌/◌, ◌%◌, ◌^◌}
use Rattle.base.specs.Exponent.{exponent_from}
use Rattle.base.specs.Powers.{fast}
use Rattle.base.specs.Tables.{table}
use Rattle.field.specs.Field.{p, fmul, fpow, is_non_residue, squared}
use Rattle.field.proofs.Numerals.{power, generator_is}
use Rattle.labels.specs.Ranges.{ranges_fit}
use Rattle.labels.specs.Labels.{Columns, absent, tried, search_from, found, first_column, taken_from, powers_taken, search_number, column_words, representatives_number, representatives_of, powers_of, taken_of, domain_generator, label_of}

module _ (test test' : ℕ → Bool) (power power' : ℕ → ℕ) (same_test : (k : ℕ) → test k ≡ test' k) (same_power : (k : ℕ) → power k ≡ power' k) where
  tried_same : (k : ℕ) (s : Columns) → tried test power k s ≡ tried test' power' k s
  unfolding tried
  tried_same k s = rw (same_test k, same_power k)

  pub search_same : (fuel c k : ℕ) (s : Columns) → search_from test power fuel c k s ≡ search_from test' power' fuel c k s
  unfolding search_from
  search_same zero c k s = refl
  search_same (suc fuel) c k s = rw (tried_same k s, search_same fuel c (suc k) (tried test' power' k s))

  pub taken_same : (fuel c k : ℕ) (s : Columns) → taken_from test power fuel c k s ≡ taken_from test' power' fuel c k s
  unfolding taken_from
  taken_same zero c k s = refl
  taken_same (suc fuel) c k s = rw (same_test k, tried_same k s, taken_same fuel c (suc k) (tried test' power' k s))

-- the non-residue test and the N-th power, by squaring
abbrev fast_test : ℕ → Bool
fast_test k = eqb (fast 64 k 9223372034707292160 p) (p - 1)

abbrev fast_found : ℕ → ℕ → Columns
fast_found n c = search_from fast_test (λ k. fast 64 k n p) (p - 2) c 2 first_column

abbrev fast_taken : ℕ → ℕ → ℕ
fast_taken n c = taken_from fast_test (λ k. fast 64 k n p) (p - 2) c 2 first_column

fast-test : (k : ℕ) → is_non_residue k ≡ fast_test k
fast-test k = ap (λ (x : ℕ). eqb x (p - 1)) (power k 9223372034707292160 tt)

found_computes : (n c : ℕ) → T (ltb n (2 ^ 64)) → found n c ≡ fast_found n c
unfolding found
found_computes n c h = search_same is_non_residue fast_test (λ k. fpow k n) (λ k. fast 64 k n p) fast-test (λ k. power k n h) (p - 2) c 2 first_column

taken_computes : (n c : ℕ) → T (ltb n (2 ^ 64)) → powers_taken n c ≡ fast_taken n c
unfolding powers_taken
taken_computes n c h = taken_same is_non_residue fast_test (λ k. fpow k n) (λ k. fast 64 k n p) fast-test (λ k. power k n h) (p - 2) c 2 first_column

-- where the ranges fit and the search is known, so are the number and the answer
known_number : (n c : ℕ) (vs : List ℕ) → ranges_fit n c ≡ true → (found n c).values ≡ vs → ltb (length vs) c ≡ false → representatives_number n c ≡ 0
unfolding representatives_number search_number
known_number n c vs h e l = rw (h, e, l)

known_answer : (n c : ℕ) (vs : List ℕ) → representatives_number n c ≡ 0 → (found n c).values ≡ vs → representatives_of n c ≡ column_words vs
unfolding representatives_of
known_answer n c vs z e = rw (z, e)

known_powers : (n c : ℕ) (ps : List ℕ) → representatives_number n c ≡ 0 → (found n c).powers ≡ ps → powers_of n c ≡ column_words ps
unfolding powers_of
known_powers n c ps z e = rw (z, e)

known_taken : (n c t : ℕ) → representatives_number n c ≡ 0 → powers_taken n c ≡ t → taken_of n c ≡ t
unfolding taken_of
known_taken n c t z e = rw (z, e)

two-five : (found 2 5).values ≡ 1 ∷ 7 ∷ 11 ∷ 13 ∷ 14 ∷ []
unfolding search_from tried absent fast
two-five = ap (λ (s : Columns). s.values) (found_computes 2 5 tt)

two-five_powers : (found 2 5).powers ≡ 1 ∷ 49 ∷ 121 ∷ 169 ∷ 196 ∷ []
unfolding search_from tried absent fast
two-five_powers = ap (λ (s : Columns). s.powers) (found_computes 2 5 tt)

two-five-taken : powers_taken 2 5 ≡ 4
unfolding taken_from tried absent fast
two-five-taken = taken_computes 2 5 tt

-- the representatives of columns 0 to 22, which are the same at N = 32 and at N = 64
abbrev shared23 : List ℕ
shared23 =
    1 ∷ 7 ∷ 11 ∷ 13 ∷ 14 ∷ 19 ∷ 21 ∷ 22 ∷ 26 ∷ 28 ∷ 31 ∷ 33 ∷ 35 ∷ 37 ∷ 38 ∷ 39 ∷ 42 ∷ 43 ∷ 44 ∷ 47 ∷ 52 ∷ 53 ∷ 55 ∷ []

short_columns : (found 32 24).values ≡ shared23 ++ (56 ∷ [])
unfolding search_from tried absent fast
short_columns = ap (λ (s : Columns). s.values) (found_computes 32 24 tt)

long-columns : (found 64 24).values ≡ shared23 ++ (57 ∷ [])
unfolding search_from tried absent fast
long-columns = ap (λ (s : Columns). s.values) (found_computes 64 24 tt)

short_taken : powers_taken 32 24 ≡ 23
unfolding taken_from tried absent fast
short_taken = taken_computes 32 24 tt

long-taken : powers_taken 64 24 ≡ 24
unfolding taken_from tried absent fast
long-taken = taken_computes 64 24 tt

two-two : (found 2 2).values ≡ 1 ∷ 7 ∷ []
unfolding search_from tried absent fast
two-two = ap (λ (s : Columns). s.values) (found_computes 2 2 tt)

-- the generator squared 31 times is -1
squared_31 : squared 31 1753635133440165772 ≡ p - 1
unfolding squared
squared_31 = refl

domain_two : domain_generator 2 ≡ p - 1
unfolding domain_generator exponent_from
domain_two = ap (squared 31) generator_is ∙ squared_31

label_two : (cell : ℕ) → T (ltb (cell % 2) (2 ^ 64)) → representatives_of 2 2 ≡ column_words (1 ∷ 7 ∷ [])
    → label_of 2 (representatives_of 2 2) cell ≡ fmul (get_or (column_words (1 ∷ 7 ∷ [])) (cell / 2) 0) (fast 64 (p - 1) (cell % 2) p)
unfolding label_of
label_two cell h e = rw (e, domain_two, power (p - 1) (cell % 2) h)

labels_two : representatives_of 2 2 ≡ column_words (1 ∷ 7 ∷ []) → table 4 (label_of 2 (representatives_of 2 2)) ≡ 1 ∷ (p - 1) ∷ 7 ∷ (p - 7) ∷ []
unfolding table fast
labels_two e = rw (label_two 0 tt e, label_two 1 tt e, label_two 2 tt e, label_two 3 tt e)

pub record WorkedLabels : Type 0 where
  -- "P4 N=2, C=5: representatives 1, 7, 11, 13, 14."
  pub p4_number : representatives_number 2 5 ≡ 0
  pub p4 : representatives_of 2 5 ≡ column_words (1 ∷ 7 ∷ 11 ∷ 13 ∷ 14 ∷ [])
  -- 02, Change 3, of P4: the squares beside them, and four non-residues tried
  pub p4_powers : powers_of 2 5 ≡ column_words (1 ∷ 49 ∷ 121 ∷ 169 ∷ 196 ∷ [])
  pub p4_taken : taken_of 2 5 ≡ 4
  -- 8 has order 64, so 56 = 8 * 7 lies in 7's coset from N = 64 on: column 23 of 24 has 56 at N = 32, and 57 at N = 64
  pub short_number : representatives_number 32 24 ≡ 0
  pub short : representatives_of 32 24 ≡ column_words (shared23 ++ (56 ∷ []))
  pub coset_number : representatives_number 64 24 ≡ 0
  pub coset : representatives_of 64 24 ≡ column_words (shared23 ++ (57 ∷ []))
  -- so 23 powers are taken at N = 32, and at N = 64 the one of 56 too
  pub short_powers_taken : taken_of 32 24 ≡ 23
  pub coset_powers_taken : taken_of 64 24 ≡ 24
  -- the labels of P8 and P9, N=2 and C=2: the columns 1, p−1 and 7, p−7
  pub labels_number : representatives_number 2 2 ≡ 0
  pub labels : table 4 (label_of 2 (representatives_of 2 2)) ≡ 1 ∷ (p - 1) ∷ 7 ∷ (p - 7) ∷ []

pub worked_labels : WorkedLabels
unfolding ranges_fit exponent_from
worked_labels =
    let a = known_number 2 5 _ refl two-five refl in
    let b = known_number 32 24 _ refl short_columns refl in
    let d = known_number 64 24 _ refl long-columns refl in
    let e = known_number 2 2 _ refl two-two refl in
    record {
      p4_number = a;
      p4 = known_answer 2 5 _ a two-five;
      p4_powers = known_powers 2 5 _ a two-five_powers;
      p4_taken = known_taken 2 5 _ a two-five-taken;
      short_number = b;
      short = known_answer 32 24 _ b short_columns;
      coset_number = d;
      coset = known_answer 64 24 _ d long-columns;
      short_powers_taken = known_taken 32 24 _ b short_taken;
      coset_powers_taken = known_taken 64 24 _ d long-taken;
      labels_number = e;
      labels = labels_two (known_answer 2 2 _ e two-two);
    }

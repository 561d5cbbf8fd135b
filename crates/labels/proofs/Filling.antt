-- The filling of label columns, for its proofs: column 0 is the powers of w, and every other column is its representative times column 0.
--
-- The second half of a column is p minus the first, since w to the power of half of N is p - 1.
--
-- Main definitions: `root_power`, `scaled_from`, `negated_from`, `HalfTurn`, `ColumnZero`.
-- Main statements: `generator_root`, `half_turn`; `power_begin`, `power_next`, `label_column` (a label is its column's representative times a word of column 0),
-- `label_first` (column 0's labels are the powers of w), `halves`, `power_halves`, `column-next` (one more column), `all_columns`.
use Rattle.std.specs.Prelude.{◌≡◌, List, ℕ, zero, suc, ◌+◌, ◌-◌, ◌*◌, ◌/◌, ◌%◌, ◌^◌, ◌≤◌, ◌<◌, length, get_or}
use Rattle.std.proofs.Common.{sym, ap, ◌∙◌, mul-le-mul_right, mul_assoc, zero-add, one-mul, mod-eq_of_lt, pow-suc, add-one, arith, pow-add}
use Rattle.std.proofs.Math.Nat.{sub-zero, mod-mod, div-eq_of_lt, pow-zero}
use Rattle.std.proofs.Math.Arith.{digits_mod, digits_div}
use Rattle.base.specs.Modular.{mod-mul, mul-mod, same_right, minus_one}
use Rattle.base.specs.Roots.{Root}
use Rattle.base.specs.Fills.{Filled, filled_join, filled_same}
use Rattle.field.proofs.FieldLaws.{domain_root}
use Rattle.field.specs.Field.{p, fsub, fmul, fpow}
use Rattle.base.specs.Exponent.{exponent}
use Rattle.labels.specs.RangesLaws.{Ranges}
use Rattle.labels.specs.Labels.{domain_generator, label_of}
use Rattle.labels.specs.Stretches.{ColumnZero, HalfTurn, negated_from, root_power, scaled_from}

pub power_begin : (n : ℕ) → 1 ≡ root_power n 0
unfolding fpow
power_begin n = rw pow-zero

pub power_next : (n i : ℕ) → fmul (root_power n i) (domain_generator n) ≡ root_power n (i + 1)
unfolding fpow
power_next n i = rw (mod-mul, add-one, pow-suc)

-- ---- the second half
pub generator_root : (n c : ℕ) → Ranges n c → Root p (exponent n) (domain_generator n)
unfolding domain_generator
generator_root n c r = domain_root (exponent n) (omega (arith, r.low))

pub half_turn : (n c : ℕ) → Ranges n c → HalfTurn n
half_turn n c r = go (exponent n) r.power (generator_root n c r)
  where
    go : (e : ℕ) → 2 ^ e ≡ n → Root p e (domain_generator n) → HalfTurn n
    go zero q h = let o : n ≡ 1 = sym q ∙ pow-zero 2 in record { even = λ l. absurd (omega arith); lone = λ z. omega arith; turn = λ l. absurd (omega arith) }
    go (suc m) q h =
        let d : n ≡ 2 ^ m * 2 = sym q ∙ pow-suc 2 m in
        let k : n / 2 ≡ 2 ^ m = omega arith in
        record { even = λ l. omega arith; lone = λ z. omega arith; turn = λ l. rw k h }

minus : (y : ℕ) → y * (p - 1) % p ≡ fsub 0 y
minus y = rw zero-add (minus_one y p (omega arith))

-- p minus a word read modulo p
minus_mod : (y : ℕ) → fsub 0 y ≡ fsub 0 (y % p)
minus_mod y = rw mod-mod

-- a product with a power of w, half of N further on
product_half : (n k r : ℕ) → domain_generator n ^ (n / 2) % p ≡ (p - 1) % p → k * domain_generator n ^ (r + n / 2) % p ≡ fsub 0 (k * domain_generator n ^ r % p)
product_half n k r h =
    let w = domain_generator n in
    rw (pow-add, ← mul_assoc) (same_right p (w ^ (n / 2)) (p - 1) (k * w ^ r) h ∙ minus (k * w ^ r) ∙ minus_mod (k * w ^ r))

-- the words g of a column that starts at a place are k times the powers of w: with their first half there, the rest is p minus it
pub halves : (n k at : ℕ) (g : ℕ → ℕ) (old x y : List ℕ) → HalfTurn n → ((i : ℕ) → at ≤ i → i < at + n → g i ≡ k * domain_generator n ^ (i - at) % p)
    → Filled g at (at + (n - n / 2)) old x → Filled (negated_from (n - n / 2) x) (at + (n - n / 2)) (at + (n - n / 2) + n / 2) x y → Filled g at (at + n) old y
halves n k at g old x y t is first rest =
    let e : at + (n - n / 2) + n / 2 ≡ at + n = omega arith in
    rw e at (filled_join g at (at + (n - n / 2)) (at + (n - n / 2) + n / 2) old x y (omega arith) (omega arith) first
    (filled_same (negated_from (n - n / 2) x) g (at + (n - n / 2)) (at + (n - n / 2) + n / 2) x y same rest))
  where
    same : (i : ℕ) → at + (n - n / 2) ≤ i → i < at + (n - n / 2) + n / 2 → negated_from (n - n / 2) x i ≡ g i
    same i l u =
        let some : 0 < n / 2 = omega arith in
        let two = t.even some in
        let j = i - (n - n / 2) in
        let q : j - at + n / 2 ≡ i - at = omega arith in
        ap (fsub 0) (first.inside j (omega arith) (omega arith) ∙ is j (omega arith) (omega arith)) ∙ sym (product_half n k (j - at) (t.turn some))
        ∙ ap (λ (d : ℕ). k * domain_generator n ^ d % p) q ∙ sym (is i (omega arith) (omega arith))

-- column 0
pub power_halves : (n : ℕ) (old x y : List ℕ) → HalfTurn n → Filled (root_power n) 0 (n - n / 2) old x
    → Filled (negated_from (n - n / 2) x) (0 + (n - n / 2)) (0 + (n - n / 2) + n / 2) x y → Filled (root_power n) 0 n old y
unfolding fpow
power_halves n old x y t first rest =
    let z : 0 + (n - n / 2) ≡ n - n / 2 = omega arith in
    let e : 0 + n ≡ n = omega arith in
    rw e at (halves n 1 0 (root_power n) old x y t (λ i h l. rw (one-mul, sub-zero)) (rw z first) rest)

label_first : (n : ℕ) (reps : List ℕ) (i : ℕ) → i < n → get_or reps 0 0 ≡ 1 → root_power n i ≡ label_of n reps i
unfolding label_of fpow
label_first n reps i h e = rw (div-eq_of_lt h, mod-eq_of_lt h, e, one-mul, mod-mod)

label_column : (n : ℕ) (reps : List ℕ) (column i : ℕ) → column * n ≤ i → i < column * n + n
    → fmul (get_or reps column 0) (root_power n (i - column * n)) ≡ label_of n reps i
unfolding label_of
label_column n reps column i h l =
    let r = i - column * n in
    let e : i ≡ column * n + r = omega arith in
    let q : i / n ≡ column = ap (λ (j : ℕ). j / n) e ∙ digits_div column (omega arith) in
    let m : i % n ≡ r = ap (λ (j : ℕ). j % n) e ∙ digits_mod column (omega arith) in
    sym (rw (q, m))

-- what a column's filling needs of its place
pub column_place : (n c column : ℕ) (words : List ℕ) → 1 ≤ column → column < c → c * n ≤ length words → (n ≤ column * n) × (column * n + n ≤ length words)
column_place n c column words o l room = (omega (arith, mul-le-mul_right n o), omega (arith, mul-le-mul_right n l))

pub column-next : (n c column : ℕ) (reps old x y z : List ℕ) → ColumnZero n c old → HalfTurn n → 1 ≤ column → Filled (label_of n reps) n (column * n) old x
    → Filled (scaled_from (get_or reps column 0) (column * n) x) (column * n) (column * n + (n - n / 2)) x y
    → Filled (negated_from (n - n / 2) y) (column * n + (n - n / 2)) (column * n + (n - n / 2) + n / 2) y z → Filled (label_of n reps) n ((column + 1) * n) old z
unfolding fpow
column-next n c column reps old x y z first t o done new rest =
    let next : column * n + n ≡ (column + 1) * n = omega arith in
    let half = filled_same (scaled_from (get_or reps column 0) (column * n) x) (label_of n reps) (column * n) (column * n + (n - n / 2)) x y same new in
    let here = halves n (get_or reps column 0) (column * n) (label_of n reps) x y z t is half rest in
    rw next at (filled_join (label_of n reps) n (column * n) (column * n + n) old x z (omega (arith, mul-le-mul_right n o)) (omega arith) done here)
  where
    same : (i : ℕ) → column * n ≤ i → i < column * n + (n - n / 2) → scaled_from (get_or reps column 0) (column * n) x i ≡ label_of n reps i
    same i h l =
        ap (fmul (get_or reps column 0)) (done.before (i - column * n) (omega arith) ∙ first.powers (i - column * n) (omega arith))
        ∙ label_column n reps column i h (omega arith)

    is : (i : ℕ) → column * n ≤ i → i < column * n + n → label_of n reps i ≡ get_or reps column 0 * domain_generator n ^ (i - column * n) % p
    is i h l = sym (label_column n reps column i h l) ∙ mul-mod (get_or reps column 0) (domain_generator n ^ (i - column * n)) p

-- column 0 and then the others
pub all_columns : (n c : ℕ) (reps old x y : List ℕ) → 1 ≤ c → get_or reps 0 0 ≡ 1 → Filled (root_power n) 0 n old x → Filled (label_of n reps) n (c * n) x y
    → Filled (label_of n reps) 0 (c * n) old y
all_columns n c reps old x y o one first rest =
    filled_join (label_of n reps) 0 n (c * n) old x y (omega arith) (omega (arith, mul-le-mul_right n o))
    (filled_same (root_power n) (label_of n reps) 0 n old x (λ i h l. label_first n reps i l one) first) rest

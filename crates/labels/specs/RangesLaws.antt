-- What the ranges of N and C give.
--
-- Main definition: `Ranges`. Main statements: `ranges-fit`, `some_row`, `cells_fit`.
use Rattle.std.specs.Prelude.{◌≡◌, true, ℕ, ◌*◌, ◌^◌, ◌≤◌, ◌<◌, leb}
use Rattle.std.proofs.Common.{mul-le-mul, arith, pow_pos, leb-true}
use Rattle.base.specs.Pick.{both_true}
use Rattle.base.specs.Exponent.{is_power, exponent, power_is, exponent-least}
use Rattle.labels.specs.Ranges.{longest_trace, trace_fits, most_columns, columns_fit, ranges_fit}

-- what the ranges give
pub record Ranges (n c : ℕ) : Type 0 where
  pub power : 2 ^ exponent n ≡ n
  pub long : n ≤ longest_trace
  pub low : exponent n ≤ 16
  pub some-column : 1 ≤ c
  pub columns : c ≤ most_columns

pub ranges-fit : (n c : ℕ) → ranges_fit n c ≡ true → Ranges n c
unfolding ranges_fit
ranges-fit n c e =
    let b = both_true (trace_fits n) (columns_fit c) e in
    let t = both_true (leb n longest_trace) (is_power n) b.0 in
    let k = both_true (leb 1 c) (leb c most_columns) b.1 in
    let l : n ≤ 65536 = leb-true n longest_trace t.0 in
    record {
      power = power_is n t.1;
      long = l;
      low = exponent-least n 16 l;
      some-column = leb-true 1 c k.0;
      columns = leb-true c most_columns k.1;
    }

pub some_row : (n c : ℕ) → Ranges n c → 1 ≤ n
some_row n c r = let z : 0 < 2 ^ exponent n = pow_pos (exponent n) in omega (arith, r.power)

-- the cells of all columns: at most 4,194,304
pub cells_fit : (n c : ℕ) → Ranges n c → c * n ≤ 4194304
cells_fit n c r = mul-le-mul r.columns r.long

-- A part of a slice from a place s on, of n words, as a callee sees it. Assumes nothing.
use mathlib.Core.Path.{◌≡◌, ap}
use mathlib.Core.List.{List}
use Prim.Native.Nat.{ℕ, ◌+◌, ◌-◌, ◌≤◌}
use native.Mathlib.Omega.{arith}
use lib.ListN.{length, take, drop, length-drop}
use lib.Seq.{length-take-le, take_all}

module _ (ws : List ℕ) (s n : ℕ) where
  pub part_is : take (s + n - s) (drop s ws) ≡ take n (drop s ws)
  part_is = let e : s + n - s ≡ n = omega arith in ap (λ (k : ℕ). take k (drop s ws)) e

  pub part_length : s + n ≤ length ws → length (take (s + n - s) (drop s ws)) ≡ n
  part_length h =
      let e : s + n - s ≡ n = omega arith in
      rw e (length-take-le n (drop s ws) (omega (arith, length-drop s ws)))

-- all words from a place on
pub rest_is : (ws : List ℕ) (i : ℕ) → take (length ws - i) (drop i ws) ≡ drop i ws
rest_is ws i = take_all (length ws - i) (drop i ws) (omega (arith, length-drop i ws))

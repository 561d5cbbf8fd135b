-- A place that goes by `step` words, n times: it stays within a list of `len` words. For the loop that takes every `step`-th word. Assumes nothing.
use mathlib.Core.Path.{◌≡◌}
use Prim.Native.Nat.{ℕ, suc, ◌+◌, ◌-◌, ◌*◌, ◌≤◌, ◌<◌}
use native.Mathlib.Omega.{arith}

-- i places are passed
pub record Stride (n step len i place : ℕ) : Type 0 where
  pub within : i ≤ n
  pub room : place + (n - i) * step < len + step

module _ (n step len i place : ℕ) (s : Stride n step len i place) (h : i < n) where
  more : place + suc (n - (i + 1)) * step < len + step
  more = let e : n - i ≡ suc (n - (i + 1)) = omega arith in rw e at s.room

  pub stride_in : place < len
  stride_in = omega (arith, more)

  pub stride_next : Stride n step len (i + 1) (place + step)
  stride_next = record { within = omega arith; room = omega (arith, more) }

-- `field::fold` meets its contract. Each step may pass 0 or 2 ^ 64, and is brought back by a multiple of p.
use Rattle.std.proofs.Common.{◌≡◌, ◌+◌, ◌/◌, ◌^◌, ◌<◌, ◌⊎◌, inl, inr, arith}
use Rattle.field.specs.Field.{p}
use Rattle.field.proofs.Wide.{steps}
use Rattle.field.proofs.fold.Goals.{Joined-l-hh, then-l-hh, else-l-hh}
use Rattle.field.proofs.fold.Goals as goal

-- the difference, and that it is a word
difference : (c : Joined-l-hh) → (c.if-l-hh.t + c.args.h / 2 ^ 32 ≡ c.args.l + p) ⊎ (c.if-l-hh.t + c.args.h / 2 ^ 32 ≡ c.args.l)
difference c = elim c.if-l-hh.branch [ then-l-hh w ↦ inl (omega arith) | else-l-hh w ↦ inr (omega arith) ]

word : (c : Joined-l-hh) → c.if-l-hh.t < 2 ^ 64
word c = elim c.if-l-hh.branch [ then-l-hh w ↦ omega arith | else-l-hh w ↦ omega arith ]

pub returns-then-s-m : goal.returns-then-s-m
returns-then-s-m c =
    let a = c.args in
    steps a.h a.l c.if-l-hh.t _ (difference c.before.before) (inl (omega (arith, word c.before.before)))

pub returns-else-s-m : goal.returns-else-s-m
returns-else-s-m c =
    let a = c.args in
    steps a.h a.l c.if-l-hh.t _ (difference c.before.before) (inr (omega (arith, word c.before.before)))

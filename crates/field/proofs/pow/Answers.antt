-- `field::pow` meets its contract. The loop's invariant: the result is below p, and times the base to what is left of the exponent it is the power. The measure is what is left of it.
use Rattle.std.proofs.Common.{◌≡◌, ℕ, ◌*◌, ◌/◌, ◌%◌, ◌^◌, ◌<◌, sym, refl, ap, ◌∙◌, mod-eq_of_lt, one-mul, mul-one, arith}
use Rattle.std.proofs.Math.Nat.{pow-zero, mod-mod}
use Rattle.base.specs.Modular.{same_turn}
use Rattle.base.specs.Powers.{pow-one, square_turn}
use Rattle.field.specs.Field.{p, fmul, fpow}
use Rattle.field.proofs.FieldLaws.{fmul_below}
use Rattle.field.proofs.pow.Goals.{then-e-eq1, else-e-eq1}
use Rattle.field.proofs.pow.Goals as goal

-- a turn at an odd exponent and at an even one
odd : (r b e : ℕ) → e % 2 ≡ 1 → fmul r b * fmul b b ^ (e / 2) % p ≡ r * b ^ e % p
odd r b e h =
    same_turn p (fmul r b) (r * b) (fmul b b) (b * b) (e / 2) (mod-mod (r * b) p) (mod-mod (b * b) p) ∙ ap (λ (n : ℕ). n % p) (rw (h, pow-one) at (square_turn r b e))

even : (r b e : ℕ) → e % 2 ≡ 0 → r * fmul b b ^ (e / 2) % p ≡ r * b ^ e % p
even r b e h =
    same_turn p r r (fmul b b) (b * b) (e / 2) refl (mod-mod (b * b) p) ∙ ap (λ (n : ℕ). n % p) (rw (h, pow-zero, mul-one) at (square_turn r b e))

-- when nothing is left of the exponent, the power is the result
done : (r b e : ℕ) → r < p → e ≡ 0 → r ≡ r * b ^ e % p
done r b e l h = rw (h, pow-zero, mul-one) (sym (mod-eq_of_lt l))

pub loop-e-init : goal.loop-e-init
unfolding fpow
loop-e-init c = (omega arith, rw one-mul)

pub loop-e-preserved : goal.loop-e-preserved
loop-e-preserved c =
    let l = c.loop-e in
    elim c.if-e-eq1.branch [
      | then-e-eq1 w ↦ rw (w.r-is, w.mul-r.ensures, c.mul-b.ensures) (fmul_below l.r l.b, odd l.r l.b l.e w.if-e-eq1.true ∙ l.invariant.1)
      | else-e-eq1 w ↦ rw (w.r-is, c.mul-b.ensures) (l.invariant.0, even l.r l.b l.e (omega arith) ∙ l.invariant.1)
    ]

pub returns : goal.returns
returns c =
    let l = c.loop-e in
    done l.r l.b l.e l.invariant.0 (omega arith) ∙ l.invariant.1

-- `field::add` meets its contract.
use native.Mathlib.Nat.{add-mod_right, mod-add-mod}
use Rattle.std.proofs.Common.{◌≡◌, ℕ, ◌+◌, ◌%◌, sym, ap, ◌∙◌, arith}
use Rattle.field.specs.Field.{p}
use Rattle.field.proofs.add.Goals.{Joined-s-x, then-s-x, else-s-x}
use Rattle.field.proofs.add.Goals as goal

-- the corrected sum is the sum, or the sum less p
sum : (c : Joined-s-x) → c.if-s-x.w % p ≡ (c.reduce-x.result + c.args.b) % p
sum c =
    let x = c.reduce-x.result in
    let b = c.args.b in
    elim c.if-s-x.branch [
      | then-s-x w ↦ let e : c.if-s-x.w + p ≡ x + b = omega arith in sym (add-mod_right c.if-s-x.w p) ∙ ap (λ (n : ℕ). n % p) e
      | else-s-x w ↦ let e : c.if-s-x.w ≡ x + b = omega arith in ap (λ (n : ℕ). n % p) e
    ]

pub returns : goal.returns
returns c = c.reduce.ensures ∙ sum c.before ∙ rw (c.reduce-x.ensures, mod-add-mod)

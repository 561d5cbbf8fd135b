-- `field::mul` meets its contract: the two words of the product make up the product.
use Rattle.std.proofs.Common.{ℕ, ◌*◌, ◌%◌, ◌^◌, ap, ◌∙◌, div-add-mod'}
use Rattle.field.specs.Field.{p}
use Rattle.field.proofs.mul.Goals as goal

pub returns : goal.returns
returns c =
    let a = c.args in
    c.reduce.ensures ∙ c.fold.ensures ∙ rw (c.from.ensures, c.from-2.ensures) (ap (λ (x : ℕ). x % p) (div-add-mod' (a.a * a.b) (2 ^ 64)))

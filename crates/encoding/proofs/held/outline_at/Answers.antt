-- `held::outline_at` meets its contract: the lookup mode's words, then each number from its place.
use Rattle.std.proofs.Common.{false, true, ◌∙◌, ◌≡◌, ap, refl, sym}
use Rattle.parameters.specs.declared.parameters.Parameters.{Parameters}
use Rattle.encoding.specs.Encoding.{lookup_fits, lookup_there}
use Rattle.encoding.proofs.held.outline_at.Goals as goal

pub returns-then-not-lookup_fits : goal.returns-then-not-lookup_fits
returns-then-not-lookup_fits c =
    let there : c.lookup_fits.result ≡ lookup_there c.args.words.now = c.lookup_fits.ensures ∙ ap (λ (q : Parameters). lookup_fits q.mode q.width q.share) c.parameters_at-parameters.ensures in
    let t : lookup_there c.args.words.now ≡ false = sym (there) ∙ c.if-not-lookup_fits.true in
    rw t refl

pub returns : goal.returns
returns c =
    let there : c.lookup_fits.result ≡ lookup_there c.args.words.now = c.lookup_fits.ensures ∙ ap (λ (q : Parameters). lookup_fits q.mode q.width q.share) c.parameters_at-parameters.ensures in
    let t : lookup_there c.args.words.now ≡ true = sym (there) ∙ c.if-not-lookup_fits.false in
    rw (c.lookup-lookup.ensures, c.parameters_at-parameters.ensures, t) refl

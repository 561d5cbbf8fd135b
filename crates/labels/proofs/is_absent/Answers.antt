-- `labels::is_absent` meets its contract: no word equals x.
use Rattle.std.proofs.Common.{◌≡◌, refl, sym, ap, ◌∙◌, ℕ, false, List, [], ◌∷◌, eq-eqb, ne_eqb, ◌||◌}
use Rattle.std.proofs.Math.Dec.{eqb}
use Rattle.std.proofs.Math.Decide.{ℕ_discrete}
use Rattle.base.specs.Pick.{pick}
use Rattle.std.proofs.Math.Bool.{not}
use Rattle.std.specs.List.{list_any}
use Rattle.labels.specs.Labels.{absent}
use Rattle.labels.proofs.is_absent.Goals as goal

absent-none : (x : ℕ) (ys : List ℕ) → not (list_any (λ y. eqb y x) ys) ≡ absent x ys
unfolding absent
absent-none x [] = refl
absent-none x (y ∷ ys) = go (ℕ_discrete x y) (absent-none x ys)
  where
    go : Dec (x ≡ y) → not (list_any (λ z. eqb z x) ys) ≡ absent x ys → not (eqb y x || list_any (λ z. eqb z x) ys) ≡ pick (eqb x y) false (absent x ys)
    go (yes e) h = rw (eq-eqb x y e, eq-eqb y x (sym e)) refl
    go (no n) h = rw (ne_eqb x y n, ne_eqb y x (λ e. n (sym e))) h

pub returns : goal.returns
returns c = ap not c.contains.ensures.value ∙ absent-none c.args.x c.args.words.now

-- `labels::representatives` meets its contract: the code makes the definition's tests in the definition's order.
use Rattle.std.proofs.Common.{lt-ltb, le-ltb, ne_eqb, ◌≡◌, ◌≢◌, refl, sym, ap, ◌∙◌, true, false, ℕ, ◌≤◌, ◌<◌, arith, length}
use Rattle.labels.specs.declared.NonResidues.{NonResidues}
use Rattle.labels.specs.Refusals.{out_of_range, candidates_reach_p}
use Rattle.labels.specs.Ranges.{ranges_fit}
use Rattle.labels.specs.RangesLaws.{ranges-fit}
use Rattle.labels.specs.Labels.{found, powers_taken, search_number, representatives_number, representatives_of, powers_of, kept_of, taken_of}
use Rattle.labels.specs.Stored.{stored, no_representatives}
use Rattle.labels.proofs.LabelLaws.{found_all}
use Rattle.labels.proofs.representatives.Goals as goal

-- what is promised of the columns found
abbrev Answers : ℕ → ℕ → NonResidues → Type 0
Answers n c r = (r.values ≡ representatives_of n c) × ((r.powers ≡ powers_of n c) × ((r.kept ≡ kept_of n c) × (r.taken ≡ taken_of n c)))

accepted : (n c : ℕ) (f : NonResidues) → f ≡ stored (found n c) (powers_taken n c) → representatives_number n c ≡ 0 → Answers n c f
unfolding representatives_of powers_of kept_of taken_of
accepted n c f e z = rw (e, z) (refl, (refl, (found_all n c z, refl)))

pub make_non_residues-found-requires : goal.make_non_residues-found-requires
make_non_residues-found-requires c =
    let a = c.args in
    (ranges-fit a.n a.c (sym c.ranges_fit.ensures ∙ c.if-not-ranges_fit.false)).columns

refused : (n c number : ℕ) → representatives_number n c ≡ number → number ≢ 0 → Answers n c no_representatives
unfolding representatives_of powers_of kept_of taken_of
refused n c number z d = rw (z, ne_eqb number 0 d) (refl, (refl, (refl, refl)))

pub returns-then-found-c : goal.returns-then-found-c
unfolding representatives_number search_number
returns-then-found-c c =
    let a = c.args in
    let t : ranges_fit a.n a.c ≡ true = sym c.ranges_fit.ensures ∙ c.if-not-ranges_fit.false in
    let e = ap (λ (f : NonResidues). f.kept) c.make_non_residues-found.ensures in
    let l : length (found a.n a.c).values < a.c = omega (arith, e, c.if-found-c.true) in
    let z : representatives_number a.n a.c ≡ candidates_reach_p = simp (t, lt-ltb _ _ l) in
    let all = refused a.n a.c candidates_reach_p z (λ (q : candidates_reach_p ≡ 0). omega arith) in
    record { number_value = sym z; values_value = all.0; powers_value = all.1.0; kept_value = all.1.1.0; taken_value = all.1.1.1 }

pub returns-then-not-ranges_fit : goal.returns-then-not-ranges_fit
unfolding representatives_number
returns-then-not-ranges_fit c =
    let a = c.args in
    let t : ranges_fit a.n a.c ≡ false = sym c.ranges_fit.ensures ∙ c.if-not-ranges_fit.true in
    let z : representatives_number a.n a.c ≡ out_of_range = simp t in
    let all = refused a.n a.c out_of_range z (λ (q : out_of_range ≡ 0). omega arith) in
    record { number_value = sym z; values_value = all.0; powers_value = all.1.0; kept_value = all.1.1.0; taken_value = all.1.1.1 }

pub returns : goal.returns
unfolding representatives_number search_number
returns c =
    let a = c.args in
    let t : ranges_fit a.n a.c ≡ true = sym c.ranges_fit.ensures ∙ c.if-not-ranges_fit.false in
    let f = c.make_non_residues-found.ensures in
    let e = ap (λ (g : NonResidues). g.kept) f in
    let l : a.c ≤ length (found a.n a.c).values = omega (arith, e, c.if-found-c.false) in
    let z : representatives_number a.n a.c ≡ 0 = simp (t, le-ltb _ _ l) in
    let all = accepted a.n a.c _ f z in
    record { number_value = sym z; values_value = all.0; powers_value = all.1.0; kept_value = all.1.1.0; taken_value = all.1.1.1 }

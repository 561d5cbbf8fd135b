-- `labels::NonResidues::try_candidate` meets its contract: each way out is one equation of `tried`, a store goes where the zeros begin, and a non-residue's power is counted.
use Rattle.std.proofs.Common.{rules, ◌≡◌, sym, ap, ◌∙◌, true, false, ◌+◌, add-zero, arith, length, length-take-le}
use Rattle.field.specs.Field.{fpow, is_non_residue}
use Rattle.labels.specs.Labels.{Columns, absent}
use Rattle.labels.specs.Ranges.{most_columns}
use Rattle.labels.specs.Stored.{stored}
use Rattle.labels.proofs.Search.{held_powers, held-taken, held_next, tried-kept, tried_coset, tried_residue}
use Rattle.labels.proofs.NonResidues.try_candidate.Goals as goal

pub slice_bounds-powers-end : goal.slice_bounds-powers-end
slice_bounds-powers-end c =
    let l : length c.args.self.powers ≡ most_columns = search rules in
    omega (arith, c.requires.0)

pub slice_bounds-is_absent-end : goal.slice_bounds-is_absent-end
slice_bounds-is_absent-end c =
    let l : length c.args.self.powers ≡ most_columns = search rules in
    sym (length-take-le c.args.self.kept c.args.self.powers (omega (arith, c.requires.0)))

pub returns-then-is_absent : goal.returns-then-is_absent
returns-then-is_absent c =
    let a = c.args in
    let power : c.pow-power.result ≡ fpow a.candidate a.n = c.pow-power.ensures in
    let test : is_non_residue a.candidate ≡ true = sym c.is_non_residue.ensures ∙ c.if-is_non_residue.true in
    λ s t e b.
    held_next a.self s t a.candidate c.pow-power.result e b c.requires.0
    ∙ rw (power, test) (ap (λ (x : Columns). stored x (t + 1)) (sym (tried-kept is_non_residue (λ k. fpow k a.n) a.candidate s test
    (ap (absent (fpow a.candidate a.n)) (sym (held_powers a.self s t e b)) ∙ rw (← power) (sym c.is_absent.ensures ∙ c.if-is_absent.true)))))

pub returns-else-is_absent : goal.returns-else-is_absent
returns-else-is_absent c =
    let a = c.args in
    let power : c.pow-power.result ≡ fpow a.candidate a.n = c.pow-power.ensures in
    let test : is_non_residue a.candidate ≡ true = sym c.is_non_residue.ensures ∙ c.if-is_non_residue.true in
    λ s t e b.
    held-taken a.self s t e
    ∙ rw test (ap (λ (x : Columns). stored x (t + 1)) (sym (tried_coset is_non_residue (λ k. fpow k a.n) a.candidate s test
    (ap (absent (fpow a.candidate a.n)) (sym (held_powers a.self s t e b)) ∙ rw (← power) (sym c.is_absent.ensures ∙ c.if-is_absent.false)))))

pub returns-else-is_non_residue : goal.returns-else-is_non_residue
returns-else-is_non_residue c =
    let a = c.args in
    let test : is_non_residue a.candidate ≡ false = sym c.is_non_residue.ensures ∙ c.if-is_non_residue.false in
    λ s t e b. e ∙ rw (test, add-zero) (ap (λ (x : Columns). stored x t) (sym (tried_residue is_non_residue (λ k. fpow k a.n) a.candidate s test)))

-- `labels::make_non_residues` meets its contract. The invariant: the struct holds columns from which the search, going on at the candidate, ends where the
-- whole search does, and beside them the number of powers that are taken before it goes on there. The measure is p less the candidate.
use Rattle.std.proofs.Common.{◌≡◌, refl, sym, ap, ◌∙◌, ℕ, ◌+◌, ◌-◌, ◌≤◌, ◌<◌, add-zero, zero-add, add_assoc, arith, length}
use Rattle.field.specs.Field.{p, fpow, is_non_residue}
use Rattle.labels.specs.declared.NonResidues.{NonResidues}
use Rattle.labels.specs.Labels.{Columns, first_column, tried, search_from, found, taken_one, taken_from, powers_taken}
use Rattle.labels.specs.Stored.{stored}
use Rattle.labels.proofs.Search.{first_chosen, tried_chosen, search_stop, search_out, search_next, taken_stop, taken_out, taken_next, one_most}
use Rattle.labels.proofs.make_non_residues.Invariants.{Searching}
use Rattle.labels.proofs.make_non_residues.Goals as goal

search_begin : (n c : ℕ) (f : NonResidues) → f ≡ stored first_column 0 → Searching n c 2 f
unfolding found powers_taken
search_begin n c f e =
    record { columns = first_column; taken = 0; held = e; chosen = first_chosen n; within = omega arith; few = omega arith; same = refl; counted = sym (zero-add _) }

search-turn : (n c k : ℕ) (f g : NonResidues) → Searching n c k f → k < p → f.kept < c
    → ((s : Columns) (t : ℕ) → f ≡ stored s t → length s.powers ≡ length s.values
    → g ≡ stored (tried is_non_residue (λ j. fpow j n) k s) (t + taken_one is_non_residue k))
    → Searching n c (k + 1) g
search-turn n c k f g h l m step =
    let short : length h.columns.values < c = rw h.held at m in
    let e : p - k - 1 ≡ p - (k + 1) = omega arith in
    record {
      columns = tried is_non_residue (λ j. fpow j n) k h.columns;
      taken = h.taken + taken_one is_non_residue k;
      held = step h.columns h.taken h.held h.chosen.beside;
      chosen = tried_chosen n k h.columns h.chosen;
      within = omega arith;
      few = omega (arith, h.few, one_most is_non_residue k);
      same = h.same ∙ search_next is_non_residue (λ j. fpow j n) (p - k) c k h.columns (omega arith) short ∙ rw e;
      counted = h.counted ∙ ap (λ (x : ℕ). h.taken + x) (taken_next is_non_residue (λ j. fpow j n) (p - k) c k h.columns (omega arith) short) ∙ rw (e, ← add_assoc);
    }

-- where the search goes on no further, what is held is its end
search-ended : (n c k : ℕ) (f : NonResidues) (h : Searching n c k f) → search_from is_non_residue (λ j. fpow j n) (p - k) c k h.columns ≡ h.columns
    → taken_from is_non_residue (λ j. fpow j n) (p - k) c k h.columns ≡ 0 → f ≡ stored (found n c) (powers_taken n c)
search-ended n c k f h all none =
    let t : powers_taken n c ≡ h.taken = h.counted ∙ rw (none, add-zero) in
    h.held ∙ rw (h.same ∙ all, t)

search-full : (n c k : ℕ) (f : NonResidues) → Searching n c k f → c ≤ f.kept → f ≡ stored (found n c) (powers_taken n c)
search-full n c k f h l =
    let full : c ≤ length h.columns.values = rw h.held at l in
    search-ended n c k f h (search_stop is_non_residue (λ j. fpow j n) (p - k) c k h.columns full) (taken_stop is_non_residue (λ j. fpow j n) (p - k) c k h.columns full)

search-reached : (n c k : ℕ) (f : NonResidues) → Searching n c k f → p ≤ k → f ≡ stored (found n c) (powers_taken n c)
search-reached n c k f h l =
    search-ended n c k f h (search_out is_non_residue (λ j. fpow j n) (p - k) c k h.columns (omega arith)) (taken_out is_non_residue (λ j. fpow j n) (p - k) c k h.columns (omega arith))

pub loop-candidate-init : goal.loop-candidate-init
loop-candidate-init c = search_begin c.args.n c.args.c _ c.first_column-found.ensures

pub returns-then-c-found : goal.returns-then-c-found
returns-then-c-found c =
    let l = c.loop-candidate in
    let a = c.args in
    search-full a.n a.c l.candidate l.found l.invariant c.if-c-found.true

pub try_candidate-found-requires : goal.try_candidate-found-requires
try_candidate-found-requires c =
    let l = c.loop-candidate in
    let h = l.invariant in
    let t : l.found.taken ≡ h.taken = ap (λ (f : NonResidues). f.taken) h.held in
    (omega (arith, c.requires, c.if-c-found.false), omega (arith, t, h.few, h.within))

pub loop-candidate-preserved : goal.loop-candidate-preserved
loop-candidate-preserved c =
    let l = c.loop-candidate in
    let a = c.args in
    search-turn a.n a.c l.candidate l.found c.try_candidate-found.result l.invariant c.loop-candidate-test.true c.if-c-found.false c.try_candidate-found.ensures

pub returns : goal.returns
returns c =
    let l = c.loop-candidate in
    let a = c.args in
    search-reached a.n a.c l.candidate l.found l.invariant c.loop-candidate-test.false

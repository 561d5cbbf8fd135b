-- `labels::make_non_residues` meets its contract. The invariant: the struct holds columns from which the search, going on at the candidate, ends where the
-- whole search does, and beside them the number of powers that are taken before it goes on there. The measure is p less the candidate.
use Rattle.std.proofs.Common.{◌≡◌, ℕ, ◌+◌, ◌-◌, ◌≤◌}
use Rattle.field.specs.Field.{p, fpow, is_non_residue}
use Rattle.labels.specs.declared.NonResidues.{NonResidues}
use Rattle.labels.specs.Labels.{Columns, search_from, found, taken_from, powers_taken}
use Rattle.labels.specs.Stored.{stored}
use Rattle.labels.proofs.Search.{Chosen}
use Rattle.labels.proofs.make_non_residues.Given as goal

pub record Searching (n c k : ℕ) (f : NonResidues) : Type 0 where
  pub columns : Columns
  pub taken : ℕ
  pub held : f ≡ stored columns taken
  pub chosen : Chosen n columns
  pub within : k ≤ p
  pub few : taken + 2 ≤ k
  pub same : found n c ≡ search_from is_non_residue (λ j. fpow j n) (p - k) c k columns
  pub counted : powers_taken n c ≡ taken + taken_from is_non_residue (λ j. fpow j n) (p - k) c k columns

abbrev pub invariant-loop-candidate : goal.invariant-loop-candidate
invariant-loop-candidate l = Searching l.n l.c l.candidate l.found

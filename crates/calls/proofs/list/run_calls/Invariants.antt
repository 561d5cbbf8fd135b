-- `calls::list::run_calls` meets its contract: counted first; then each call of the list is a step of the chain. The loop's invariant: the calls from the place on leave
-- what the whole list leaves. No call changes the plan. The measure is what is left of the list. Assumes nothing.
use Rattle.std.proofs.Common.{◌≡◌, List, ℕ, ◌-◌, ◌≤◌, length}
use Rattle.tree.specs.Plan.{parts_plan}
use Rattle.tree.specs.declared.plan.Parts.{Parts}
use Rattle.columns.specs.Intake.{state_in, with_state}
use Rattle.columns.specs.declared.take.Counts.{Counts}
use Rattle.claim.specs.Chain.{Kept}
use Rattle.claim.specs.Keeping.{keeping}
use Rattle.calls.specs.EncodedLaws.{Turn}
use Rattle.calls.proofs.list.run_calls.Given as goal

-- a state in parts with the four buffers
abbrev pub within : Parts → Counts → List ℕ → List ℕ → List ℕ → List ℕ → List ℕ → Kept
within parts counts used constants copies scratch tables =
    keeping (with_state (parts_plan parts) (state_in counts used)) constants copies scratch tables

abbrev pub invariant-loop-at : goal.invariant-loop-at
invariant-loop-at l = (l.at ≤ length l.list) × (length l.numbers ≡ length l.initial.numbers) × (length l.constants ≡ length l.initial.constants) × (length l.copies ≡ length l.initial.copies) × (length l.scratch ≡ length l.initial.scratch) × (length l.tables ≡ length l.initial.tables)
    × Turn l.list (within l.parts l.initial.counts l.initial.used l.initial.constants l.initial.copies l.initial.scratch l.initial.tables) l.initial.numbers l.at l.place (within l.parts l.counts l.used l.constants l.copies l.scratch l.tables) l.numbers × (l.place ≤ l.at)

abbrev pub decreases-loop-at : goal.decreases-loop-at
decreases-loop-at l = length l.list - l.at

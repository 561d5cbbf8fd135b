-- A list of calls over a state's words, by the number of words.
--
-- Main statements: `list_given`, `list_kept`.
use Rattle.std.specs.Prelude.{ℕ, eqb, length, List, ◌≢◌, ◌≡◌}
use Rattle.std.proofs.Common.{eq-eqb, ne_eqb, sym}
use Rattle.base.specs.Pick.{pick_no, pick_yes}
use Rattle.columns.specs.Intake.{Taken}
use Rattle.encoding.specs.Encoding.{state_length}
use Rattle.capi.specs.Calls.{list_after}
use Rattle.capi.specs.Intake.{progress_after}

pub list_given : (t : Taken) (old : List ℕ) → length old ≡ state_length → progress_after t old ≡ list_after t old
unfolding list_after
list_given t old e = sym (pick_yes (eqb (length old) state_length) (progress_after t old) old (eq-eqb (length old) state_length e))

pub list_kept : (t : Taken) (old : List ℕ) → length old ≢ state_length → old ≡ list_after t old
unfolding list_after
list_kept t old d = sym (pick_no (eqb (length old) state_length) (progress_after t old) old (ne_eqb (length old) state_length d))

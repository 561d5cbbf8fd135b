-- What a list of calls answers and leaves, over the words of a state: the list run from the state that the words encode (`calls`, Encoded).
--
-- Main definitions: `ran_over`, `list_after`.
use Rattle.std.specs.Prelude.{ℕ, eqb, length, List}
use Rattle.base.specs.Pick.{pick}
use Rattle.calls.specs.Encoded.{Ran, calls_of, ran_by}
use Rattle.columns.specs.Intake.{Taken}
use Rattle.encoding.specs.Encoding.{intake_of, state_length}
use Rattle.pieces.specs.Setting.{Store}
use Rattle.capi.specs.Intake.{progress_after}

-- the state's words, the list's words, the numbers' slice, the buffers
abbrev pub ran_over : List ℕ → List ℕ → List ℕ → Store → Ran
ran_over ws list ns b = ran_by (calls_of list) (record { state = intake_of ws; store = b }) ns

-- the state's words after a list. They stay as they were where the list is refused, and where they are not as many as a state has: every call of the list is 19 then.
unfoldable pub list_after : Taken → List ℕ → List ℕ
list_after t old = pick (eqb (length old) state_length) (progress_after t old) old

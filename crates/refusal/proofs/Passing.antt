-- A refusal that `?` passes up. For the goal at that exit: `passed_up r e c.from_residual.ensures.1`, where e is the refusal that the call gave.
--
-- Main statements: `passed_up`, `nothing_answered`, `refusal_positive` (no refusal has the number 0), `refusal_nonzero`, `accepted_zero`, `refused_nonzero`, `no_err_zero`, `err_nonzero`, `unwrap-answer`.
use Rattle.std.proofs.Common.{◌≡◌, ◌≢◌, ◌<◌, refl, sym, true≢false, arith}
use Rattle.std.specs.Prelude.{Result, Ok, Err, true, false}
use Rattle.std.specs.Result.{IsErrAnd, is_err, is_ok, result_unwrap_or}
use Rattle.std.proofs.lemmas.Result.{err_from_is_err_and}
use Rattle.refusal.specs.declared.Refusal.{Refusal}
use Rattle.refusal.specs.declared.Refusal.TheVariants.{Parameter, ShareFlag, GateCount, GateRecord, LookupGate, NothingEvaluated, Constants, NoPlace, NoLabels, ShortBuffer, NotAnElement, RowRecord, TooMany, Variable, Table, Incomplete, UnusedGate, Scratch, MadeUp, Listing, NoMarker, TooLong, MarkerRow}
use Rattle.refusal.specs.Refusal.{answer_number, answer_or, refusal_number}

-- where a refusal is passed up nothing is answered
pub nothing_answered : {A : Type 0} (none : A) (r : Result A Refusal) (e : Refusal) → IsErrAnd r (λ d. d ≡ e) → answer_or none r ≡ none
nothing_answered none r e h = let p = err_from_is_err_and r h in rw p.1 refl

-- what is passed up has the number of the refusal that the call gave
pub passed_up : {A : Type 0} (r : Result A Refusal) (e : Refusal) → IsErrAnd r (λ d. d ≡ e) → answer_number r ≡ refusal_number e
passed_up r e h = let p = err_from_is_err_and r h in rw (p.1, p.2) refl

pub refusal_positive : (r : Refusal) → 0 < refusal_number r
refusal_positive Parameter = omega arith
refusal_positive ShareFlag = omega arith
refusal_positive GateCount = omega arith
refusal_positive GateRecord = omega arith
refusal_positive LookupGate = omega arith
refusal_positive NothingEvaluated = omega arith
refusal_positive Constants = omega arith
refusal_positive NoPlace = omega arith
refusal_positive NoLabels = omega arith
refusal_positive ShortBuffer = omega arith
refusal_positive NotAnElement = omega arith
refusal_positive RowRecord = omega arith
refusal_positive TooMany = omega arith
refusal_positive Variable = omega arith
refusal_positive Table = omega arith
refusal_positive Incomplete = omega arith
refusal_positive UnusedGate = omega arith
refusal_positive Scratch = omega arith
refusal_positive MadeUp = omega arith
refusal_positive Listing = omega arith
refusal_positive NoMarker = omega arith
refusal_positive TooLong = omega arith
refusal_positive MarkerRow = omega arith

pub refusal_nonzero : (r : Refusal) → refusal_number r ≢ 0
refusal_nonzero r e = let h = refusal_positive r in omega (arith, e, h)

-- what was accepted has the number 0, what was refused has another
pub accepted_zero : {A : Type 0} (r : Result A Refusal) → is_ok r ≡ true → answer_number r ≡ 0
accepted_zero (Ok x) h = refl
accepted_zero (Err e) h = absurd (true≢false (sym h))

pub refused_nonzero : {A : Type 0} (r : Result A Refusal) → is_ok r ≡ false → answer_number r ≢ 0
refused_nonzero (Ok x) h = absurd (true≢false h)
refused_nonzero (Err e) h = refusal_nonzero e

pub no_err_zero : {A : Type 0} (r : Result A Refusal) → is_err r ≡ false → answer_number r ≡ 0
no_err_zero (Ok x) h = refl
no_err_zero (Err e) h = absurd (true≢false h)

pub err_nonzero : {A : Type 0} (r : Result A Refusal) → is_err r ≡ true → answer_number r ≢ 0
err_nonzero (Ok x) h = absurd (true≢false (sym h))
err_nonzero (Err e) h = refusal_nonzero e

-- what std hands out in place of a refusal
pub unwrap-answer : {A : Type 0} (none : A) (r : Result A Refusal) → result_unwrap_or r none ≡ answer_or none r
unwrap-answer none (Ok x) = refl
unwrap-answer none (Err e) = refl

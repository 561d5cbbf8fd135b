-- The refusals and their numbers, and what a call answers as a number.
--
-- Main definitions: `refusal_number`, `answer_number`, `answer_or`.
use Rattle.std.specs.Prelude.{ℕ, Result, Ok, Err}
use Rattle.refusal.specs.declared.Refusal.{Refusal}
use Rattle.refusal.specs.declared.Refusal.TheVariants.{Parameter, ShareFlag, GateCount, GateRecord, LookupGate, NothingEvaluated, Constants, NoPlace, NoLabels, ShortBuffer, NotAnElement, RowRecord, TooMany, Variable, Table, Incomplete, UnusedGate, Scratch, MadeUp, Listing, NoMarker, TooLong, MarkerRow}

-- a refusal's number
abbrev pub refusal_number : Refusal → ℕ
refusal_number Parameter = 1
refusal_number ShareFlag = 2
refusal_number GateCount = 3
refusal_number GateRecord = 4
refusal_number LookupGate = 5
refusal_number NothingEvaluated = 6
refusal_number Constants = 7
refusal_number NoPlace = 8
refusal_number NoLabels = 9
refusal_number ShortBuffer = 10
refusal_number NotAnElement = 11
refusal_number RowRecord = 12
refusal_number TooMany = 13
refusal_number Variable = 14
refusal_number Table = 15
refusal_number Incomplete = 16
refusal_number UnusedGate = 17
refusal_number Scratch = 18
refusal_number MadeUp = 19
refusal_number Listing = 20
refusal_number NoMarker = 21
refusal_number TooLong = 22
refusal_number MarkerRow = 23

-- 0 for what was accepted, else the refusal's number
abbrev pub answer_number : {A : Type 0} → Result A Refusal → ℕ
answer_number (Ok x) = 0
answer_number (Err refusal) = refusal_number refusal

-- what was answered, and a value in its place after a refusal
abbrev pub answer_or : {A : Type 0} → A → Result A Refusal → A
answer_or none (Ok x) = x
answer_or none (Err refusal) = none

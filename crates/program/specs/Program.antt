-- 01, 'Listing': the program `setup`, from the bytes that it reads to the bytes that it prints.
--
-- Main definitions: `printed`, `program_text`, `WholeIn`, `ReadOf`.
use Rattle.std.specs.Prelude.{◌≡◌, List, ◌++◌, ℕ, ◌%◌, eqb, leb, length, take, drop, replicate}
use Rattle.base.specs.Pick.{pick}
use Rattle.octets.specs.Words.{words_of}
use Rattle.pieces.specs.Setting.{Store}
use Rattle.columns.specs.Intake.{store_of}
use Rattle.report.specs.Report.{refused_line, report_of}
use Rattle.stage.specs.Listed.{listed_answer, listed_left}

-- "lends 8,192 words for each buffer"
abbrev lent_words : ℕ
lent_words = 8192

unfoldable pub lent : Store
lent = store_of (replicate lent_words 0) (replicate lent_words 0) (replicate lent_words 0) (replicate lent_words 0)

-- the whole output for the words of a listing, or "`refused` and the number alone"
unfoldable pub printed : List ℕ → List ℕ
printed words =
    let answer = listed_answer words lent in
    let left = listed_left words lent in
    pick (eqb answer.number 0) (report_of answer.plan left.constants left.cells.copies left.tables) (refused_line answer.number)

-- "reads standard input, at most 65,536 bytes"
abbrev pub most_bytes : ℕ
most_bytes = 65536

-- more bytes, or bytes that are no whole words, are "over-long or left over": 20
unfoldable pub program_text : List ℕ → List ℕ
program_text bytes =
    pick (leb (length bytes) most_bytes) (pick (eqb (length bytes % 8) 0) (printed (words_of bytes)) (refused_line 20)) (refused_line 20)

-- the text stands whole in the buffer, with what the buffer held behind it, and r is its length
pub record WholeIn (text old new : List ℕ) (r : ℕ) : Type 0 where
  pub many : r ≡ length text
  pub held : new ≡ text ++ drop (length text) old

-- reading stopped where the input ended or its room was full: the bytes read are the first of the whole input, as many as the room takes
abbrev pub ReadOf : List ℕ → List ℕ → ℕ → Type 0
ReadOf whole room many = take many room ≡ take (length room) whole

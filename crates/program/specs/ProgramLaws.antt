-- The program's text, by the tests.
--
-- Main statements: `text-long`, `text-odd`, `text-words`, `text-read` (the unread bytes of an over-long input change nothing), `printed_refused`, `printed_by`.
use Rattle.std.specs.Prelude.{◌≡◌, ◌≢◌, List, ℕ, ◌%◌, ◌<◌, ◌≤◌, eqb, leb, length, take}
use Rattle.std.proofs.Math.Path.{sym}
use Rattle.std.proofs.Common.{ap, ◌∙◌, arith, length-take, take_all, le-leb, eq-eqb, ne_eqb}
use Rattle.std.proofs.Math.Decide.{dec_lt}
use Rattle.std.proofs.lemmas.Bool.{lt-leb}
use Rattle.base.specs.Pick.{pick_yes, pick_no}
use Rattle.octets.specs.Words.{words_of}
use Rattle.tree.specs.declared.plan.Plan.{Plan}
use Rattle.pieces.specs.Setting.{Store}
use Rattle.columns.specs.Intake.{store_of}
use Rattle.report.specs.Report.{refused_line, report_of}
use Rattle.stage.specs.Listed.{listed_answer, listed_left}
use Rattle.program.specs.Program.{lent, printed, most_bytes, program_text, ReadOf}

module _ (bytes : List ℕ) where
  pub text-long : most_bytes < length bytes → refused_line 20 ≡ program_text bytes
  unfolding program_text
  text-long h = sym (pick_no (leb (length bytes) most_bytes) _ (refused_line 20) (lt-leb (length bytes) most_bytes h))

  pub text-odd : length bytes ≤ most_bytes → length bytes % 8 ≢ 0 → refused_line 20 ≡ program_text bytes
  unfolding program_text
  text-odd h n =
      sym (pick_yes (leb (length bytes) most_bytes) _ (refused_line 20) (le-leb (length bytes) most_bytes h)
      ∙ pick_no (eqb (length bytes % 8) 0) (printed (words_of bytes)) (refused_line 20) (ne_eqb (length bytes % 8) 0 n))

  pub text-words : length bytes ≤ most_bytes → length bytes % 8 ≡ 0 → printed (words_of bytes) ≡ program_text bytes
  unfolding program_text
  text-words h n =
      sym (pick_yes (leb (length bytes) most_bytes) _ (refused_line 20) (le-leb (length bytes) most_bytes h)
      ∙ pick_yes (eqb (length bytes % 8) 0) (printed (words_of bytes)) (refused_line 20) (eq-eqb (length bytes % 8) 0 n))

-- a room that takes more than the longest input shows all that decides
pub text-read : (whole room : List ℕ) (many : ℕ) → most_bytes < length room → ReadOf whole room many → program_text (take many room) ≡ program_text whole
text-read whole room many h e = ap program_text e ∙ go (dec_lt most_bytes (length whole))
  where
    go : Dec (most_bytes < length whole) → program_text (take (length room) whole) ≡ program_text whole
    go (yes l) = sym (text-long (take (length room) whole) (omega (arith, length-take (length room) whole))) ∙ text-long whole l
    go (no n) = ap program_text (take_all (length room) whole (omega arith))

module _ (words : List ℕ) where
  pub printed_refused : (listed_answer words lent).number ≢ 0 → refused_line (listed_answer words lent).number ≡ printed words
  unfolding printed
  printed_refused n = sym (pick_no (eqb (listed_answer words lent).number 0) _ (refused_line (listed_answer words lent).number) (ne_eqb (listed_answer words lent).number 0 n))

  printed_whole : (listed_answer words lent).number ≡ 0
      → report_of (listed_answer words lent).plan (listed_left words lent).constants (listed_left words lent).cells.copies (listed_left words lent).tables ≡ printed words
  unfolding printed
  printed_whole e = sym (pick_yes (eqb (listed_answer words lent).number 0) _ (refused_line (listed_answer words lent).number) (eq-eqb (listed_answer words lent).number 0 e))

  -- from what running the listing answered and left
  pub printed_by : (q : Plan) (c k s t : List ℕ) → (listed_answer words lent).number ≡ 0 → q ≡ (listed_answer words lent).plan → store_of c k s t ≡ listed_left words lent
      → report_of q c k t ≡ printed words
  printed_by q c k s t e f g =
      ap (λ (p : Plan). report_of p c k t) f ∙ ap (λ (b : Store). report_of (listed_answer words lent).plan b.constants b.cells.copies b.tables) g ∙ printed_whole e

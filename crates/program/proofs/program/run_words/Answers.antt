-- `program::program::run_words` meets its contract: what running the listing answers and leaves is what is printed.
use Rattle.std.proofs.Common.{◌≡◌, sym, ap, ◌∙◌, ℕ}
use Rattle.refusal.specs.Refusal.{refusal_number}
use Rattle.refusal.proofs.Passing.{refusal_nonzero}
use Rattle.octets.specs.Text.{sink, put}
use Rattle.report.specs.Report.{refused_line}
use Rattle.stage.specs.Listed.{listed_answer}
use Rattle.stage.specs.Circuit.{Staged}
use Rattle.program.specs.Program.{lent}
use Rattle.program.specs.ProgramLaws.{printed_refused, printed_by}
use Rattle.program.proofs.program.run_words.Goals as goal

pub returns-in-Ok : goal.returns-in-Ok
unfolding lent
returns-in-Ok c =
    let a = c.args in
    let w = c.in-Ok.ensures in
    c.put_report.ensures
    ∙ ap (put (sink a.out.now 0)) (printed_by a.words.now c.in-Ok.plan _ _ _ _ (sym (ap (λ (r : Staged). r.number) w.value)) (ap (λ (r : Staged). r.plan) w.value) w.tables_after)

pub returns-in-Err : goal.returns-in-Err
unfolding lent
returns-in-Err c =
    let a = c.args in
    let x = c.in-Err.refusal in
    let e : refusal_number x ≡ (listed_answer a.words.now lent).number = ap (λ (r : Staged). r.number) c.in-Err.ensures.value in
    c.put_refused.ensures
    ∙ ap (λ (n : ℕ). put (sink a.out.now 0) (refused_line n)) (c.number.ensures ∙ e)
    ∙ ap (put (sink a.out.now 0)) (printed_refused a.words.now (λ z. refusal_nonzero x (e ∙ z)))

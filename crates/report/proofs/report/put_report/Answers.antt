-- `report::report::put_report` meets its contract: the code makes the definition's tests.
use Rattle.std.proofs.Common.{◌≡◌, ◌≢◌, refl, sym, ap, ◌∙◌}
use Rattle.std.specs.Prelude.{Result, Ok, Err, is_err, true, false}
use Rattle.std.proofs.Math.Bool.{true≢false}
use Rattle.refusal.specs.declared.Refusal.{Refusal}
use Rattle.refusal.specs.Refusal.{answer_number}
use Rattle.refusal.proofs.Passing.{refusal_nonzero}
use Rattle.octets.specs.Text.{sink, put}
use Rattle.report.specs.ReportLaws.{report_19, report_10, report_whole}
use Rattle.report.proofs.report.put_report.Goals as goal

-- the test that tells a refusal, by its number
faulty : {A : Type 0} (r : Result A Refusal) → is_err r ≡ true → answer_number r ≢ 0
faulty (Ok x) e = absurd (true≢false (sym e))
faulty (Err x) e = refusal_nonzero x

faultless : {A : Type 0} (r : Result A Refusal) → is_err r ≡ false → answer_number r ≡ 0
faultless (Ok x) e = refl
faultless (Err x) e = absurd (true≢false e)

pub returns-then-is_err : goal.returns-then-is_err
returns-then-is_err c = c.put_refused.ensures ∙ ap (put (sink c.args.out.now 0)) (report_19 c.args.plan c.args.constants.now c.args.copies.now c.args.tables.now (λ z. faulty c.fault.result (sym c.is_err.ensures.value ∙ c.if-is_err.true) (c.fault.ensures ∙ z)))

pub returns-then-columns_there : goal.returns-then-columns_there
returns-then-columns_there c =
    let sound = sym c.fault.ensures ∙ faultless c.fault.result (sym c.is_err.ensures.value ∙ c.if-is_err.false) in
    c.put_lines.ensures ∙ ap (put (sink c.args.out.now 0)) (report_whole c.args.plan c.args.constants.now c.args.copies.now c.args.tables.now sound (sym c.columns_there.ensures ∙ c.if-columns_there.true))

pub returns : goal.returns
returns c =
    let sound = sym c.fault.ensures ∙ faultless c.fault.result (sym c.is_err.ensures.value ∙ c.if-is_err.false) in
    c.put_refused-2.ensures ∙ ap (put (sink c.args.out.now 0)) (report_10 c.args.plan c.args.constants.now c.args.copies.now c.args.tables.now sound (sym c.columns_there.ensures ∙ c.if-columns_there.false))

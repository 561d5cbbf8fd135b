-- `report::lines::put_digits` meets its contract. What is left of the path is what the bits left say.
use Rattle.std.proofs.Common.{sym, ap, ◌∙◌, arith, ℕ, ◌<◌, length}
use Rattle.octets.specs.Text.{sink, put}
use Rattle.base.specs.Digits.{digits-left}
use Rattle.report.specs.Report.{digit}
use Rattle.report.specs.ReportLaws.{digits_turn, digits_done}
use Rattle.report.proofs.lines.put_digits.Goals as goal

pub loop-step-preserved : goal.loop-step-preserved
loop-step-preserved c =
    let l = c.loop-step in
    let w = c.put_digit-place in (
      w.auto.out ∙ l.invariant.0,
      λ path s.
          let v = l.invariant.1 path s in
          let h : l._step < length path = omega (arith, c.loop-step-test.true, s.steps_are) in
          let d = digits-left path c.args.steps l._step l.rest v.0 c.loop-step-test.true h in
          (d.1, v.1 ∙ digits_turn (sink l.out l.place) _ path l._step h (w.ensures ∙ ap (λ (k : ℕ). put (sink l.out l.place) (digit k)) d.0)),
    )

pub returns : goal.returns
returns c = let l = c.loop-step in λ path s. sym ((l.invariant.1 path s).1 ∙ digits_done (sink l.out l.place) path l._step (omega (arith, s.steps_are)))

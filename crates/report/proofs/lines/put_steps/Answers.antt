-- `report::lines::put_steps` meets its contract: the code makes the definition's test.
use Rattle.std.proofs.Common.{arith}
use Rattle.octets.specs.Text.{sink}
use Rattle.report.specs.ReportLaws.{steps-none, steps-some}
use Rattle.report.proofs.lines.put_steps.Goals as goal

pub returns-then-steps-eq0 : goal.returns-then-steps-eq0
returns-then-steps-eq0 c = λ path s. steps-none (sink c.args.out.now c.args.at) path (omega (arith, c.if-steps-eq0.true, s.steps_are))

pub returns : goal.returns
returns c =
    let a = c.args in
    λ path s. steps-some (sink a.out.now a.at) _ _ path (omega (arith, c.if-steps-eq0.false, s.steps_are)) c.put_bytes-a.ensures (c.put_digits.ensures path s)

-- `report::lines::put_columns` meets its contract. What is left to put are the lines of the columns that are left.
use Rattle.std.proofs.Common.{◌≡◌, sym, ◌∙◌, arith, ◌-◌, ◌*◌, length, take, drop, take_all, length-drop}
use Rattle.report.specs.ReportLaws.{columns_turn, columns_done}
use Rattle.octets.specs.Text.{sink}
use Rattle.report.proofs.lines.put_columns.Goals as goal

pub loop-i-preserved : goal.loop-i-preserved
loop-i-preserved c =
    let l = c.loop-i in
    let w = c.put_column-place in
    let a = c.args in
    let from = l.i * a.trace in
    let rest : take (length a.words.now - from) (drop from a.words.now) ≡ drop from a.words.now = take_all _ _ (omega (arith, length-drop from a.words.now)) in (
      w.auto.out ∙ l.invariant.0,
      l.invariant.1 ∙ columns_turn (sink l.out l.place) _ a.name.now a.trace a.words.now l.i a.many (omega (arith, c.loop-i-test.true)) (rw rest at w.ensures),
    )

pub returns : goal.returns
returns c = let l = c.loop-i in sym (l.invariant.1 ∙ columns_done (sink l.out l.place) c.args.name.now c.args.trace c.args.words.now l.i c.args.many (omega arith))

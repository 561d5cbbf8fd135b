-- `judging::power_or_one` meets its contract: at most 65,536 no power wraps.
use Rattle.std.proofs.Common.{sym, ◌∙◌, arith, mod-eq_of_lt, ◌^◌, ◌≤◌, ◌<◌, leb, le-leb}
use Rattle.std.proofs.lemmas.Bool.{lt-leb}
use Rattle.base.specs.Exponent.{exponent}
use Rattle.base.specs.Pick.{pick_yes, pick_no}
use Rattle.labels.specs.Ranges.{longest_trace}
use Rattle.padding.specs.Lengths.{power_fits}
use Rattle.padding.proofs.judging.power_or_one.Goals as goal

pub returns-then-n-gt-LONGEST_TRACE : goal.returns-then-n-gt-LONGEST_TRACE
returns-then-n-gt-LONGEST_TRACE c = let n = c.args.n in sym (pick_no (leb n longest_trace) (2 ^ exponent n) 1 (lt-leb n longest_trace c.if-n-gt-LONGEST_TRACE.true))

pub returns : goal.returns
returns c =
    let n = c.args.n in
    let h : n ≤ longest_trace = omega (arith, c.if-n-gt-LONGEST_TRACE.false) in
    let k : 2 ^ exponent n < 18446744073709551616 = omega (arith, power_fits n h) in
    c.power_above.ensures.1 ∙ mod-eq_of_lt k ∙ sym (pick_yes (leb n longest_trace) (2 ^ exponent n) 1 (le-leb n longest_trace h))

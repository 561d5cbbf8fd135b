-- `labels::ranges_fit` meets its contract: the code makes the definition's tests in the definition's order.
use Rattle.std.proofs.Common.{◌≡◌, refl, sym, ◌∙◌, Bool, true, false, le-leb, leb}
use Rattle.std.proofs.lemmas.Bool.{lt-leb}
use Rattle.base.specs.Exponent.{is_power}
use Rattle.base.specs.Pick.{both, pick_yes, pick_no, both_true}
use Rattle.labels.specs.Ranges.{ranges_fit, trace_fits}
use Rattle.labels.proofs.ranges_fit.Goals as goal
use Rattle.labels.proofs.ranges_fit.Goals.{then-n-le-LONGEST_TRACE, else-n-le-LONGEST_TRACE, then-is_power, else-is_power}

-- where a test doesn't hold, another after it changes nothing
both_stop : (a b : Bool) → a ≡ false → a ≡ both a b
both_stop a b e = e ∙ sym (pick_no a b false e)

-- a third test changes nothing where the first two do not both hold
both_out : (a b d : Bool) → both a b ≡ false → both a (both b d) ≡ false
both_out true b d e = pick_no b d false e
both_out false b d e = refl

pub returns-then-c-ge1 : goal.returns-then-c-ge1
unfolding ranges_fit
returns-then-c-ge1 c =
    let one : c.if-n-le-LONGEST_TRACE.value ≡ trace_fits c.args.n =
    elim c.if-n-le-LONGEST_TRACE.branch [
      | then-n-le-LONGEST_TRACE v ↦ v.value-is ∙ v.is_power.ensures ∙ sym (pick_yes _ _ false (le-leb _ _ v.if-n-le-LONGEST_TRACE.true))
      | else-n-le-LONGEST_TRACE v ↦ v.value-is ∙ both_stop _ (is_power c.args.n) (lt-leb _ _ v.if-n-le-LONGEST_TRACE.false)
    ] in
    let two : c.if-is_power.value ≡ both (trace_fits c.args.n) (leb 1 c.args.c) =
    elim c.if-is_power.branch [
      | then-is_power w ↦ w.value-is ∙ sym (pick_yes _ _ false (sym one ∙ w.if-is_power.true))
      | else-is_power w ↦ w.value-is ∙ one ∙ both_stop _ (leb 1 c.args.c) (sym one ∙ w.if-is_power.false)
    ] in
    let h = both_true (trace_fits c.args.n) (leb 1 c.args.c) (sym two ∙ c.if-c-ge1.true) in
    sym (pick_yes (trace_fits c.args.n) (both (leb 1 c.args.c) (leb c.args.c 64)) false h.0 ∙ pick_yes (leb 1 c.args.c) (leb c.args.c 64) false h.1)

pub returns-else-c-ge1 : goal.returns-else-c-ge1
unfolding ranges_fit
returns-else-c-ge1 c =
    let one : c.if-n-le-LONGEST_TRACE.value ≡ trace_fits c.args.n =
    elim c.if-n-le-LONGEST_TRACE.branch [
      | then-n-le-LONGEST_TRACE v ↦ v.value-is ∙ v.is_power.ensures ∙ sym (pick_yes _ _ false (le-leb _ _ v.if-n-le-LONGEST_TRACE.true))
      | else-n-le-LONGEST_TRACE v ↦ v.value-is ∙ both_stop _ (is_power c.args.n) (lt-leb _ _ v.if-n-le-LONGEST_TRACE.false)
    ] in
    let two : c.if-is_power.value ≡ both (trace_fits c.args.n) (leb 1 c.args.c) =
    elim c.if-is_power.branch [
      | then-is_power w ↦ w.value-is ∙ sym (pick_yes _ _ false (sym one ∙ w.if-is_power.true))
      | else-is_power w ↦ w.value-is ∙ one ∙ both_stop _ (leb 1 c.args.c) (sym one ∙ w.if-is_power.false)
    ] in
    c.if-c-ge1.false ∙ sym (both_out (trace_fits c.args.n) (leb 1 c.args.c) (leb c.args.c 64) (sym two ∙ c.if-c-ge1.false))

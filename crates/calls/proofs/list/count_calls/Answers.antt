-- `calls::list::count_calls` meets its contract. The loop's invariant: the calls passed and those from the place on are the list's. The measure is what is left of the
-- list. Assumes nothing.
use Rattle.std.proofs.Common.{arith, ap, sym, ◌∙◌, ◌≡◌, get_or}
use Rattle.std.specs.Prelude.{None}
use Rattle.calls.specs.Encoded.{count_told}
use Rattle.calls.specs.Kinds.{kind_of, kind_word}
use Rattle.calls.specs.KindLaws.{kind_high, kind_known, kind_low, kind_none}
use Rattle.calls.specs.EncodedLaws.{Fits, rest-start, rest-next, rest_unfit, rest_end}
use Rattle.calls.proofs.list.count_calls.Goals as goal

pub loop-at-init : goal.loop-at-init
loop-at-init c = (omega arith, omega arith, rest-start _)

pub returns-then-list-at-lt2 : goal.returns-then-list-at-lt2
returns-then-list-at-lt2 c =
    let l = c.loop-at in
    rest_unfit c.args.list.now l.at l.count (omega arith) (λ f. omega (arith, f.head)) l.invariant.2

pub returns-then-rest-many : goal.returns-then-rest-many
returns-then-rest-many c =
    let l = c.loop-at in
    rest_unfit c.args.list.now l.at l.count (omega arith) (λ f. omega (arith, f.piece)) l.invariant.2

pub returns-in_err-of : goal.returns-in_err-of
returns-in_err-of c =
    let l = c.loop-at in
    let w = get_or c.args.list.now l.at 0 in
    let z : kind_of w ≡ None = sym c.in_err-of.ensures in
    ap count_told c.from_residual.ensures ∙ rest_unfit c.args.list.now l.at l.count (omega arith) (λ f. kind_none w z f.low f.high) l.invariant.2

pub loop-at-preserved : goal.loop-at-preserved
loop-at-preserved c =
    let l = c.loop-at in
    let ws = c.args.list.now in
    let w = get_or ws l.at 0 in
    let k = c.in_ok-of.field-0 in
    let e : kind_word k ≡ w = kind_known w k (sym c.in_ok-of.ensures) in
    let f : Fits ws l.at = record { head = omega arith; piece = omega arith; low = omega (arith, e, kind_low k); high = omega (arith, e, kind_high k) } in
    (omega arith, omega arith, rest-next ws l.at l.count f l.invariant.2)

pub returns : goal.returns
returns c =
    let l = c.loop-at in
    rest_end c.args.list.now l.at l.count (omega arith) l.invariant.2

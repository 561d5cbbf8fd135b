-- `parameters::Parameters::check` meets its contract: the first refusal that comes.
use Rattle.std.proofs.Common.{◌∙◌, sym, ◌≢◌}
use Rattle.base.specs.Firsts.{first_found, first-none}
use Rattle.refusal.proofs.Passing.{passed_up, refusal_nonzero}
use Rattle.parameters.specs.Parameters.{flag_number, parameters_number, range_number}
use Rattle.parameters.proofs.parameters.Parameters.check.Goals as goal

pub returns-in_err-check_ranges : goal.returns-in_err-check_ranges
unfolding parameters_number
returns-in_err-check_ranges c =
    let s = c.args.self in
    let r = c.in_err-check_ranges.field-0.0 in
    let e = c.in_err-check_ranges.ensures in
    let d : range_number s ≢ 0 = λ z. refusal_nonzero r (e ∙ z) in
    passed_up c.from_residual.result r c.from_residual.ensures.1 ∙ e ∙ sym (first_found (range_number s) (flag_number s) d)

pub returns : goal.returns
unfolding parameters_number
returns c =
    let s = c.args.self in
    c.check_flag.ensures ∙ sym (first-none (range_number s) (flag_number s) (sym c.in_ok-check_ranges.ensures))

-- `padding::pad` meets its contract: the reader's refusal, or the circuit of the words that the reader gives.
use Rattle.std.proofs.Common.{sym, ap, ◌∙◌}
use Rattle.refusal.proofs.Passing.{passed_up, nothing_answered}
use Rattle.listing.specs.Listing.{Reading}
use Rattle.listing.proofs.ReaderLaws.{read_whole, read_refused}
use Rattle.writer.specs.Hand.{hand_answer}
use Rattle.padding.specs.Padding.{pad_by, pad_left_by, pad_answer, pad_left}
use Rattle.padding.proofs.padding.pad.Goals as goal

pub returns-in_err-sections : goal.returns-in_err-sections
unfolding pad_answer pad_left
returns-in_err-sections c =
    let o = c.args.out.now in
    let x = c.in_err-sections.field-0.0 in
    let f = c.from_residual in
    let r = read_refused c.args.words.now x c.in_err-sections.ensures in
    record {
      number = passed_up f.result x f.ensures.1 ∙ ap (λ (y : Reading). (pad_by y o).number) (sym r);
      many = nothing_answered 0 f.result x f.ensures.1 ∙ ap (λ (y : Reading). (pad_by y o).words) (sym r);
      out_after = ap (λ (y : Reading). pad_left_by y o) (sym r);
    }

pub pad_parts-requires : goal.pad_parts-requires
pad_parts-requires c = read_whole c.args.words.now c.in_ok-sections.sections c.in_ok-sections.ensures

pub returns : goal.returns
unfolding pad_answer pad_left hand_answer
returns c =
    let o = c.args.out.now in
    let r = read_whole c.args.words.now c.in_ok-sections.sections c.in_ok-sections.ensures in
    let w = c.pad_parts.ensures in
    record {
      number = w.number ∙ ap (λ (y : Reading). (pad_by y o).number) (sym r);
      many = w.many ∙ ap (λ (y : Reading). (pad_by y o).words) (sym r);
      out_after = w.out_after ∙ ap (λ (y : Reading). pad_left_by y o) (sym r);
    }

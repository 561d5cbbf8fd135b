-- `padded::kinchoyu_pad` meets its contract: without a place for the count the padding has no room at all; else its answer's words are counted there.
use Rattle.std.proofs.Common.{ℕ, [], rules, length, ◌≡◌, ◌≢◌, ◌∙◌, ap, arith, eq-eqb, eqb-true, set, sym, true≢false}
use Rattle.refusal.specs.Refusal.{answer_number, answer_or}
use Rattle.refusal.proofs.Passing.{unwrap-answer}
use Rattle.padding.specs.Padding.{pad_answer}
use Rattle.writer.specs.Hand.{Wrote}
use Rattle.capi.specs.PaddedLaws.{pad_counted, pad_uncounted}
use Rattle.capi.proofs.padded.kinchoyu_pad.Goals as goal

abbrev wrote : ℕ → ℕ → Wrote
wrote n m = record { number = n; words = m }

pub returns-then-is_empty : goal.returns-then-is_empty
returns-then-is_empty c =
    let no_words : length c.pad.new.out ≡ 0 = search rules in
    let a = c.args in
    let r = c.pad in
    let z : length a.count.now ≡ 0 = eqb-true (length a.count.now) 0 (sym c.is_empty.ensures ∙ c.if-is_empty.true) in
    let e : wrote (answer_number r.result) (answer_or 0 r.result) ≡ pad_answer a.listing.now [] = λ i. record { number = r.ensures.number i; words = r.ensures.many i } in
    let all = pad_uncounted a.listing.now a.out.now a.count.now (omega (arith, z)) _ c.pad.new.out (no_words) e in
    record { value = c.outcome.ensures ∙ all.0; out_after = all.1.0; count_after = all.1.1 }

pub returns : goal.returns
returns c =
    let a = c.args in
    let r = c.pad-answer in
    let d : length a.count.now ≢ 0 = λ z. true≢false (sym (eq-eqb (length a.count.now) 0 z) ∙ sym c.is_empty.ensures ∙ c.if-is_empty.false) in
    let e : wrote (answer_number r.result) (answer_or 0 r.result) ≡ pad_answer a.listing.now a.out.now = λ i. record { number = r.ensures.number i; words = r.ensures.many i } in
    let all = pad_counted a.listing.now a.out.now a.count.now (omega (arith, d)) _ _ e r.ensures.out_after in
    record { value = c.outcome-2.ensures ∙ all.0; out_after = all.1.0; count_after = ap (set a.count.now 0) (c.unwrap_or.ensures ∙ unwrap-answer 0 r.result) ∙ all.1.1 }

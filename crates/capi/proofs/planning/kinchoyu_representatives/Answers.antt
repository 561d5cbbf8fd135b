-- `planning::kinchoyu_representatives` meets its contract: 10, then values, powers and count one behind the other.
use Rattle.std.proofs.Common.{rules, length, ◌∙◌, ◌≡◌, ap}
use Rattle.std.specs.Result.{result_unwrap_or}
use Rattle.refusal.specs.Refusal.{answer_or}
use Rattle.refusal.proofs.Passing.{unwrap-answer}
use Rattle.labels.specs.Stored.{no_representatives}
use Rattle.labels.specs.declared.NonResidues.{NonResidues}
use Rattle.labels.specs.Ranges.{most_columns}
use Rattle.capi.specs.PlanningLaws.{representatives_short, representatives_taken}
use Rattle.capi.proofs.planning.kinchoyu_representatives.Goals as goal

pub returns-then-out-lt-REPRESENTATIVES_WORDS : goal.returns-then-out-lt-REPRESENTATIVES_WORDS
returns-then-out-lt-REPRESENTATIVES_WORDS c =
    let a = c.args in
    let both = representatives_short a.n a.c a.out.now c.if-out-lt-REPRESENTATIVES_WORDS.true in record { value = both.0; out_after = both.1 }

pub returns : goal.returns
returns c =
    let f = c.unwrap_or-found.result in
    let values-long : length f.values ≡ most_columns = search rules in
    let powers-long : length f.powers ≡ most_columns = search rules in
    let r = c.representatives-answer in
    let e = r.ensures in
    let given : f ≡ answer_or no_representatives r.result = c.unwrap_or-found.ensures ∙ ap (result_unwrap_or r.result) c.none.ensures ∙ unwrap-answer no_representatives r.result in
    let a = c.args in
    let k = representatives_taken a.n a.c a.out.now f.values f.powers _ _ _ _ c.if-out-lt-REPRESENTATIVES_WORDS.false (values-long) (powers-long)
    (ap (λ (x : NonResidues). x.values) given ∙ e.values_value) (ap (λ (x : NonResidues). x.powers) given ∙ e.powers_value) (ap (λ (x : NonResidues). x.taken) given ∙ e.taken_value)
    c.put_words.ensures c.put_words-2.ensures c.put_words-3.ensures in
    record { value = c.outcome.ensures ∙ e.number_value ∙ k.0; out_after = k.1 }

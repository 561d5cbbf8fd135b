-- `planning::kinchoyu_path` meets its contract: what the plan that stands in the words answers of the gate.
use Rattle.std.proofs.Common.{ℕ, List, ◌∙◌, ap, length, refl}
use Rattle.tree.specs.Answers.{PathAnswer}
use Rattle.tree.specs.Plan.{path_answer}
use Rattle.encoding.specs.Encoding.{plan_of}
use Rattle.writer.specs.Hand.{handed}
use Rattle.capi.specs.Planning.{path_length, path_words, with_room}
use Rattle.capi.specs.PlanningLaws.{path_called}
use Rattle.capi.proofs.planning.kinchoyu_path.Goals as goal

pub returns : goal.returns
returns c =
    let a = c.args in
    let h = c.hand in
    let e = c.path_of-answer.ensures in
    let answer : PathAnswer = path_answer (plan_of a.plan.now) a.gate in
    let words = h.ensures ∙ ap (λ (ws : List ℕ). handed ws a.out.now) (c.path_words.ensures ∙ ap path_words e.selection) in
    let room = c.with_room.ensures ∙ ap (with_room path_length (length h.new.out)) (c.outcome.ensures ∙ e.number) in
    let both = path_called a.plan.now a.out.now a.gate (plan_of a.plan.now) answer _ _ refl refl words room h.auto.out in
    record { value = both.0; out_after = both.1 }

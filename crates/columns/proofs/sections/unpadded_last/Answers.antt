-- `columns::sections::unpadded_last` meets its contract: 16, then 17, with the given gate marked too.
use lib.Seq.{set_out}
use Rattle.std.proofs.Common.{ℕ, rules, ◌≡◌, sym, ap, ◌∙◌, Bool, true, arith, mul-le-mul, ◌*◌, length, set, eqb, eq-eqb, ne_eqb}
use Rattle.base.specs.Pick.{both, pick_yes, pick_no}
use Rattle.pieces.specs.Finishing.{all_used}
use Rattle.tree.specs.declared.plan.Plan.{Plan}
use Rattle.columns.specs.Sections.{unpadded_last}
use Rattle.tree.specs.SoundLaws.{Sound, sound}
use Rattle.columns.proofs.sections.unpadded_last.Goals.{then-gate, else-gate}
use Rattle.columns.proofs.sections.unpadded_last.Goals as goal

-- the counts are those of columns of the given height
counted : (q : Plan) (height s_words cells : ℕ) → s_words ≡ q.specialised * height → cells ≡ q.copy * height
    → both (eqb s_words (q.specialised * height)) (eqb cells (q.copy * height)) ≡ true
counted q height s_words cells d e =
    let m = eqb cells (q.copy * height) in
    ap (λ (t : Bool). both t m) (eq-eqb s_words (q.specialised * height) d) ∙ eq-eqb cells (q.copy * height) e

pub overflow_mul-plan : goal.overflow_mul-plan
overflow_mul-plan c =
    let fine : Sound c.args.plan = sound c.args.plan c.requires.0 in
    omega (arith, mul-le-mul fine.special c.requires.1)

pub returns-then-s_words-plan : goal.returns-then-s_words-plan
unfolding unpadded_last
returns-then-s_words-plan c =
    let a = c.args in
    let m = eqb a.cells (a.plan.copy * a.height) in
    sym (pick_no _ _ 16 (ap (λ (t : Bool). both t m) (ne_eqb a.s_words (a.plan.specialised * a.height) c.if-s_words-plan.true)))

pub overflow_mul-plan-2 : goal.overflow_mul-plan-2
overflow_mul-plan-2 c =
    let fine : Sound c.args.plan = sound c.args.plan c.requires.0 in
    omega (arith, mul-le-mul fine.ranges.columns c.requires.1)

pub returns-then-cells-plan : goal.returns-then-cells-plan
unfolding unpadded_last
returns-then-cells-plan c =
    let a = c.args in
    let m = eqb a.cells (a.plan.copy * a.height) in
    sym (pick_no _ _ 16 (ap (λ (t : Bool). both t m) (eq-eqb a.s_words (a.plan.specialised * a.height) c.if-s_words-plan.false) ∙ ne_eqb a.cells (a.plan.copy * a.height) c.if-cells-plan.true))

pub all_used-requires : goal.all_used-requires
all_used-requires c =
    let fine : Sound c.args.plan = sound c.args.plan c.requires.0 in
    fine.few_gates

pub returns : goal.returns
unfolding unpadded_last
returns c =
    let a = c.args in
    -- the given gate is marked, where there is a mark for it
    let marks : c.if-gate.used ≡ set a.used a.gate 1 =
    let l : length a.used ≡ 128 = search rules in
    elim c.if-gate.branch [ then-gate w ↦ w.used-is | else-gate w ↦ w.used-is ∙ sym (set_out a.used a.gate 1 (omega (arith, w.if-gate.false, l))) ]
    in
    sym (pick_yes _ _ 16 (counted a.plan a.height a.s_words a.cells c.if-s_words-plan.false c.if-cells-plan.false) ∙ pick_yes (all_used a.plan.gate_count (set a.used a.gate 1)) 0 17 (ap (all_used a.plan.gate_count) (sym marks) ∙ sym c.all_used.ensures ∙ c.if-not-all_used.false))

pub returns-then-not-all_used : goal.returns-then-not-all_used
unfolding unpadded_last
returns-then-not-all_used c =
    let a = c.args in
    -- the given gate is marked, where there is a mark for it
    let marks : c.if-gate.used ≡ set a.used a.gate 1 =
    let l : length a.used ≡ 128 = search rules in
    elim c.if-gate.branch [ then-gate w ↦ w.used-is | else-gate w ↦ w.used-is ∙ sym (set_out a.used a.gate 1 (omega (arith, w.if-gate.false, l))) ]
    in
    sym (pick_yes _ _ 16 (counted a.plan a.height a.s_words a.cells c.if-s_words-plan.false c.if-cells-plan.false) ∙ pick_no (all_used a.plan.gate_count (set a.used a.gate 1)) 0 17 (ap (all_used a.plan.gate_count) (sym marks) ∙ sym c.all_used.ensures ∙ c.if-not-all_used.true))

-- `planning::kinchoyu_table_id` meets its contract: the table id of the plan that stands in the words.
use Rattle.std.proofs.Common.{ℕ, Bool, true, false, List, [], ◌∷◌, ◌∙◌, ◌≡◌, ap, refl, sym, arith, eq-eqb, eqb, length}
use Rattle.std.proofs.Math.Decide.{ℕ_discrete}
use Rattle.base.specs.Pick.{pick}
use Rattle.parameters.specs.Lookup.{mode_of}
use Rattle.refusal.specs.declared.Refusal.{Refusal}
use Rattle.std.specs.Prelude.{Some, None}
use Rattle.refusal.specs.Refusal.{refusal_number}
use Rattle.refusal.proofs.Passing.{passed_up, refusal_nonzero}
use Rattle.tree.specs.Answers.{TableId, column_index}
use Rattle.tree.specs.Plan.{plan_fault, plan_path, table_id_answer}
use Rattle.tree.specs.PlanLaws.{zero_fault}
use Rattle.tree.specs.declared.plan.Plan.{Plan}
use Rattle.encoding.specs.Encoding.{plan_of}
use Rattle.encoding.specs.Holding.{outlined}
use Rattle.encoding.proofs.HeldLaws.{Plans, plans, plans_none}
use Rattle.writer.specs.Hand.{hand_left, hand_number}
use Rattle.capi.specs.Planning.{id_words}
use Rattle.capi.specs.PlanningLaws.{id_none, none-handed}
use Rattle.capi.proofs.planning.kinchoyu_table_id.Goals as goal

-- an accepted plan's answer has the number 0
zero-choice : (s t : Bool) (i k : ℕ) → (pick {A = TableId} s (record { number = 0; count = 1; index = i }) (pick t (record { number = 0; count = 1; index = k }) (record { number = 0; count = 0; index = 0 }))).number ≡ 0
zero-choice true t i k = refl
zero-choice false true i k = refl
zero-choice false false i k = refl

-- so that a refusal of it is 19
id_refused : (q : Plan) (r : Refusal) → refusal_number r ≡ (table_id_answer q).number → refusal_number r ≡ 19
unfolding table_id_answer
id_refused q r n = go (ℕ_discrete (plan_fault q) 0)
  where
    go : Dec (plan_fault q ≡ 0) → refusal_number r ≡ 19
    go (no d) = n ∙ id_none q d
    go (yes z) = absurd (refusal_nonzero r (n ∙ rw (eq-eqb (plan_fault q) 0 z) (zero-choice (eqb (mode_of q.lookup) 2) (eqb (mode_of q.lookup) 4) (length (plan_path q 0)) q.constants)))

pub parts_in-requires : goal.parts_in-requires
parts_in-requires c =
    let held : Plans c.args.plan.now (outlined (Some c.in-Some.outline)) = plans c.args.plan.now (outlined (Some c.in-Some.outline)) c.in-Some.ensures refl in
    omega (arith, held.long)

pub returns-in_err-id : goal.returns-in_err-id
returns-in_err-id c =
    let held : Plans c.args.plan.now (outlined (Some c.in-Some.outline)) = plans c.args.plan.now (outlined (Some c.in-Some.outline)) c.in-Some.ensures refl in
    let a = c.args in
    let t = table_id_answer (plan_of a.plan.now) in
    let r = c.in_err-id.field-0.0 in
    let n : refusal_number r ≡ t.number = c.in_err-id.ensures.number ∙ ap (λ (q : Plan). (table_id_answer q).number) (c.parts_in.ensures ∙ held.parts) in
    let m : refusal_number r ≡ 19 = id_refused (plan_of a.plan.now) r n in
    let both = none-handed t.number (id_words t) a.out.now (sym n ∙ m) in
    record { value = passed_up c.from_residual.result r c.from_residual.ensures.1 ∙ m ∙ both.0; out_after = both.1 }

pub returns : goal.returns
returns c =
    let held : Plans c.args.plan.now (outlined (Some c.in-Some.outline)) = plans c.args.plan.now (outlined (Some c.in-Some.outline)) c.in-Some.ensures refl in
    let a = c.args in
    let q = plan_of a.plan.now in
    let t = table_id_answer q in
    let p = c.parts_in.ensures ∙ held.parts in
    let e = c.in_ok-id.ensures in
    let words : c.id_words.result ≡ id_words t =
    c.id_words.ensures
    ∙ ap (λ (n : ℕ). n ∷ column_index c.in_ok-id.id ∷ []) (e.count ∙ ap (λ (x : Plan). (table_id_answer x).count) p)
    ∙ ap (λ (n : ℕ). t.count ∷ n ∷ []) (e.index ∙ ap (λ (x : Plan). (table_id_answer x).index) p) in
    let z : 0 ≡ t.number = e.number ∙ ap (λ (x : Plan). (table_id_answer x).number) p in
    let h = c.hand_out.ensures in
    record {
      value = h.value ∙ ap (λ (ws : List ℕ). hand_number 0 ws a.out.now) words ∙ ap (λ (n : ℕ). hand_number n (id_words t) a.out.now) z;
      out_after = h.out_after ∙ ap (λ (ws : List ℕ). hand_left 0 ws a.out.now) words ∙ ap (λ (n : ℕ). hand_left n (id_words t) a.out.now) z;
    }

pub returns-in_default : goal.returns-in_default
returns-in_default c =
    let none : plan_fault (plan_of c.args.plan.now) ≡ 19 = ap plan_fault (sym (plans_none c.args.plan.now (outlined None) c.in_default.ensures refl)) ∙ zero_fault in
    let a = c.args in
    let t = table_id_answer (plan_of a.plan.now) in
    let both = none-handed t.number (id_words t) a.out.now (id_none (plan_of a.plan.now) (λ z. omega (arith, none, z))) in
    record { value = both.0; out_after = both.1 }

-- The arrays of the plan and of the state that words encode have their lengths.
--
-- Main definitions: `LongPlan`, `Long`. Main statements: `plan-long`, `own_plan`, `used_long`, `marked-long`.
use Rattle.std.specs.Prelude.{ℕ, drop, length, set, take, Bool, false, true, List, [], ◌∷◌, ◌≡◌, refl}
use Rattle.std.proofs.Common.{length-drop, length-set, length-take-le, ◌∙◌, ap, sym, arith}
use Rattle.std.proofs.Math.Decide.{ℕ_discrete}
use Rattle.columns.specs.declared.intake.Intake.{Intake}
use Rattle.encoding.specs.Encoding.{gates_from, intake_of, lookup_there, nodes_from, plan_length, plan_of, state_length, used_from}
use Rattle.encoding.proofs.EncodingLaws.{plan-none, plan_other, plan-read, state_other, state_read}
use Rattle.pieces.specs.Records.{Read, cut, whole}
use Rattle.pieces.specs.Rows.{marked}
use Rattle.tree.specs.Plan.{zero_plan}
use Rattle.tree.specs.declared.plan.Plan.{Plan}
use Rattle.selector.specs.Gates.{gate_slots}
use Rattle.base.specs.Limits.{most_gates}
use Rattle.selector.specs.Nodes.{node_slots}

pub record LongPlan (q : Plan) : Type 0 where
  pub gates : length q.gates ≡ gate_slots
  pub nodes : length q.nodes ≡ node_slots

pub zero-long : LongPlan zero_plan
zero-long = record { gates = refl; nodes = refl }

pub long_like : (q r : Plan) → q ≡ r → LongPlan q → LongPlan r
long_like q r e l = rw e at l

pub plan-long : (ws : List ℕ) → LongPlan (plan_of ws)
plan-long ws = by (ℕ_discrete (length ws) plan_length) (lookup_there ws) refl
  where
    by : Dec (length ws ≡ plan_length) → (t : Bool) → lookup_there ws ≡ t → LongPlan (plan_of ws)
    by (no d) t f = long_like zero_plan (plan_of ws) (plan_other ws d) zero-long
    by (yes e) false f = long_like zero_plan (plan_of ws) (plan-none ws e f) zero-long
    by (yes e) true f =
        long_like _ (plan_of ws) (plan-read ws e f)
        (record {
          gates = length-take-le gate_slots (drop gates_from ws) (omega (arith, length-drop gates_from ws));
          nodes = length-take-le node_slots (drop nodes_from ws) (omega (arith, length-drop nodes_from ws));
        })

pub used_long : (ws : List ℕ) → length (intake_of ws).used ≡ most_gates
used_long ws = by (ℕ_discrete (length ws) state_length)
  where
    by : Dec (length ws ≡ state_length) → length (intake_of ws).used ≡ most_gates
    by (yes e) = ap (λ (s : Intake). length s.used) (sym (state_read ws e)) ∙ length-take-le most_gates (drop used_from ws) (omega (arith, length-drop used_from ws))
    by (no d) = ap (λ (s : Intake). length s.used) (sym (state_other ws d))

pub own_plan : (ws : List ℕ) → LongPlan (intake_of ws).plan
own_plan ws = by (ℕ_discrete (length ws) state_length)
  where
    by : Dec (length ws ≡ state_length) → LongPlan (intake_of ws).plan
    by (yes e) = long_like (plan_of (take plan_length ws)) (intake_of ws).plan (ap (λ (s : Intake). s.plan) (state_read ws e)) (plan-long (take plan_length ws))
    by (no d) = long_like zero_plan (intake_of ws).plan (ap (λ (s : Intake). s.plan) (state_other ws d)) zero-long

pub record Long (s : Intake) : Type 0 where
  pub plan : LongPlan s.plan
  pub used : length s.used ≡ most_gates

-- marks stay as many
pub marked-long : (u : List ℕ) (ts : List Read) → length (marked u ts) ≡ length u
unfolding marked
marked-long u [] = refl
marked-long u (cut ∷ ts) = marked-long u ts
marked-long u (whole g n cs ∷ ts) = marked-long (set u g 1) ts ∙ length-set u g 1

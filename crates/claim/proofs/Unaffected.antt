-- 02, Change 2: "Columns are unaffected." Rows take what is answered of a gate, and that may now be that it has no selector; the steps that they write are what
-- they were, the gate's path in the tree, a dropped gate's being empty. So every list of calls leaves what it left: numbers, state and every word.
--
-- Main definition: `former_setting`. Main statement: `columns_unaffected`.
use Rattle.std.proofs.Common.{◌∙◌, ap}
use Rattle.std.specs.Prelude.{◌≡◌, List, ℕ}
use Rattle.selector.specs.Nodes.{most_levels, tree_at}
use Rattle.parameters.specs.declared.parameters.Parameters.{Parameters}
use Rattle.tree.specs.Plan.{plan_fault, planned}
use Rattle.tree.specs.PlanLaws.{planned_fault}
use Rattle.tree.specs.SoundLaws.{path_kept, path_in}
use Rattle.tree.specs.declared.plan.Plan.{Plan}
use Rattle.pieces.specs.Setting.{Setting, Store}
use Rattle.pieces.specs.Opening.{fresh}
use Rattle.pieces.specs.Calls.{Call, run}
use Rattle.columns.specs.Intake.{setting_of}
use Rattle.claim.proofs.ChainLaws.{kept_for}
use Rattle.claim.specs.Statement.{Opened, kept}
use Rattle.claim.proofs.Theorem.{kept_run}

-- a setting with other paths
abbrev with_path : (ℕ → List ℕ) → Setting → Setting
with_path path x =
    record {
      sound = x.sound;
      trace = x.trace;
      copied = x.copied;
      special = x.special;
      variables = x.variables;
      lookup = x.lookup;
      width = x.width;
      gates = x.gates;
      height = x.height;
      path = path;
      own = x.own;
      placed = x.placed;
      evaluated = x.evaluated;
      blocked = x.blocked;
      labelled = x.labelled;
      labels = x.labels;
    }

-- a plan's setting as it was: the path of each gate in the tree, "a dropped gate's is empty"
abbrev pub former_setting : Plan → Setting
former_setting q = with_path (path_in (tree_at most_levels q.nodes 0)) (setting_of q)

setting_kept : (q : Plan) → plan_fault q ≡ 0 → setting_of q ≡ former_setting q
setting_kept q e = ap (λ (w : ℕ → List ℕ). with_path w (setting_of q)) (path_kept q e)

-- what a caller holds after any list of calls, by the setting as it was
pub columns_unaffected : (ps : Parameters) (gs : List ℕ) (b : Store) → Opened ps gs b → (cs : List Call)
    → kept ps gs b cs ≡ kept_for (planned ps gs) (run (former_setting (planned ps gs)) cs (fresh (former_setting (planned ps gs)) b))
columns_unaffected ps gs b o cs =
    kept_run ps gs b o cs
    ∙ ap (λ (x : Setting). kept_for (planned ps gs) (run x cs (fresh x b))) (setting_kept (planned ps gs) (planned_fault ps gs o.planning))

-- A whole listing in one call, by the room for its plan.
--
-- Main statements: `run_short`, `run-given`.
use Rattle.std.specs.Prelude.{◌<◌, ◌≤◌, ℕ, leb, length, List, ◌++◌, ◌≡◌}
use borrow.Author.Tests.{le-leb, lt-leb}
use Rattle.std.proofs.Math.ListN.{drop}
use Rattle.std.proofs.Common.{◌∙◌}
use Rattle.std.proofs.Math.Path.{ap, sym}
use Rattle.base.specs.Pick.{pick, pick_no, pick_yes}
use Rattle.writer.specs.Hand.{handed}
use Rattle.encoding.specs.Encoding.{plan_length, plan_words}
use Rattle.listing.specs.Listing.{read}
use Rattle.selector.specs.Gates.{gate_slots}
use Rattle.selector.specs.Nodes.{node_slots}
use Rattle.pieces.specs.Setting.{Store}
use Rattle.stage.specs.Listed.{listed_answer, listed_left}
use Rattle.stage.specs.Circuit.{Staged}
use Rattle.capi.specs.Listed.{run_call, run_left, run_plan, short_plan}
use Rattle.capi.specs.PlanningLaws.{handed-plan}

module _ (ws out : List ℕ) (b : Store) where
  pub run_short : length out < plan_length → (n : ℕ) → n ≡ short_plan (read ws) → (n ≡ run_call ws out b) × ((out ≡ run_plan ws out b) × (b ≡ run_left ws out b))
  unfolding run_call run_plan run_left
  run_short h n e =
      let l = lt-leb plan_length (length out) h in (
        e ∙ sym (pick_no (leb plan_length (length out)) (listed_answer ws b).number (short_plan (read ws)) l),
        (
          sym (pick_no (leb plan_length (length out)) (plan_words (listed_answer ws b).plan ++ drop plan_length out) out l),
          sym (pick_no (leb plan_length (length out)) (listed_left ws b) b l),
        ),
      )

  pub run-given : plan_length ≤ length out
      → (r : Staged) (o : List ℕ) (a : Store)
      → length r.plan.gates ≡ gate_slots
      → length r.plan.nodes ≡ node_slots
      → r ≡ listed_answer ws b
      → o ≡ handed (plan_words r.plan) out
      → a ≡ listed_left ws b
      → (r.number ≡ run_call ws out b) × ((o ≡ run_plan ws out b) × (a ≡ run_left ws out b))
  unfolding run_call run_plan run_left
  run-given h r o a g n er eo ea =
      let l = le-leb plan_length (length out) h in (
        ap (λ (x : Staged). x.number) er ∙ sym (pick_yes (leb plan_length (length out)) (listed_answer ws b).number (short_plan (read ws)) l),
        (
          eo
              ∙ handed-plan r.plan out g n
              ∙ ap (λ (x : Staged). pick (leb plan_length (length out)) (plan_words x.plan ++ drop plan_length out) out) er,
          ea ∙ sym (pick_yes (leb plan_length (length out)) (listed_left ws b) b l),
        ),
      )

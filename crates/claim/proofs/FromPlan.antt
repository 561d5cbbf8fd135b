-- A sound plan whose labels were found gives all that `Planned` asks: from the laws of the tree, of plans and of labels.
--
-- Main statement: `planned-setting`.
use Rattle.std.proofs.Common.{eqb-true, arith}
use Rattle.std.specs.Prelude.{true, ◌≡◌, ℕ, ◌*◌}
use Rattle.base.specs.Tables.{table-length, table_at}
use Rattle.labels.specs.RangesLaws.{some_row}
use Rattle.labels.specs.Labels.{search_number, representatives_number, representatives_of, label_of}
use Rattle.labels.proofs.LabelLaws.{DistinctLabels, distinct_labels, search_cosets}
use Rattle.selector.specs.Gates.{kind_of}
use Rattle.tree.specs.Plan.{gates_given, plan_fault}
use Rattle.tree.specs.declared.plan.Plan.{Plan}
use Rattle.columns.specs.Intake.{labels_of, setting_of}
use Rattle.tree.specs.SoundLaws.{Sound, sound, placed_parted, dropped_bare, kind_placed, evaluated-off}
use Rattle.claim.specs.Planned.{Planned}

module _ (q : Plan) (e : plan_fault q ≡ 0) (found : search_number q.trace q.copy ≡ 0) where
  abbrev n : ℕ
  n = q.trace

  abbrev c : ℕ
  c = q.copy

  good : Sound q
  good = sound q e

  representatives_found : representatives_number n c ≡ 0
  unfolding representatives_number
  representatives_found = rw good.ranges_fit_too found

  distinct : DistinctLabels (c * n) (labels_of n c)
  distinct =
      distinct_labels n c good.ranges (representatives_of n c) (search_cosets n c representatives_found) (labels_of n c)
      (λ i h. table_at (c * n) (label_of n (representatives_of n c)) i h)

  -- an evaluated gate is of kind 0
  kind_0 : (g : ℕ) → (setting_of q).evaluated g ≡ true → kind_of (gates_given q) g ≡ 0
  kind_0 g = eqb-true (kind_of (gates_given q) g) 0

  pub planned-setting : Planned (setting_of q)
  planned-setting =
      record {
        some_rows = some_row n c good.ranges;
        fits = good.fits;
        digits = λ g h. good.digits g;
        apart = placed_parted q e;
        dropped = dropped_bare q e;
        evaluated-placed = λ g h k. kind_placed q g (λ z. omega (arith, z, kind_0 g k));
        evaluated-off = λ free g h k. evaluated-off q e free g h (kind_0 g k);
        all_labels = table-length (c * n) (label_of n (representatives_of n c));
        labels_below = distinct.below;
        labels_nonzero = distinct.nonzero;
        labels_distinct = distinct.apart;
      }

-- What a whole circuit in one call leaves, for a plan that is given.
use Rattle.std.specs.Prelude.{List, ℕ}
use Rattle.tree.specs.declared.plan.Plan.{Plan}
use Rattle.pieces.specs.Setting.{Store}
use Rattle.columns.specs.Intake.{setting_of, unless_refused}
use Rattle.columns.specs.Sections.{sections_number}
use Rattle.claim.specs.Chain.{chained, opened_kept}
use Rattle.stage.specs.Circuit.{calls}

unfoldable pub planned_left : Plan → List ℕ → List ℕ → List ℕ → List ℕ → Store → Store
planned_left q r s c t b = unless_refused (sections_number (setting_of q) b r s c t) (chained (calls r s c t) (opened_kept q b)).store b

-- 01, 'Worked circuits': "Marked P: ..". "The P cases form a joint table, proved as one fact about the rules."
--
-- Main definition: `WorkedCircuits`. Main statement: `worked_circuits`.
use Rattle.field.proofs.Numerals.{worked as sums}
use Rattle.labels.proofs.Numerals.{worked_labels}
use Rattle.selector.specs.Examples.{p5}
use Rattle.cases.proofs.Columns.{p6, p7, p9, p9_same, p10}
use Rattle.cases.proofs.Listed.{printed-bytes}
use Rattle.cases.proofs.SaidOfListing.{p8_says}
use Rattle.cases.proofs.SaidOfOthers.{others_say}
use Rattle.cases.proofs.SaidOfCalls.{calls_say}
use Rattle.cases.proofs.Selectors.{worked_selectors}
use Rattle.cases.proofs.Markers.{worked_markers}
use Rattle.cases.specs.Cases.{WorkedCircuits}

pub worked_circuits : WorkedCircuits
worked_circuits =
    record {
      p1 = sums.p1;
      p2 = sums.p2;
      p3 = sums.p3;
      p4 = worked_labels.p4;
      p4_powers = worked_labels.p4_powers;
      powers-taken = (worked_labels.p4_taken, worked_labels.coset_powers_taken);
      p5_degrees = p5;
      p6_plan = p6;
      p7_columns = p7;
      p8 = printed-bytes;
      p9_columns = p9;
      p9_among = p9_same;
      p10_plan = p10;
      p8_said = p8_says;
      others_said = others_say;
      calls_said = calls_say;
      selectors_said = worked_selectors;
      markers_said = worked_markers;
    }

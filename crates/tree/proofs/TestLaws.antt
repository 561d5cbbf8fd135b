-- Tests of numbers, as the code's conditions say how they come out.
use Rattle.std.proofs.Common.{eq-eqb, le-leb, ne_eqb}
use Rattle.std.proofs.lemmas.Bool.{lt-leb}

pub ruleset tests = (eq-eqb, ne_eqb, le-leb, lt-leb)

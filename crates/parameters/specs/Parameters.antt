-- 01, 'When a call is turned down', planning's refusals 1 and 2, and the lookup mode that eight parameter words tell of.
--
-- Main definitions: `parameter_words`, `parameters_at`, `parameters_number`, `lookup_of`.
use Rattle.std.specs.Prelude.{ℕ, eqb, leb, get_or, List}
use Rattle.base.specs.Firsts.{or_number}
use Rattle.base.specs.Pick.{pick}
use Rattle.labels.specs.Ranges.{ranges_fit}
use Rattle.parameters.specs.declared.lookup.LookupParameters.{LookupParameters}
use Rattle.parameters.specs.declared.lookup.LookupParameters.TheVariants.{NoLookup, TableIdAsConstant, TableIdAsVariable, UseSpecializedColumnsWithTableIdAsConstant, UseSpecializedColumnsWithTableIdAsVariable}
use Rattle.parameters.specs.declared.parameters.Parameters.{Parameters}

-- "parameters (8 words: N, C, A, S, V, mode, W, share flag)"
abbrev pub parameter_words : ℕ
parameter_words = 8

-- the parameters by their words; a word that is not there counts as 0
abbrev pub parameters_at : List ℕ → Parameters
parameters_at ws =
    record {
      trace = get_or ws 0 0;
      copy = get_or ws 1 0;
      allowed = get_or ws 2 0;
      specialised = get_or ws 3 0;
      variables = get_or ws 4 0;
      mode = get_or ws 5 0;
      width = get_or ws 6 0;
      share = get_or ws 7 0;
    }

-- "1 a parameter outside its range (W 1..16 in modes 1 to 4; flag 0 or 1; W and flag 0 in mode 0; S at least 1 in mode 4)". The ranges: "N is the trace length, a
-- power of two, 1..65,536. C: copy columns, 1..64. A: constants allowed, 0..16. S: specialised constant columns, 0..16. V: variables, 0..1,048,576."
unfoldable pub range_number : Parameters → ℕ
range_number p =
    pick (ranges_fit p.trace p.copy)
    (pick (leb p.allowed 16)
    (pick (leb p.specialised 16)
    (pick (leb p.variables 1048576)
    (pick (eqb p.mode 0)
    (pick (eqb p.width 0) (pick (eqb p.share 0) 0 1) 1)
    (pick (leb p.mode 4)
    (pick (leb 1 p.width)
    (pick (leb p.width 16)
    (pick (leb p.share 1)
    (pick (eqb p.mode 4) (pick (leb 1 p.specialised) 0 1) 0)
    1) 1) 1) 1)) 1) 1) 1) 1

-- "2 flag 0 in mode 2 or 4"
unfoldable pub flag_number : Parameters → ℕ
flag_number p = pick (eqb p.share 0) (pick (eqb p.mode 2) 2 (pick (eqb p.mode 4) 2 0)) 0

-- the refusal of the parameters, or 0
unfoldable pub parameters_number : Parameters → ℕ
parameters_number p = or_number (range_number p) (flag_number p)

-- the lookup mode of a mode word, a width and a flag
unfoldable pub lookup_of : Parameters → LookupParameters
lookup_of p =
    pick (eqb p.mode 1) (TableIdAsVariable p.width (eqb p.share 1))
    (pick (eqb p.mode 2) (TableIdAsConstant p.width (eqb p.share 1))
    (pick (eqb p.mode 3) (UseSpecializedColumnsWithTableIdAsVariable p.width (eqb p.share 1))
    (pick (eqb p.mode 4) (UseSpecializedColumnsWithTableIdAsConstant p.width (eqb p.share 1)) NoLookup)))

-- 01, 'Gates and tree': "Lookup modes, as LookupParameters orders them: 0 none, 1 table id as variable, 2 as constant, 3 specialised as variable, 4 specialised
-- as constant. Width, share flag and mode are answered by the mode itself, as in the Rust."
--
-- Main definitions: `width_of`, `share_of`, `mode_of`, `flag_of`.
use Rattle.std.specs.Prelude.{ℕ, Bool, false, true}
use Rattle.parameters.specs.declared.lookup.LookupParameters.{LookupParameters}
use Rattle.parameters.specs.declared.lookup.LookupParameters.TheVariants.{NoLookup, TableIdAsConstant, TableIdAsVariable, UseSpecializedColumnsWithTableIdAsConstant, UseSpecializedColumnsWithTableIdAsVariable}

abbrev pub width_of : LookupParameters → ℕ
width_of NoLookup = 0
width_of (TableIdAsVariable w s) = w
width_of (TableIdAsConstant w s) = w
width_of (UseSpecializedColumnsWithTableIdAsVariable w s) = w
width_of (UseSpecializedColumnsWithTableIdAsConstant w s) = w

abbrev pub share_of : LookupParameters → Bool
share_of NoLookup = false
share_of (TableIdAsVariable w s) = s
share_of (TableIdAsConstant w s) = s
share_of (UseSpecializedColumnsWithTableIdAsVariable w s) = s
share_of (UseSpecializedColumnsWithTableIdAsConstant w s) = s

abbrev pub mode_of : LookupParameters → ℕ
mode_of NoLookup = 0
mode_of (TableIdAsVariable w s) = 1
mode_of (TableIdAsConstant w s) = 2
mode_of (UseSpecializedColumnsWithTableIdAsVariable w s) = 3
mode_of (UseSpecializedColumnsWithTableIdAsConstant w s) = 4

-- the share flag as a word
abbrev pub flag_of : Bool → ℕ
flag_of true = 1
flag_of false = 0

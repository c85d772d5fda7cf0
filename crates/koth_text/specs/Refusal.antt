-- The line of a source that is refused.
use Rattle.std.specs.Prelude.{ℕ, List, ◌++◌, codes, decimal}
use Rattle.war_types.specs.{Fault.kind_name, declared.fault.AsmFault.AsmFault}

-- the source's line, counted from 1, and the kind's name
abbrev pub refusal_line : AsmFault → List ℕ
refusal_line fault = codes "REFUSED " ++ decimal fault.line ++ codes " " ++ kind_name fault.kind ++ codes "\n"

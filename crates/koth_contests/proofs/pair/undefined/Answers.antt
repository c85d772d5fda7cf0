-- Memory ran out, or nothing is assembled.
use Rattle.{std.proofs.Common.{ap, inl, inr}, koth_commands.specs.declared.trouble.Trouble.Trouble}
use Rattle.koth_contests.proofs.pair.undefined.Goals as goal

pub returns-in-Memory : goal.returns-in-Memory
returns-in-Memory g c define source is = inr c.memory.ensures

pub returns-in_default : goal.returns-in_default
returns-in_default g c define source (inl memory) = absurd (c.in_default.not-Memory (ap (λ (t : Trouble). t.fault) memory))
returns-in_default g c define source (inr none) = none

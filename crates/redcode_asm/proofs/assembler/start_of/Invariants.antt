-- The last start so far is the one of all lines, unless a line left gives another.
use Rattle.{std.proofs.Common.{◌≡◌, drop}, std.specs.Option.option_or, redcode_asm.specs.Assembly.{last_of, org_of, end_of}}
use Rattle.redcode_asm.proofs.assembler.start_of.Given as goal

abbrev pub invariant-loop-line : goal.invariant-loop-line
invariant-loop-line l =
    (option_or (last_of org_of (drop l.line-index l.said)) l.org ≡ last_of org_of l.said)
    × (option_or (last_of end_of (drop l.line-index l.said)) l.end ≡ last_of end_of l.said)

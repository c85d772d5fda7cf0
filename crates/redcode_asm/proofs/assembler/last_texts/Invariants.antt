-- The last texts so far are the last of all lines, unless a line left gives another.
use Rattle.{std.proofs.Common.{◌≡◌, drop, []}, std.specs.Option.unwrap_or, redcode_asm.specs.Assembly.{last_text, is_name, is_author}}
use Rattle.redcode_asm.proofs.assembler.last_texts.Given as goal

abbrev pub invariant-loop-entry : goal.invariant-loop-entry
invariant-loop-entry g l =
    (unwrap_or (last_text is_name (drop l.entry-index l.expanded.lines)) l.name ≡ unwrap_or (last_text is_name l.expanded.lines) [])
    × (unwrap_or (last_text is_author (drop l.entry-index l.expanded.lines)) l.author ≡ unwrap_or (last_text is_author l.expanded.lines) [])

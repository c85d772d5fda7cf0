-- The lines of the first places are put.
use Rattle.{std.proofs.Common.{◌≡◌, ◌++◌, map, take}, koth_json.specs.Contest.contender_parts, koth_rank.specs.Table.ranked_lines}
use Rattle.koth_rank.proofs.table.put_lines.Given as goal

abbrev pub invariant-loop-at : goal.invariant-loop-at
invariant-loop-at g l = l.text.items ≡ l.fn.text.items ++ ranked_lines l.view (map contender_parts l.contenders) l.standings.counts (take l.at l.ranked)

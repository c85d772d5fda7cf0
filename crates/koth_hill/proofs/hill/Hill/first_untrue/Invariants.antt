-- The rows before this one are true.
use Rattle.{std.proofs.Common.{◌≡◌, [], take}, koth_hill.specs.Kept.{fought_from, members_of, rows_of}}
use Rattle.koth_hill.proofs.hill.Hill.first_untrue.Given as goal

abbrev pub invariant-loop-i : goal.invariant-loop-i
invariant-loop-i g l = record {
  fought : take l.i (rows_of l.members) ≡ take l.i (fought_from l.self.settings [] (members_of l.members));
  settings : l.arena.settings ≡ l.fn.arena.settings;
}

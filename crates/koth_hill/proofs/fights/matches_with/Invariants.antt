-- The matches so far are those with the ones before.
use Rattle.{std.proofs.Common.{◌≡◌, All, take}, koth_match.specs.Match.rounds_in, koth_hill.specs.{Step.matches_with, Kept.members_of}}
use Rattle.koth_hill.proofs.fights.matches_with.Given as goal

abbrev pub invariant-loop-member : goal.invariant-loop-member
invariant-loop-member g l = record {
  value : l.bouts ≡ matches_with l.settings (members_of (take l.member-index l.older)) l.warrior;
  rounds : All (λ b. rounds_in b ≡ l.settings.rounds) l.bouts;
  settings : l.arena.settings ≡ l.fn.arena.settings;
}

-- The first `place` sources were read.
use Rattle.{std.proofs.Common.{◌≤◌, All, length}, war_types.specs.Warrior.Fits, koth_contests.specs.Opponents.names_of, koth_field.{specs.{Field.entrants_of, declared.field.Member.Member}, proofs.Members.{SoFar, TellsSo}}}
use Rattle.koth_field.proofs.field.field_of.Given as goal

abbrev pub invariant-loop-place : goal.invariant-loop-place
invariant-loop-place g l = record {
  read : SoFar l.settings (names_of l.sources) l.place l.status (entrants_of l.members.items);
  told : TellsSo l.status (g.E.Write.contents l.fn.errors) (g.E.Write.contents l.errors);
  fit : All (λ m. Fits l.settings m.warrior) l.members.items;
  few : length l.members.items ≤ l.place;
}

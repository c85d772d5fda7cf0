-- The first `place` opponents were met.
use Rattle.{std.proofs.Common.{◌≡◌, ◌*◌, ◌≤◌}, koth_contests.specs.{Contest.{most_rounds, rounds_in}, Lines.entrant, Opponents.names_of}, koth_contests.proofs.Meetings.{NotesSo, SoFar}}
use Rattle.koth_contests.proofs.meeting.meet_all.Given as goal

abbrev pub invariant-loop-place : goal.invariant-loop-place
invariant-loop-place g l = record {
  met : SoFar l.settings l.terms (entrant l.file l.mine) (names_of l.opponents) l.place l.status l.fought l.sum (g.O.Write.contents l.fn.output) (g.O.Write.contents l.output);
  told : NotesSo l.terms.view l.status (g.E.Write.contents l.fn.errors) (g.E.Write.contents l.errors);
  few : l.fought ≤ l.place;
  settings : l.arena.settings ≡ l.settings;
  rounds : rounds_in l.sum ≤ most_rounds * l.place;
}

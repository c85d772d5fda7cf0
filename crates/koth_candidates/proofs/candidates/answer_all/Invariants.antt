-- The candidates so far were answered.
use Rattle.{std.proofs.Common.{◌≡◌}, koth_field.specs.Field.entrants_of, koth_candidates.proofs.Answering.SoFar}
use Rattle.koth_candidates.proofs.candidates.answer_all.Given as goal

abbrev pub invariant-loop : goal.invariant-loop
invariant-loop g l = record {
  so_far : SoFar l.settings (entrants_of l.opponents) (g.I.Read.remaining l.fn.input) (g.I.Read.remaining l.input) (g.O.Write.contents l.fn.output)
      (g.O.Write.contents l.output) (g.E.Write.contents l.fn.errors) (g.E.Write.contents l.errors);
  settings : l.arena.settings ≡ l.settings;
}

-- A read that was interrupted took nothing.
use Rattle.{std.proofs.Common.{◌≡◌, length}, std.specs.Io.KnownBytes.Keeps}
use Rattle.koth_text.proofs.uninterrupted.read_uninterrupted.Given as goal

abbrev pub invariant-loop : goal.invariant-loop
invariant-loop g l = (length l.to ≡ length l.initial.to) × Keeps (g.R.Read.remaining l.initial.input) (g.R.Read.remaining l.input)

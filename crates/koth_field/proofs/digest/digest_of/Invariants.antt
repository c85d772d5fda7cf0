-- The first members were taken.
use Rattle.{std.proofs.Common.take, sha2.specs.Hashers.Holds256, koth_field.specs.{Field.entrants_of, Digest.field_text}}
use Rattle.koth_field.proofs.digest.digest_of.Given as goal

abbrev pub invariant-loop-place : goal.invariant-loop-place
invariant-loop-place g l = Holds256 l.hasher (field_text l.settings.core (entrants_of (take l.place l.members)))

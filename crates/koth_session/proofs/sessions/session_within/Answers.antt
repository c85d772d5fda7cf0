-- Without memory nothing is taken, and what the streams tell follows from how the session ended.
use Rattle.{std.proofs.{Common.{[], arith, inl, refl}, KnownBytes.{Consumes-nil, Keeps-refl}}, sector_disk.proofs.Kept.kept_same}
use Rattle.{koth_session.specs.Sessions.scene, koth_session.proofs.Spoken.speaks}
use Rattle.koth_session.proofs.sessions.session_within.Goals as goal

pub returns-in-Err-clause-ends : goal.returns-in-Err-clause-ends
returns-in-Err-clause-ends g c = (
  [],
  Consumes-nil _,
  omega arith,
  kept_same g.D.Device.facts c.args.store.now.device,
  inl (refl, refl, Keeps-refl _),
)

pub returns-in-Ok-clause-spoken : goal.returns-in-Ok-clause-spoken
returns-in-Ok-clause-spoken g c =
    speaks g.D.Device.facts c.args.steps c.serve.result (g.R.Read.remaining c.args.input.now.stream) (g.R.Read.remaining c.serve.new.input.stream)
    (scene (g.W.Write.contents c.args.output.now.stream) c.args.store.now) (scene (g.W.Write.contents c.serve.new.output.stream) c.serve.new.store) c.serve.ensures.ends

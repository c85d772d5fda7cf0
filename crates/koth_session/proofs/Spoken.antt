-- What the streams of a session tell of it, by how it ended.
use Rattle.std.proofs.Common.{◌≡◌, inl, inr, ℕ, List, ◌∷◌, ◌++◌, Option, None, Some, ap, subst, ◌∙◌}
use Rattle.{std.specs.Io.KnownBytes.{Keeps}, std.proofs.KnownBytes.{Appends-kept}, sector_disk.specs.Facts.DeviceFacts}
use Rattle.koth_protocol.specs.{Commands.{Command}, Written.WritesPart}
use Rattle.koth_session.specs.{Sessions.{AnswersAll, AnswersFirst, Scene}, Spoken.{Speaks, SpeaksAll, SpeaksSo, SpeaksTo}, Within.{EndsSoWithin, EndsWithin}}
use Rattle.koth_session.specs.{Transcript.{answer, commands_in}, declared.sessions.SessionEnd.SessionEnd}

module _ {D : Type 0} (facts : DeviceFacts D) where
  all : (taken : List ℕ) (a c : Scene D) → AnswersAll facts taken a c → SpeaksAll a.store.hill taken a.output c.output
  all taken a c is = (is.es, is.commands, is.answered.written)

  -- the command that ended the session was this one, and nothing was written of an answer to it
  to : (taken : List ℕ) (end : SessionEnd) (a c : Scene D) (command : Command) → (is : AnswersFirst facts taken end a c) → is.command ≡ command
      → Keeps is.last.output c.output → SpeaksTo command a.store.hill taken a.output c.output
  to taken end a c command is same kept = (
    is.es,
    is.behind,
    is.commands ∙ ap (λ (k : Command). commands_in is.es ++ (k ∷ is.behind)) same,
    Appends-kept a.output is.last.output c.output _ is.answered.written kept,
  )

  so : (steps : Option ℕ) (end : Option SessionEnd) (taken : List ℕ) (left : Option (List ℕ)) (a c : Scene D) → EndsSoWithin facts steps end taken left a c
      → SpeaksSo steps a.store.hill end taken left a.output c.output
  so steps (Some SessionEnd.Quit) taken left a c is = to taken SessionEnd.Quit a c Command.Quit is is.ended.0 is.ended.2
  so steps (Some SessionEnd.EndOfInput) taken left a c is = (is.0, all taken a c is.1)
  so steps (Some SessionEnd.ReadFault) taken left a c is = all taken a c is
  so steps (Some SessionEnd.WriteFault) taken left a c is = (
    is.es,
    is.ended.0,
    is.behind,
    is.commands ∙ ap (λ (k : Command). commands_in is.es ++ (k ∷ is.behind)) is.ended.1,
    is.last.output,
    is.answered.written,
    subst (λ h. WritesPart is.last.output c.output (answer h is.ended.0)) is.answered.served.hill is.ended.3,
  )
  so steps (Some SessionEnd.Limit) taken left a c is = (is.0, all taken a c is.1)
  so steps (Some SessionEnd.StoreFailed) taken left a c is = (is.ended.0, to taken SessionEnd.StoreFailed a c (Command.Submit is.ended.0) is is.ended.1 is.ended.3)
  so steps (Some SessionEnd.Memory) taken left a c (inl is) = inl (is.0, is.2)
  so steps (Some SessionEnd.Memory) taken left a c (inr is) = inr (to taken SessionEnd.Memory a c Command.Show is is.ended.0 is.ended.2)
  so steps None taken left a c is = (is.source, is.spends, (is.es, is.behind, is.commands, is.answered.written))

  pub speaks : (steps : Option ℕ) (end : Option SessionEnd) (had left : Option (List ℕ)) (a c : Scene D) → EndsWithin facts steps end had left a c
      → Speaks steps a.store.hill end had left a.output c.output
  speaks steps end had left a c is = (is.0, is.1, is.2, so steps end is.0 left a c is.4)

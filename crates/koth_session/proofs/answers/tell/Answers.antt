-- A table, the end, or a line that is no command.
use Rattle.{std.proofs.Common.{◌≡◌, ◌⊎◌, ap, inl, inr, ℕ, List, refl, subst, sym}, koth_protocol.specs.{Commands.Command, declared.script.Met.Met}}
use Rattle.koth_session.{specs.Peer.{AnswersPeer, command_due}, proofs.Answering.bad_said}
use Rattle.koth_session.proofs.answers.tell.Goals as goal

either_bad : (m : Met) (bytes : List ℕ) → (m ≡ Met.Request) ⊎ (m ≡ Met.Bad) → Command.Bad ≡ command_due m bytes
either_bad m bytes (inl is) = rw is refl
either_bad m bytes (inr is) = rw is refl

pub returns-in-Show : goal.returns-in-Show
returns-in-Show g c = λ steps bytes.
    subst (λ k. AnswersPeer g.D.Device.facts steps k c.show.result c.args.outbox.now.unsent c.args.store.now c.show.new.outbox.unsent c.args.store.now)
    (ap (λ m. command_due m bytes) (sym c.in-Show.is)) (c.show.ensures steps)

pub returns-in-Request : goal.returns-in-Request
returns-in-Request g c = λ steps bytes.
    subst (λ k. AnswersPeer g.D.Device.facts steps k c.say.result c.args.outbox.now.unsent c.args.store.now c.say.new.outbox.unsent c.args.store.now)
    (either_bad c.args.due bytes c.in-Request.is)
    (bad_said g.D.Device.facts steps c.say.result c.args.outbox.now.unsent c.say.new.outbox.unsent c.args.store.now c.say.ensures)

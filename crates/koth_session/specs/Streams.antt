-- Of private contracts alone: how a session over two streams stands between its commands.
use Rattle.std.specs.Prelude.{◌≡◌, ⊤, ℕ, ◌<◌, true, List, [], length, Option, None, Some, Result, Ok, Err}
use Rattle.{sector_disk.specs.Facts.DeviceFacts, koth_protocol.specs.Commands.Reader}
use Rattle.koth_session.specs.Peer.{IsPeer, is_due_now}
use Rattle.koth_session.specs.{Sessions.{IsAnsweredTo, Scene}, Transcript.{Exchange, commands_in}, Within.EndsFirst}
use Rattle.koth_session.specs.{declared.end.PeerEnd.PeerEnd, declared.peer.Peer.Peer}
use Rattle.koth_session.specs.declared.sessions.SessionEnd.{SessionEnd}

-- it goes on, or its bytes are at an end
abbrev pub IsOpen : Option PeerEnd → Type 0
IsOpen None = ⊤
IsOpen (Some PeerEnd.EndOfInput) = ⊤
IsOpen (Some PeerEnd.Limit) = ⊤
IsOpen (Some PeerEnd.Quit) = ⊥
IsOpen (Some PeerEnd.Unread) = ⊥
IsOpen (Some PeerEnd.StepsSpent) = ⊥
IsOpen (Some PeerEnd.StoreFailed) = ⊥
IsOpen (Some PeerEnd.Memory) = ⊥

-- These bytes came, and the streams and the store went from one scene to another by the answers to the commands that
-- were carried out. Nothing is unsent, and fewer bytes wait than one read takes.
pub record IsServing {D A : Type 0} (facts : DeviceFacts D) (came : List ℕ) (peer : Peer A) (begun now : Scene D)
    : Type 0 where
  pub es : List Exchange
  pub reads : IsPeer Reader.Session peer came (commands_in es)
  pub answered : IsAnsweredTo facts begun now es
  pub unsent : peer.outbox.unsent ≡ []
  pub few : is_due_now peer ≡ true → length peer.inbox.waiting < 4096
  pub open_still : IsOpen peer.end

-- so it still is, or a command ended the session
abbrev pub Goes : {D A T : Type 0} → DeviceFacts D → Option ℕ → Result T (Option SessionEnd) → List ℕ → Peer A → Scene D
    → Scene D → Type 0
Goes facts steps (Ok _) came peer begun now = IsServing facts came peer begun now
Goes facts steps (Err end) came peer begun now = EndsFirst facts steps came end begun now

-- however it began
abbrev pub GoesOn : {D A T : Type 0} → DeviceFacts D → Option ℕ → Result T (Option SessionEnd) → Peer A → Scene D
    → Peer A → Scene D → Type 0
GoesOn {D} facts steps end old was new now =
    (came : List ℕ) (begun : Scene D) → IsServing facts came old begun was → Goes facts steps end came new begun now

-- how a session over streams ends where its peer ended so, and none if a source spent its steps
abbrev pub end_of : PeerEnd → Option SessionEnd
end_of PeerEnd.Quit = Some SessionEnd.Quit
end_of PeerEnd.EndOfInput = Some SessionEnd.EndOfInput
end_of PeerEnd.Limit = Some SessionEnd.Limit
end_of PeerEnd.Unread = Some SessionEnd.Memory
end_of PeerEnd.StepsSpent = None
end_of PeerEnd.StoreFailed = Some SessionEnd.StoreFailed
end_of PeerEnd.Memory = Some SessionEnd.Memory

-- One session as a value: what came of it, what was carried out, and what is to be sent.
use Rattle.std.specs.Prelude.{◌≡◌, ◌≢◌, ◌⊎◌, ⊤, ℕ, ◌+◌, ◌<◌, ◌≤◌, nat_le, Bool}
use Rattle.std.specs.Prelude.{true, false, if◌then◌else◌, List, [], ◌∷◌, ◌++◌, drop, length}
use Rattle.std.specs.Prelude.{Option, None, Some}
use Rattle.{koth_hill.specs.Kept.{Kept, table_kept}, sector_disk.specs.Facts.DeviceFacts}
use Rattle.hill_store.specs.Seen.{MayBeSpent, Seen}
use Rattle.{hill_store.specs.declared.reply.Reply.Reply, koth_session.specs.Reply.reply_line}
use Rattle.koth_protocol.specs.Commands.{Command, Reader, commands_read, kept_source}
use Rattle.koth_protocol.specs.{Table.show_text, declared.script.Met.Met}
use Rattle.koth_session.specs.{Sessions.{AreServed, IsLeftOff, has_failed}, Transcript.{Exchange, answer, command_in}}
use Rattle.koth_session.specs.Inbox.{IsNext, IsReadTo, IsTaken, is_met, is_request, is_submission, room_of}
use Rattle.koth_session.specs.declared.end.PeerEnd.{PeerEnd}
use Rattle.koth_session.specs.{declared.inbox.Inbox.Inbox, declared.peer.Peer.Peer}
use Rattle.koth_protocol.specs.declared.script.Met.TheVariants as met

-- ---- how a session stands

-- how it stands after what came: it goes on while a command is due, or while more bytes may come
abbrev pub settled : Option PeerEnd → Bool → ℕ → Bool → Option PeerEnd
settled (Some end) due taken closed = Some end
settled None true taken closed = None
settled None false taken closed =
    if nat_le 16777216 taken then Some PeerEnd.Limit else (if closed then Some PeerEnd.EndOfInput else None)

abbrev pub settled_now : {A : Type 0} → Option PeerEnd → Peer A → Option PeerEnd
settled_now end peer = settled end (is_met peer.inbox.due) peer.inbox.taken peer.closed

-- a session that has not ended has a command that is due
abbrev pub is_due : Option PeerEnd → Bool → Bool
is_due None met = met
is_due (Some end) met = false

abbrev pub is_due_now : {A : Type 0} → Peer A → Bool
is_due_now peer = is_due peer.end (is_met peer.inbox.due)

-- and what is due is a browser's request
abbrev pub asks_now : {A : Type 0} → Peer A → Bool
asks_now peer = is_request peer.inbox.due

-- or a submission
abbrev pub submits_now : {A : Type 0} → Peer A → Bool
submits_now peer = is_submission peer.inbox.due

-- bytes that may come: none once the peer's bytes are at their end, or the session has ended
abbrev pub may_come : Option PeerEnd → Bool → ℕ → ℕ
may_come (Some end) closed room = 0
may_come None true room = 0
may_come None false room = room

abbrev pub may_come_now : {A : Type 0} → Peer A → ℕ
may_come_now peer = may_come peer.end peer.closed (room_of peer.inbox)

-- What a session that stands so made of what came: these commands were carried out and answered. As long as the session
-- goes on, the next one is due, or more bytes may come.
abbrev pub HasRead : {A : Type 0} → Reader → Option PeerEnd → Inbox A → Bool → List ℕ → List Command
    → Type 0
HasRead reader None inbox closed came done =
    IsReadTo reader inbox came done × (is_met inbox.due ≡ false → (closed ≡ false) × (length came < 16777216))
HasRead reader (Some PeerEnd.Quit) inbox closed came done = commands_read reader came ≡ done ++ Command.Quit ∷ []
HasRead reader (Some PeerEnd.EndOfInput) inbox closed came done =
    (commands_read reader came ≡ done) × (closed ≡ true)
HasRead reader (Some PeerEnd.Limit) inbox closed came done =
    (commands_read reader came ≡ done) × (length came ≡ 16777216)
HasRead reader (Some PeerEnd.Unread) inbox closed came done =
    (command : Command) × (behind : List Command) × (commands_read reader came ≡ done ++ command ∷ behind)
HasRead reader (Some PeerEnd.StepsSpent) inbox closed came done =
    (source : List ℕ) × (behind : List Command)
    × (commands_read reader came ≡ done ++ Command.Submit source ∷ behind)
HasRead reader (Some PeerEnd.StoreFailed) inbox closed came done =
    (source : List ℕ) × (behind : List Command)
    × (commands_read reader came ≡ done ++ Command.Submit source ∷ behind)
HasRead reader (Some PeerEnd.Memory) inbox closed came done =
    (command : Command) × (behind : List Command) × (commands_read reader came ≡ done ++ command ∷ behind)

-- these bytes came, and these commands that the reader finds in them were carried out and answered
pub record IsPeer {A : Type 0} (reader : Reader) (peer : Peer A) (came : List ℕ) (done : List Command) : Type 0 where
  pub has_read : HasRead reader peer.end peer.inbox peer.closed came done
  pub few : length came ≤ 16777216

-- a session of which nothing came yet
pub record IsNew {A : Type 0} (peer : Peer A) : Type 0 where
  pub begins : (reader : Reader) → IsPeer reader peer [] []
  pub unsent : peer.outbox.unsent ≡ []
  pub open_still : peer.closed ≡ false
  pub goes_on : peer.end ≡ None
  pub waits : peer.waits ≡ false

-- ---- what each call makes of it

-- the command that was due is due
pub record IsStillDue {A : Type 0} (old new : Peer A) : Type 0 where
  pub due : is_due_now new ≡ true
  pub met_is : new.inbox.due ≡ old.inbox.due
  pub source : new.inbox.script.source ≡ old.inbox.script.source

-- these bytes came
pub record Takes {A : Type 0} (old : Peer A) (bytes : List ℕ) (new : Peer A) : Type 0 where
  pub reads : (reader : Reader) (came : List ℕ) (done : List Command) → IsPeer reader old came done
      → IsPeer reader new (came ++ bytes) done
  pub unsent : new.outbox.unsent ≡ old.outbox.unsent
  pub closed : new.closed ≡ old.closed
  pub end : new.end ≡ settled_now old.end new
  -- a command that is due then was found in what came
  pub fewer : is_due_now old ≡ false → is_due_now new ≡ true
      → length new.inbox.waiting < length old.inbox.waiting + length bytes
  pub waits : new.waits ≡ old.waits
  pub still : is_due_now old ≡ true → IsStillDue old new

-- no more bytes come
pub record Closes {A : Type 0} (old new : Peer A) : Type 0 where
  pub reads : (reader : Reader) (came : List ℕ) (done : List Command) → IsPeer reader old came done
      → IsPeer reader new came done
  pub unsent : new.outbox.unsent ≡ old.outbox.unsent
  pub closed : new.closed ≡ true
  pub end : new.end ≡ settled_now old.end new
  pub inbox : new.inbox ≡ old.inbox
  pub waits : new.waits ≡ old.waits

-- `count` bytes of its answers were sent
pub record Sends {A : Type 0} (old : Peer A) (count : ℕ) (new : Peer A) : Type 0 where
  pub unsent : new.outbox.unsent ≡ drop count old.outbox.unsent
  pub inbox : new.inbox ≡ old.inbox
  pub closed : new.closed ≡ old.closed
  pub end : new.end ≡ old.end
  pub waits : new.waits ≡ old.waits

-- nothing of it changed
abbrev pub Stays : {A : Type 0} → Peer A → Peer A → Type 0
Stays old new = Sends old 0 new

-- nothing of it changed, but that its source waits now until no submission of another peer is under way
pub record PutsOff {A : Type 0} (old new : Peer A) : Type 0 where
  pub unsent : new.outbox.unsent ≡ old.outbox.unsent
  pub inbox : new.inbox ≡ old.inbox
  pub closed : new.closed ≡ old.closed
  pub end : new.end ≡ old.end
  pub waits : new.waits ≡ true

-- the command that is due, with the bytes of a source
abbrev pub command_due : Met → List ℕ → Command
command_due met.Nothing bytes = Command.Bad
command_due met.Submit bytes = Command.Submit bytes
command_due met.Show bytes = Command.Show
command_due met.Quit bytes = Command.Quit
command_due met.Request bytes = Command.Bad
command_due met.Bad bytes = Command.Bad

-- the answer to this command has no room after the answers that are unsent; a reply takes 96 bytes at most
abbrev pub IsFull : Kept → Command → List ℕ → Type 0
IsFull hill (Command.Submit source) unsent = 1048576 < length unsent + 96
IsFull hill Command.Show unsent = 1048576 < length unsent + length (show_text (table_kept hill))
IsFull hill Command.Quit unsent = ⊥
IsFull hill Command.Bad unsent = 1048576 < length unsent + 4

-- a text was put after the answers that are unsent, or the session ends: it has no room, or no memory, which is there
-- for 96 bytes of text while nothing is unsent
abbrev pub Says : List ℕ → Option PeerEnd → List ℕ → List ℕ → Type 0
Says text None unsent new = new ≡ unsent ++ text
Says text (Some PeerEnd.Unread) unsent new = (1048576 < length unsent + length text) × (new ≡ unsent)
Says text (Some PeerEnd.Memory) unsent new = (length text ≤ 96 → unsent ≢ []) × (new ≡ unsent)
Says text (Some _) unsent new = ⊥

-- What came of a command: it was carried out on the store, and its answer stands after those that are unsent; or the
-- session ends. For want of memory it does only at `SHOW`, or while answers are unsent. For want of steps it does only
-- at a source of which an assembly may spend those that it has.
abbrev pub AnswersPeer : {D : Type 0} → DeviceFacts D → Option ℕ → Command → Option PeerEnd → List ℕ
    → Seen D → List ℕ → Seen D → Type 0
AnswersPeer facts steps command None unsent old unsent_new new =
    (e : Exchange) × (command ≡ command_in e) × AreServed facts old new (e ∷ [])
    × (unsent_new ≡ unsent ++ answer old.hill e)
AnswersPeer facts steps command (Some PeerEnd.Quit) unsent old unsent_new new =
    (command ≡ Command.Quit) × (new ≡ old) × (unsent_new ≡ unsent)
AnswersPeer facts steps command (Some PeerEnd.Unread) unsent old unsent_new new =
    IsFull old.hill command unsent × (new ≡ old) × (unsent_new ≡ unsent)
AnswersPeer facts steps command (Some PeerEnd.StepsSpent) unsent old unsent_new new =
    (source : List ℕ) × (command ≡ Command.Submit source) × MayBeSpent steps source × (new ≡ old)
    × (unsent_new ≡ unsent)
AnswersPeer facts steps command (Some PeerEnd.StoreFailed) unsent old unsent_new new =
    (source : List ℕ) × (command ≡ Command.Submit source) × IsLeftOff facts old new source
    × (unsent_new ≡ unsent)
AnswersPeer facts steps command (Some PeerEnd.Memory) unsent old unsent_new new =
    ((command ≡ Command.Show) ⊎ (unsent ≢ [])) × (new ≡ old) × (unsent_new ≡ unsent)
AnswersPeer facts steps command (Some _) unsent old unsent_new new = ⊥

-- for want of a place for the line of a reply, which takes 96 bytes at most, the session ends so
abbrev pub LacksPlace : PeerEnd → List ℕ → Type 0
LacksPlace PeerEnd.Unread unsent = 1048576 < length unsent + 96
LacksPlace PeerEnd.Memory unsent = unsent ≢ []
LacksPlace _ unsent = ⊥

-- The line of a reply was put after the answers that are unsent, or the session ends, since the device failed.
abbrev pub SaysReply : Reply → Option PeerEnd → List ℕ → List ℕ → Type 0
SaysReply reply None unsent new = (has_failed reply ≡ false) × (new ≡ unsent ++ reply_line reply)
SaysReply reply (Some end) unsent new = (end ≡ PeerEnd.StoreFailed) × (has_failed reply ≡ true) × (new ≡ unsent)

-- If the command was a submission that was answered, this is its reply, and the reply's line is the answer.
abbrev pub IsReplied : Option PeerEnd → List ℕ → List ℕ → Option Reply → Type 0
IsReplied outcome unsent new None = ⊤
IsReplied outcome unsent new (Some reply) = (outcome ≡ None) × (new ≡ unsent ++ reply_line reply)

-- the commands that were carried out, with this one
abbrev pub done_after : Option PeerEnd → List Command → Command → List Command
done_after None done command = done ++ command ∷ []
done_after (Some end) done command = done

abbrev pub end_after : Option PeerEnd → Option PeerEnd → Option PeerEnd
end_after None otherwise = otherwise
end_after (Some end) otherwise = Some end

abbrev pub command_of : {A : Type 0} → Peer A → Command
command_of peer = command_due peer.inbox.due (kept_source peer.inbox.script.source)

-- Of private contracts alone: after the answer the command that was due is passed, or the session ends.
pub record Settles {A : Type 0} (outcome : Option PeerEnd) (old new : Peer A) : Type 0 where
  pub unsent : new.outbox.unsent ≡ old.outbox.unsent
  pub reply : new.reply ≡ old.reply
  pub closed : new.closed ≡ old.closed
  pub waits : new.waits ≡ false
  pub end : new.end ≡ end_after outcome (settled_now None new)
  pub reads : outcome ≡ None → (reader : Reader) (came : List ℕ) (done : List Command) (command : Command)
      → IsReadTo reader old.inbox came done → IsNext reader old.inbox.due old.inbox.script.source command
      → IsReadTo reader new.inbox came (done ++ command ∷ [])
  pub fewer : outcome ≡ None → is_met new.inbox.due ≡ true → length new.inbox.waiting < length old.inbox.waiting

-- the command that was due was carried out, a source within these steps if there are any, or it ended the session
pub record Serves {D A : Type 0} (facts : DeviceFacts D) (steps : Option ℕ) (outcome : Option PeerEnd)
    (old_peer : Peer A) (old : Seen D) (new_peer : Peer A) (new : Seen D) : Type 0 where
  pub answers : AnswersPeer facts steps (command_of old_peer) outcome old_peer.outbox.unsent old
      new_peer.outbox.unsent new
  pub reads : (reader : Reader) (came : List ℕ) (done : List Command) → IsTaken reader old_peer.inbox.due
      → IsPeer reader old_peer came done
      → IsPeer reader new_peer came (done_after outcome done (command_of old_peer))
  pub closed : new_peer.closed ≡ old_peer.closed
  pub waits : new_peer.waits ≡ false
  pub end : new_peer.end ≡ end_after outcome (settled_now None new_peer)
  pub fewer : is_due_now new_peer ≡ true → length new_peer.inbox.waiting < length old_peer.inbox.waiting

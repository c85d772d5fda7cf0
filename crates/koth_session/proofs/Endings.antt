-- How a session over two streams ends by a command, and what was answered before it.
use Rattle.std.proofs.{Common.{◌≡◌, inl, inr, ℕ, arith, List, [], ◌∷◌, ◌++◌, length, take, Option, None, Some, refl, sym, ap, subst, append-nil}, KnownBytes.{Appends-nil, Appends-trans, Consumes-trans, Keeps-refl}}
use Rattle.{std.specs.Io.KnownBytes.{Appends, Consumes}, koth_hill.specs.Kept.Kept, sector_disk.specs.{Facts.DeviceFacts, Served.IsKept}, sector_disk.proofs.Kept.{kept_on, kept_same}}
use Rattle.{hill_store.specs.Seen.{MayBeSpent, Seen}, koth_protocol.specs.Commands.Command, koth_session.specs.{Peer.{AnswersPeer, IsFull}, Within.{EndsFirst, EndsSoWithin}}}
use Rattle.koth_session.specs.Sessions.{AnswersCommand, AnswersFirst, AreServed, EndsSo, IsAnsweredTo, Scene, scene}
use Rattle.koth_session.specs.{Streams.end_of, Transcript.{Exchange, answer, transcript}, declared.end.PeerEnd.PeerEnd, declared.sessions.SessionEnd.SessionEnd}
use Rattle.koth_session.proofs.Exchanges.{served_none, served_on, transcript_append}

-- a read gave no byte
pub end_taken : (a b c : Option (List ℕ)) (bytes chunk : List ℕ) (n : ℕ) → n ≡ 0 → Consumes a b bytes → Consumes b c (take n chunk) → Consumes a c bytes
end_taken a b c bytes chunk n is p q =
    subst (Consumes a c) (append-nil bytes) (Consumes-trans a b c bytes [] p (subst (λ m. Consumes b c (take m chunk)) is q))

-- only a table may have no room where nothing is unsent
full_shows : (command : Command) (hill : Kept) (unsent : List ℕ) → unsent ≡ [] → IsFull hill command unsent → command ≡ Command.Show
full_shows (Command.Submit source) hill unsent none full = let size = ap length none in absurd (omega (arith, full, size))
full_shows Command.Show hill unsent none full = refl
full_shows Command.Quit hill unsent none full = absurd full
full_shows Command.Bad hill unsent none full = let size = ap length none in absurd (omega (arith, full, size))

-- a command that ended its peer's session ended this one so; without an end it is a source that may spend the steps, and changed nothing
abbrev pub AnswersEnd : {D : Type 0} → DeviceFacts D → Option ℕ → Command → Option SessionEnd → Scene D → Scene D → Type 0
AnswersEnd facts steps command (Some end) old new = AnswersCommand facts command (Some end) old new
AnswersEnd facts steps command None old new = (source : List ℕ) × (command ≡ Command.Submit source) × MayBeSpent steps source × (new ≡ old)

module _ {D : Type 0} (facts : DeviceFacts D) where
  pub answered_none : (s : Scene D) → IsAnsweredTo facts s s []
  answered_none s = record { served = served_none facts s.store; written = Appends-nil s.output }

  pub answered_on : (a b c : Scene D) (es : List Exchange) (e : Exchange) → IsAnsweredTo facts a b es → AreServed facts b.store c.store (e ∷ [])
      → Appends b.output c.output (answer b.store.hill e) → IsAnsweredTo facts a c (es ++ e ∷ [])
  answered_on a b c es e p served written = record {
    served = served_on facts a.store b.store c.store es (e ∷ []) p.served served;
    written =
        let last = subst (Appends b.output c.output) (sym (append-nil (answer b.store.hill e))) written in
        let second = subst (λ h. Appends b.output c.output (transcript h (e ∷ []))) p.served.hill last in
        subst (Appends a.output c.output) (sym (transcript_append a.store.hill es (e ∷ [])))
        (Appends-trans a.output b.output c.output _ _ p.written second);
  }

  -- a command that ended its peer's session
  pub ended_so : (steps : Option ℕ) (end : PeerEnd) (command : Command) (old new : Seen D) (unsent unsent_new : List ℕ) (output : Option (List ℕ)) → unsent ≡ []
      → AnswersPeer facts steps command (Some end) unsent old unsent_new new
      → AnswersEnd facts steps command (end_of end) (scene output old) (scene output new)
  ended_so steps PeerEnd.Quit command old new unsent unsent_new output none is = (is.0, is.1, Keeps-refl output)
  ended_so steps PeerEnd.EndOfInput command old new unsent unsent_new output none is = absurd is
  ended_so steps PeerEnd.Limit command old new unsent unsent_new output none is = absurd is
  ended_so steps PeerEnd.Unread command old new unsent unsent_new output none is =
      (full_shows command old.hill unsent none is.0, is.1, Keeps-refl output)
  ended_so steps PeerEnd.StepsSpent command old new unsent unsent_new output none is = (is.0, is.1, is.2, ap (λ (s : Seen D). scene output s) is.3)
  ended_so steps PeerEnd.StoreFailed command old new unsent unsent_new output none is = (is.0, is.1, is.2, Keeps-refl output)
  ended_so steps PeerEnd.Memory command old new unsent unsent_new output none is =
      (elim is.0 [ inl shows ↦ shows | inr some ↦ absurd (some none) ], is.1, Keeps-refl output)

  -- the device is handed on
  kept_by : (end : SessionEnd) (command : Command) (a c : Scene D) → AnswersCommand facts command (Some end) a c → IsKept facts a.store.device c.store.device
  kept_by SessionEnd.Quit command a c is = subst (λ (s : Seen D). IsKept facts a.store.device s.device) (sym is.1) (kept_same facts a.store.device)
  kept_by SessionEnd.Memory command a c is = subst (λ (s : Seen D). IsKept facts a.store.device s.device) (sym is.1) (kept_same facts a.store.device)
  kept_by SessionEnd.WriteFault command a c is = is.2.kept
  kept_by SessionEnd.StoreFailed command a c is = is.2.kept
  kept_by SessionEnd.EndOfInput command a c is = absurd is
  kept_by SessionEnd.ReadFault command a c is = absurd is
  kept_by SessionEnd.Limit command a c is = absurd is

  pub kept_first : (taken : List ℕ) (end : SessionEnd) (a c : Scene D) → AnswersFirst facts taken end a c → IsKept facts a.store.device c.store.device
  kept_first taken end a c is =
      kept_on facts a.store.device is.last.store.device c.store.device is.answered.served.kept (kept_by end is.command is.last c is.ended)

  pub ends_by : (end : SessionEnd) (taken : List ℕ) (left : Option (List ℕ)) (a c : Scene D) → AnswersFirst facts taken end a c → EndsSo facts end taken left a c
  ends_by SessionEnd.Quit taken left a c is = is
  ends_by SessionEnd.EndOfInput taken left a c is = absurd is.ended
  ends_by SessionEnd.ReadFault taken left a c is = absurd is.ended
  ends_by SessionEnd.WriteFault taken left a c is = is
  ends_by SessionEnd.Limit taken left a c is = absurd is.ended
  ends_by SessionEnd.StoreFailed taken left a c is = is
  ends_by SessionEnd.Memory taken left a c is = inr is

  -- the same within steps

  pub kept_within : (steps : Option ℕ) (taken : List ℕ) (end : Option SessionEnd) (a c : Scene D) → EndsFirst facts steps taken end a c → IsKept facts a.store.device c.store.device
  kept_within steps taken (Some end) a c is = kept_first taken end a c is
  kept_within steps taken None a c is = is.answered.served.kept

  pub ends_within : (steps : Option ℕ) (end : Option SessionEnd) (taken : List ℕ) (left : Option (List ℕ)) (a c : Scene D) → EndsFirst facts steps taken end a c
      → EndsSoWithin facts steps end taken left a c
  ends_within steps (Some end) taken left a c is = ends_by end taken left a c is
  ends_within steps None taken left a c is = is

  pub never_read : (steps : Option ℕ) (taken : List ℕ) (end : Option SessionEnd) (a c : Scene D) → EndsFirst facts steps taken end a c → end ≡ Some SessionEnd.ReadFault → ⊥
  never_read steps taken (Some end) a c is same = subst (λ e. AnswersCommand facts is.command e is.last c) same is.ended
  never_read steps taken None a c is same = absurd (cc)

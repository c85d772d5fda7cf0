-- How a session stands after a call of `Peer`.
use Rattle.std.proofs.Common.{◌≡◌, ℕ, ◌+◌, ◌<◌, ◌≤◌, arith, nat_le, Bool, true, false, true≢false, if◌then◌else◌, List, [], ◌∷◌, ◌++◌, length, Option, None, Some, is_some, refl, sym, ap, ap₂, subst}
use Rattle.{std.proofs.{Common.{◌∙◌, append-nil}, lemmas.Bool.{leb-false, leb-true}}, sector_disk.specs.Facts.DeviceFacts, hill_store.specs.Seen.Seen}
use Rattle.koth_protocol.specs.{Commands.{Command, Reader, commands_read, kept_source, read_from}, Lines.lines_from, Reading.commands_met, declared.script.Met.Met}
use Rattle.koth_session.specs.Transcript.{Exchange, command_in}
use Rattle.koth_session.specs.{Inbox.{IsNext, IsReadTo, IsTaken, is_met}, Peer.{AnswersPeer, Closes, HasRead, IsPeer, IsStillDue, Serves, Settles, Takes, command_due, command_of, is_due, is_due_now, settled, settled_now}}
use Rattle.{koth_session.specs.{declared.end.PeerEnd.PeerEnd, declared.inbox.Inbox.Inbox, declared.peer.Peer.Peer}, koth_session.proofs.Readings.unmet}
use Rattle.koth_protocol.specs.declared.script.Met.TheVariants as met

pub none_of : (end : Option PeerEnd) → is_some end ≡ false → end ≡ None
none_of None is = refl
none_of (Some end) is = absurd (true≢false is)

pub goes_on_still : (end : Option PeerEnd) (met : Bool) → is_due end met ≡ true → end ≡ None
goes_on_still None met is = refl
goes_on_still (Some end) met is = absurd (true≢false (sym is))

pub is_met_then : (end : Option PeerEnd) (met : Bool) → is_due end met ≡ true → met ≡ true
is_met_then None met is = is
is_met_then (Some end) met is = absurd (true≢false (sym is))

pub unmet_then : (end : Option PeerEnd) (met : Bool) → end ≡ None → is_due end met ≡ false → met ≡ false
unmet_then None met goes_on is = is
unmet_then (Some end) met goes_on is = absurd (cc)

module _ {A : Type 0} where
  -- how a peer that goes on has read what came
  pub reading : (reader : Reader) (peer : Peer A) (came : List ℕ) (done : List Command) → peer.end ≡ None → IsPeer reader peer came done
      → HasRead reader None peer.inbox peer.closed came done
  reading reader peer came done goes_on is = subst (λ e. HasRead reader e peer.inbox peer.closed came done) goes_on is.has_read

  -- all commands of what came were carried out
  pub all_done : (reader : Reader) (inbox : Inbox A) (came : List ℕ) (done : List Command) → is_met inbox.due ≡ false → IsReadTo reader inbox came done
      → commands_read reader came ≡ done
  all_done reader inbox came done none r =
      let f = r.followed in
      let those : commands_read reader (f.upto ++ []) ≡ done ++ commands_met reader met.Nothing inbox.script.source (read_from reader f.source (lines_from f.line [])) =
      rw (unmet inbox.due none) at (f.commands []) in
      ap (λ l. commands_read reader l) (f.split ∙ ap (λ l. f.upto ++ l) (r.read none)) ∙ those ∙ append-nil done

  -- the commands of what came, if one is due
  pub those_came : (reader : Reader) (inbox : Inbox A) (came : List ℕ) (done : List Command) → IsReadTo reader inbox came done
      → (others : List Command) × (commands_read reader came ≡ done ++ commands_met reader inbox.due inbox.script.source others)
  those_came reader inbox came done r =
      let f = r.followed in
      (read_from reader f.source (lines_from f.line inbox.waiting), ap (λ l. commands_read reader l) f.split ∙ f.commands inbox.waiting)

  -- a session that goes on, or is at its end
  pub settles : (reader : Reader) (inbox : Inbox A) (closed : Bool) (came : List ℕ) (done : List Command) → IsReadTo reader inbox came done
      → HasRead reader (settled None (is_met inbox.due) inbox.taken closed) inbox closed came done
  settles reader inbox closed came done r = at (is_met inbox.due) refl
    where
      counts : inbox.taken ≡ length came
      counts = r.followed.taken

      few : length came ≤ 16777216
      few = r.followed.few

      open_or_not : (c : Bool) → closed ≡ c → is_met inbox.due ≡ false → length came < 16777216 → HasRead reader (if c then Some PeerEnd.EndOfInput else None) inbox closed came done
      open_or_not true is none below = (all_done reader inbox came done none r, is)
      open_or_not false is none below = (r, λ again. (is, below))

      limit : (l : Bool) → nat_le 16777216 inbox.taken ≡ l → is_met inbox.due ≡ false
          → HasRead reader (if l then Some PeerEnd.Limit else (if closed then Some PeerEnd.EndOfInput else None)) inbox closed came done
      limit true is none = (all_done reader inbox came done none r, omega (arith, leb-true 16777216 inbox.taken is, counts, few))
      limit false is none = open_or_not closed refl none (omega (arith, leb-false 16777216 inbox.taken is, counts))

      at : (m : Bool) → is_met inbox.due ≡ m → HasRead reader (settled None m inbox.taken closed) inbox closed came done
      at true is = (r, λ none. absurd (true≢false (sym is ∙ none)))
      at false is = limit (nat_le 16777216 inbox.taken) refl is

  -- ---- the command that was due is due

  pub still_due : (old new : Peer A) → is_met new.inbox.due ≡ true → new.end ≡ settled_now None new → new.inbox.due ≡ old.inbox.due
      → new.inbox.script.source ≡ old.inbox.script.source → IsStillDue old new
  still_due old new met stands same_due same_source = record {
    due = ap₂ is_due (stands ∙ ap (λ m. settled None m new.inbox.taken new.closed) met) met;
    met_is = same_due;
    source = same_source;
  }

  -- ---- bytes come

  pub took : (old new : Peer A) (bytes : List ℕ) → old.end ≡ None → new.end ≡ settled_now None new → new.closed ≡ old.closed
      → new.outbox.unsent ≡ old.outbox.unsent → new.waits ≡ old.waits
      → ((reader : Reader) (came : List ℕ) (done : List Command) → IsReadTo reader old.inbox came done → IsReadTo reader new.inbox (came ++ bytes) done)
      → (is_met old.inbox.due ≡ false → is_met new.inbox.due ≡ true → length new.inbox.waiting < length old.inbox.waiting + length bytes)
      → (is_met old.inbox.due ≡ true → new.inbox.due ≡ old.inbox.due) → (is_met old.inbox.due ≡ true → new.inbox.script.source ≡ old.inbox.script.source)
      → Takes old bytes new
  took old new bytes none stands same_closed same_unsent same_waits reads fewer same_due same_source = record {
    reads = λ reader came done is.
        let was = reading reader old came done none is in
        let r = reads reader came done was.0 in
        record {
          has_read = subst (λ e. HasRead reader e new.inbox new.closed (came ++ bytes) done) (sym stands) (settles reader new.inbox new.closed (came ++ bytes) done r);
          few = r.followed.few;
        };
    unsent = same_unsent;
    closed = same_closed;
    end = stands ∙ ap (λ e. settled_now e new) (sym none);
    fewer = λ waits due. fewer (unmet_then old.end (is_met old.inbox.due) none waits) (is_met_then new.end (is_met new.inbox.due) due);
    waits = same_waits;
    still = λ due.
        let met = is_met_then old.end (is_met old.inbox.due) due in
        still_due old new (ap is_met (same_due met) ∙ met) stands (same_due met) (same_source met);
  }

  -- ---- no more come

  pub closed_now : (old new : Peer A) → old.end ≡ None → new.end ≡ settled_now None new → new.closed ≡ true → new.inbox ≡ old.inbox
      → new.outbox.unsent ≡ old.outbox.unsent → new.waits ≡ old.waits → Closes old new
  closed_now old new none stands now_closed same_inbox same_unsent same_waits = record {
    reads = λ reader came done is.
        let was = reading reader old came done none is in
        let r : IsReadTo reader new.inbox came done = subst (λ (i : Inbox A). IsReadTo reader i came done) (sym same_inbox) was.0 in
        record {
          has_read = subst (λ e. HasRead reader e new.inbox new.closed came done) (sym stands) (settles reader new.inbox new.closed came done r);
          few = is.few;
        };
    unsent = same_unsent;
    closed = now_closed;
    end = stands ∙ ap (λ e. settled_now e new) (sym none);
    inbox = same_inbox;
    waits = same_waits;
  }

-- ---- a command is carried out

next_is : (reader : Reader) (m : Met) (bytes : List ℕ) (e : Exchange) → is_met m ≡ true → IsTaken reader m → command_due m (kept_source bytes) ≡ command_in e
    → IsNext reader m bytes (command_due m (kept_source bytes))
next_is reader met.Nothing bytes e is taken same = absurd (true≢false (sym is))
next_is reader met.Submit bytes e is taken same = λ others. refl
next_is reader met.Show bytes e is taken same = λ others. refl
next_is reader met.Bad bytes e is taken same = λ others. refl
next_is Reader.Session met.Request bytes e is taken same = λ others. refl
next_is Reader.Service met.Request bytes e is taken same = absurd (true≢false taken)
next_is reader met.Quit bytes (Exchange.Submission source mark) is taken same = absurd (cc)
next_is reader met.Quit bytes Exchange.Table is taken same = absurd (cc)
next_is reader met.Quit bytes Exchange.BadLine is taken same = absurd (cc)

-- what comes after the command that was met
pub behind_met : (reader : Reader) (m : Met) (bytes : List ℕ) (others : List Command) → is_met m ≡ true → IsTaken reader m
    → (behind : List Command) × (commands_met reader m bytes others ≡ command_due m (kept_source bytes) ∷ behind)
behind_met reader met.Nothing bytes others is taken = absurd (true≢false (sym is))
behind_met reader met.Submit bytes others is taken = (others, refl)
behind_met reader met.Show bytes others is taken = (others, refl)
behind_met reader met.Quit bytes others is taken = ([], refl)
behind_met Reader.Session met.Request bytes others is taken = (others, refl)
behind_met Reader.Service met.Request bytes others is taken = absurd (true≢false taken)
behind_met reader met.Bad bytes others is taken = (others, refl)

quits : (reader : Reader) (m : Met) (bytes : List ℕ) (others : List Command) → is_met m ≡ true → command_due m (kept_source bytes) ≡ Command.Quit
    → commands_met reader m bytes others ≡ Command.Quit ∷ []
quits reader met.Nothing bytes others is same = absurd (true≢false (sym is))
quits reader met.Submit bytes others is same = absurd (cc)
quits reader met.Show bytes others is same = absurd (cc)
quits reader met.Quit bytes others is same = refl
quits reader met.Request bytes others is same = absurd (cc)
quits reader met.Bad bytes others is same = absurd (cc)

module _ {D A : Type 0} (facts : DeviceFacts D) (steps : Option ℕ) where
  pub answered_now : (old new : Peer A) (store now : Seen D) → is_due_now old ≡ true → new.closed ≡ old.closed → new.waits ≡ false → new.end ≡ settled_now None new
      → ((reader : Reader) (came : List ℕ) (done : List Command) (command : Command) → IsReadTo reader old.inbox came done → IsNext reader old.inbox.due old.inbox.script.source command
      → IsReadTo reader new.inbox came (done ++ command ∷ []))
      → (is_met new.inbox.due ≡ true → length new.inbox.waiting < length old.inbox.waiting)
      → AnswersPeer facts steps (command_of old) None old.outbox.unsent store new.outbox.unsent now → Serves facts steps None old store new now
  answered_now old new store now due same_closed none_waits stands passes fewer answers = record {
    answers = answers;
    reads = λ reader came done taken is.
        let none = goes_on_still old.end _ due in
        let was = reading reader old came done none is in
        let r = passes reader came done (command_of old) was.0 (next_is reader old.inbox.due old.inbox.script.source answers.0 (is_met_then old.end _ due) taken answers.1) in
        record {
          has_read = subst (λ e. HasRead reader e new.inbox new.closed came (done ++ command_of old ∷ [])) (sym stands) (settles reader new.inbox new.closed came (done ++ command_of old ∷ []) r);
          few = is.few;
        };
    closed = same_closed;
    waits = none_waits;
    end = stands;
    fewer = λ more. fewer (is_met_then new.end (is_met new.inbox.due) more);
  }

  left_by : (reader : Reader) (end : PeerEnd) (old new : Peer A) (store now : Seen D) (came : List ℕ) (done : List Command) → is_met old.inbox.due ≡ true
      → IsTaken reader old.inbox.due → IsReadTo reader old.inbox came done
      → AnswersPeer facts steps (command_of old) (Some end) old.outbox.unsent store new.outbox.unsent now → HasRead reader (Some end) new.inbox new.closed came done
  left_by reader PeerEnd.Quit old new store now came done is taken r answers =
      let those = those_came reader old.inbox came done r in
      those.1 ∙ ap (λ l. done ++ l) (quits reader old.inbox.due old.inbox.script.source those.0 is answers.0)
  left_by reader PeerEnd.EndOfInput old new store now came done is taken r answers = absurd answers
  left_by reader PeerEnd.Limit old new store now came done is taken r answers = absurd answers
  left_by reader PeerEnd.Unread old new store now came done is taken r answers =
      let those = those_came reader old.inbox came done r in
      let b = behind_met reader old.inbox.due old.inbox.script.source those.0 is taken in (command_of old, b.0, those.1 ∙ ap (λ l. done ++ l) b.1)
  left_by reader PeerEnd.StepsSpent old new store now came done is taken r answers =
      let those = those_came reader old.inbox came done r in
      let b = behind_met reader old.inbox.due old.inbox.script.source those.0 is taken in
      (answers.0, b.0, those.1 ∙ ap (λ l. done ++ l) b.1 ∙ ap (λ (k : Command). done ++ k ∷ b.0) answers.1)
  left_by reader PeerEnd.StoreFailed old new store now came done is taken r answers =
      let those = those_came reader old.inbox came done r in
      let b = behind_met reader old.inbox.due old.inbox.script.source those.0 is taken in
      (answers.0, b.0, those.1 ∙ ap (λ l. done ++ l) b.1 ∙ ap (λ (k : Command). done ++ k ∷ b.0) answers.1)
  left_by reader PeerEnd.Memory old new store now came done is taken r answers =
      let those = those_came reader old.inbox came done r in
      let b = behind_met reader old.inbox.due old.inbox.script.source those.0 is taken in (command_of old, b.0, those.1 ∙ ap (λ l. done ++ l) b.1)

  pub ended_now : (end : PeerEnd) (old new : Peer A) (store now : Seen D) → is_due_now old ≡ true → new.closed ≡ old.closed → new.waits ≡ false → new.end ≡ Some end
      → AnswersPeer facts steps (command_of old) (Some end) old.outbox.unsent store new.outbox.unsent now → Serves facts steps (Some end) old store new now
  ended_now end old new store now due same_closed none_waits ended answers = record {
    answers = answers;
    reads = λ reader came done taken is.
        let none = goes_on_still old.end _ due in
        let was = reading reader old came done none is in
        record {
          has_read = subst (λ e. HasRead reader e new.inbox new.closed came done) (sym ended) (left_by reader end old new store now came done (is_met_then old.end _ due) taken was.0 answers);
          few = is.few;
        };
    closed = same_closed;
    waits = none_waits;
    end = ended;
    fewer = λ more. absurd (true≢false (sym more ∙ ap (λ (e : Option PeerEnd). is_due e (is_met new.inbox.due)) ended));
  }

  -- what an answer made of a peer, and what its session goes on or ends by
  pub settled_so : (outcome : Option PeerEnd) (old mid new : Peer A) (store now : Seen D) → is_due_now old ≡ true → mid.inbox ≡ old.inbox → mid.closed ≡ old.closed
      → Settles outcome mid new → AnswersPeer facts steps (command_of old) outcome old.outbox.unsent store mid.outbox.unsent now → Serves facts steps outcome old store new now
  settled_so None old mid new store now due same_inbox same_closed s answers =
      answered_now old new store now due (s.closed ∙ same_closed) s.waits s.end
      (subst (λ (i : Inbox A). (reader : Reader) (came : List ℕ) (done : List Command) (command : Command) → IsReadTo reader i came done → IsNext reader i.due i.script.source command
      → IsReadTo reader new.inbox came (done ++ command ∷ [])) same_inbox (s.reads refl))
      (λ more. subst (λ (i : Inbox A). length new.inbox.waiting < length i.waiting) same_inbox (s.fewer refl more))
      (subst (λ l. AnswersPeer facts steps (command_of old) None old.outbox.unsent store l now) (sym s.unsent) answers)
  settled_so (Some end) old mid new store now due same_inbox same_closed s answers =
      ended_now end old new store now due (s.closed ∙ same_closed) s.waits s.end
      (subst (λ l. AnswersPeer facts steps (command_of old) (Some end) old.outbox.unsent store l now) (sym s.unsent) answers)

-- What a turn makes of a session, and of what no stop loses.
use Rattle.std.proofs.Common.{◌≡◌, ℕ, true, false, [], ◌∷◌, ◌++◌, Option, None, Some, refl, sym, ap, subst, ◌∙◌, append_assoc}
use Rattle.sector_disk.specs.Facts.{DeviceFacts}
use Rattle.hill_store.specs.Seen.{Seen}
use Rattle.koth_protocol.specs.Commands.{Command}
use Rattle.koth_session.{specs.{Sessions.AreServed, Transcript.{Exchange, answer, command_in}, Inbox.is_met, Judge.Judged}, proofs.{Exchanges.served_on, Holding.keeps_list}}
use Rattle.koth_session.{specs.{Peer.{IsPeer, Serves, command_of}, Peers.{IsPutOff, IsStepped, asks_in, is_due_in}, declared.{end.PeerEnd.PeerEnd, peer.Peer.Peer}}, proofs.Steps.same_unsent}
use Rattle.koth_seats.specs.{Seats.seat_served, declared.seats.Seat.Seat}
use Rattle.koth_service.specs.{Session.{Session, session_answered, session_over, session_put_off}, Moment.{Moment, answered}, History.IsSafe, Standing.{StandsAt, over_by}}
use Rattle.koth_service.proofs.{Moments.{over_settled, same_peer}, Due.not_over, Turns.taken_by}

-- ---- what a command makes of a moment

module _ {D : Type 0} (facts : DeviceFacts D) where
  -- no stop loses it
  pub safe_answered : (n : ℕ) (e : Exchange) (new : Seen D) (m : Moment D) → AreServed facts m.now new (e ∷ []) → IsSafe facts m → IsSafe facts (answered n e new m)
  safe_answered n e new m served safe = record {
    served = served_on facts m.first m.now new m.since (e ∷ []) safe.served served;
    open_now = served.still ∙ safe.open_now;
    holds = keeps_list facts m.first new (m.since ++ e ∷ []) (served_on facts m.first m.now new m.since (e ∷ []) safe.served served);
  }

module _ {D A : Type 0} (facts : DeviceFacts D) where
  -- a session that ended by its command
  pub ended_at : (steps : Option ℕ) (end : PeerEnd) (s : Session) (time : ℕ) (peer new : Peer A) (seat : Seat) (store now : Seen D) → over_by (Some end) ≡ Some end → Serves facts steps (Some end) peer store new now
      → asks_in (Some peer) ≡ false → StandsAt s (Some peer) (Some seat) → StandsAt (session_over end time s) (Some new) (Some (seat_served time seat))
  ended_at steps end s time peer new seat store now same serves other stands =
      let was = stands.0 in
      let of = stands.1 in (
        record {
          reads = λ reader. serves.reads reader s.came s.done (taken_by reader peer.inbox.due other) (was.reads reader);
          owed = ap (λ l. s.went ++ l) (same_unsent facts steps end (command_of peer) peer.outbox.unsent new.outbox.unsent store now serves.answers) ∙ was.owed;
          there = was.there;
          over = sym same ∙ ap over_by (sym serves.end);
          waits = sym serves.waits;
          at_end = was.at_end ∙ sym serves.closed;
        },
        record { active = refl; useful = refl; spoken = of.spoken; shut = of.shut },
      )

  -- a command that was answered
  pub answered_at : (steps : Option ℕ) (s : Session) (time : ℕ) (peer new : Peer A) (seat : Seat) (before store now : Seen D) → before ≡ store → (serves : Serves facts steps None peer store new now)
      → is_due_in (Some peer) ≡ true → asks_in (Some peer) ≡ false → StandsAt s (Some peer) (Some seat)
      → StandsAt (session_answered (command_in serves.answers.0) (answer before.hill serves.answers.0) time s) (Some new) (Some (seat_served time seat))
  answered_at steps s time peer new seat before store now is serves due other stands =
      let was = stands.0 in
      let of = stands.1 in
      let e = serves.answers.0 in
      let done : s.done ++ command_of peer ∷ [] ≡ s.done ++ command_in e ∷ [] = ap (λ (k : Command). s.done ++ k ∷ []) serves.answers.1 in
      let more = answer store.hill e in
      let all : s.went ++ new.outbox.unsent ≡ s.owed ++ answer before.hill e =
      ap (λ l. s.went ++ l) serves.answers.3 ∙ sym (append_assoc s.went peer.outbox.unsent more) ∙ ap (λ l. l ++ more) was.owed
      ∙ ap (λ (k : Seen D). s.owed ++ answer k.hill e) (sym is) in (
        record {
          reads = λ reader. subst (λ l. IsPeer reader new s.came l) done (serves.reads reader s.came s.done (taken_by reader peer.inbox.due other) (was.reads reader));
          owed = all;
          there = was.there;
          over = not_over s peer was due ∙ sym (over_settled None (is_met new.inbox.due) new.inbox.taken new.closed) ∙ ap over_by (sym serves.end);
          waits = sym serves.waits;
          at_end = was.at_end ∙ sym serves.closed;
        },
        record { active = refl; useful = refl; spoken = of.spoken; shut = of.shut },
      )

-- ---- a submission was begun or fought on, or a source was put off

module _ {D A : Type 0} where
  pub stepped_at : (turns n : ℕ) (s : Session) (peer next : Peer A) (seat : Seat) (judge now : Judged D) → IsStepped turns n peer judge next now → StandsAt s (Some peer) (Some seat) → StandsAt s (Some next) (Some seat)
  stepped_at turns n s peer next seat judge now is stands =
      let was = stands.0 in (
        record {
          reads = λ reader. same_peer peer next 0 s.came s.done is.stays reader (was.reads reader);
          owed = ap (λ l. s.went ++ l) is.stays.unsent ∙ was.owed;
          there = was.there;
          over = was.over ∙ ap over_by (sym is.stays.end);
          waits = was.waits ∙ sym is.stays.waits;
          at_end = was.at_end ∙ sym is.stays.closed;
        },
        stands.1,
      )

  -- or a source was put off
  pub put_off_at : (n : ℕ) (s : Session) (peer next : Peer A) (seat : Seat) (judge now : Judged D) → IsPutOff n peer judge next now → StandsAt s (Some peer) (Some seat)
      → StandsAt (session_put_off s) (Some next) (Some seat)
  put_off_at n s peer next seat judge now is stands =
      let was = stands.0 in
      let of = stands.1 in
      let puts = is.puts_off in (
        record {
          reads = λ reader. let read = was.reads reader in record { has_read = rw (puts.end, puts.inbox, puts.closed) read.has_read; few = read.few };
          owed = ap (λ l. s.went ++ l) puts.unsent ∙ was.owed;
          there = was.there;
          over = was.over ∙ ap over_by (sym puts.end);
          waits = sym puts.waits;
          at_end = was.at_end ∙ sym puts.closed;
        },
        record { active = of.active; useful = of.useful; spoken = of.spoken; shut = of.shut },
      )

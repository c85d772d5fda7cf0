-- A session over two streams, between its commands: for `session` and what it calls.
use Rattle.std.proofs.Common.{◌≡◌, ℕ, ◌+◌, ◌<◌, ◌≤◌, arith, true, false, true≢false, List, [], ◌∷◌, ◌++◌, length, Option, None, Some}
use Rattle.std.proofs.{Common.{refl, sym, ap, subst, ◌∙◌, append-nil}, lemmas.List.drop_all}
use Rattle.{std.specs.Io.KnownBytes.{Appends, IsAtEnd}, sector_disk.specs.Facts.DeviceFacts, hill_store.specs.Seen.{MayBeSpent, Seen}}
use Rattle.koth_protocol.specs.{Commands.{Command, Reader, commands_of}, Written.WritesPart}
use Rattle.koth_session.specs.{Inbox.is_met, Peer.{Closes, HasRead, IsNew, IsPeer, Sends, Serves, Takes, command_of, is_due_now, settled_now}}
use Rattle.koth_session.specs.{Sessions.{AnswersAll, AnswersCommand, AnswersFirst, Scene, scene}, Streams.{IsOpen, IsServing, end_of}, Within.{EndsFirst, EndsSoWithin, IsSpent}}
use Rattle.koth_session.specs.{Transcript.{Exchange, answer, command_in, commands_in}, declared.end.PeerEnd.PeerEnd, declared.inbox.Inbox.Inbox}
use Rattle.koth_session.specs.{declared.peer.Peer.Peer, declared.sessions.SessionEnd.SessionEnd}
use Rattle.koth_session.proofs.{Endings.{AnswersEnd, answered_none, answered_on, ended_so}, Holding.{holds_at, keeps_list}, PeerReads.{met_alone, none_due, open_now}}
use Rattle.koth_session.proofs.Standing.{all_done, behind_met, goes_on_still, is_met_then, reading, those_came, unmet_then}

commands_append : (es fs : List Exchange) → commands_in (es ++ fs) ≡ commands_in es ++ commands_in fs
commands_append [] fs = refl
commands_append (e ∷ es) fs = ap (λ l. command_in e ∷ l) (commands_append es fs)

module _ {D A : Type 0} (facts : DeviceFacts D) where
  -- ---- at the beginning

  pub begun : (peer : Peer A) (s : Scene D) → IsNew peer → IsServing facts [] peer s s
  begun peer s new = record {
    es = [];
    reads = new.begins Reader.Session;
    answered = answered_none facts s;
    unsent = new.unsent;
    few = λ due. absurd (true≢false (sym due ∙ none_due peer new));
    open_still = subst IsOpen (sym new.goes_on) tt;
  }

  -- ---- a read

  pub took : (came bytes : List ℕ) (old new : Peer A) (a b : Scene D) → old.end ≡ None → is_due_now old ≡ false
      → length bytes ≤ 4096 → Takes old bytes new → IsServing facts came old a b → IsServing facts (came ++ bytes) new a b
  took came bytes old new a b goes_on waits few takes is =
      let r = reading Reader.Session old came (commands_in is.es) goes_on is.reads in
      record {
        es = is.es;
        reads = takes.reads Reader.Session came (commands_in is.es) is.reads;
        answered = is.answered;
        unsent = takes.unsent ∙ is.unsent;
        few = λ due.
            let less : length new.inbox.waiting < length old.inbox.waiting + length bytes = takes.fewer waits due in
            let empty = ap length (r.0.read (unmet_then old.end (is_met old.inbox.due) goes_on waits)) in
            omega (arith, less, empty, few);
        open_still =
            subst IsOpen (sym (takes.end ∙ ap (λ e. settled_now e new) goes_on)) (open_now (is_met new.inbox.due) new.inbox.taken new.closed);
      }

  pub closed_now : (came : List ℕ) (old new : Peer A) (a b : Scene D) → old.end ≡ None → is_due_now old ≡ false
      → Closes old new → IsServing facts came old a b → IsServing facts came new a b
  closed_now came old new a b goes_on waits closes is =
      let unmet = unmet_then old.end (is_met old.inbox.due) goes_on waits in
      let same : is_met new.inbox.due ≡ is_met old.inbox.due = ap (λ (i : Inbox A). is_met i.due) closes.inbox in
      record {
        es = is.es;
        reads = closes.reads Reader.Session came (commands_in is.es) is.reads;
        answered = is.answered;
        unsent = closes.unsent ∙ is.unsent;
        few = λ due. absurd (true≢false (sym (is_met_then new.end (is_met new.inbox.due) due) ∙ same ∙ unmet));
        open_still =
            subst IsOpen (sym (closes.end ∙ ap (λ e. settled_now e new) goes_on)) (open_now (is_met new.inbox.due) new.inbox.taken new.closed);
      }

  -- ---- a command

  -- where the command that is due stands among those that came
  record IsMet (came : List ℕ) (peer : Peer A) (es : List Exchange) : Type 0 where
    behind : List Command
    commands : commands_of came ≡ commands_in es ++ (command_of peer ∷ behind)
    upto : List ℕ
    split : came ≡ upto ++ peer.inbox.waiting
    few : length peer.inbox.waiting < 4096
    last_of_them : commands_of upto ≡ commands_in es ++ (command_of peer ∷ [])

  met_at : (came : List ℕ) (peer : Peer A) (a b : Scene D) → is_due_now peer ≡ true → (is : IsServing facts came peer a b) → IsMet came peer is.es
  met_at came peer a b due is =
      let goes_on = goes_on_still peer.end (is_met peer.inbox.due) due in
      let met_now = is_met_then peer.end (is_met peer.inbox.due) due in
      let r = (reading Reader.Session peer came (commands_in is.es) goes_on is.reads).0 in
      let f = r.followed in
      let those = those_came Reader.Session peer.inbox came (commands_in is.es) r in
      let behind = behind_met Reader.Session peer.inbox.due peer.inbox.script.source those.0 met_now tt in
      record {
        behind = behind.0;
        commands = those.1 ∙ ap (λ l. commands_in is.es ++ l) behind.1;
        upto = f.upto;
        split = f.split;
        few = is.few due;
        last_of_them =
            ap (λ l. commands_of l) (sym (append-nil f.upto)) ∙ f.commands []
            ∙ ap (λ l. commands_in is.es ++ l) (met_alone peer.inbox.due peer.inbox.script.source met_now);
      }

  ends_first : (end : SessionEnd) (came : List ℕ) (peer : Peer A) (a b c : Scene D) → is_due_now peer ≡ true
      → IsServing facts came peer a b → AnswersCommand facts (command_of peer) (Some end) b c → AnswersFirst facts came end a c
  ends_first end came peer a b c due is ended =
      let met = met_at came peer a b due is in
      record {
        es = is.es;
        last = b;
        answered = is.answered;
        command = command_of peer;
        behind = met.behind;
        commands = met.commands;
        upto = met.upto;
        rest = peer.inbox.waiting;
        split = met.split;
        few = met.few;
        last_of_them = met.last_of_them;
        ended = ended;
        holds = holds_at facts end (command_of peer) a b c is.es is.answered ended;
      }

  spends_first : (steps : Option ℕ) (came : List ℕ) (peer : Peer A) (a b : Scene D) (source : List ℕ) → is_due_now peer ≡ true
      → IsServing facts came peer a b → command_of peer ≡ Command.Submit source → MayBeSpent steps source → IsSpent facts steps came a b
  spends_first steps came peer a b source due is submits spends =
      let met = met_at came peer a b due is in
      record {
        es = is.es;
        answered = is.answered;
        source = source;
        spends = spends;
        behind = met.behind;
        commands = met.commands ∙ ap (λ (k : Command). commands_in is.es ++ (k ∷ met.behind)) submits;
        upto = met.upto;
        rest = peer.inbox.waiting;
        split = met.split;
        few = met.few;
        last_of_them = met.last_of_them ∙ ap (λ (k : Command). commands_in is.es ++ (k ∷ [])) submits;
        holds = keeps_list facts a.store b.store is.es is.answered.served;
      }

  first_within : (steps : Option ℕ) (end : Option SessionEnd) (came : List ℕ) (peer : Peer A) (a b c : Scene D) → is_due_now peer ≡ true
      → IsServing facts came peer a b → AnswersEnd facts steps (command_of peer) end b c → EndsFirst facts steps came end a c
  first_within steps (Some end) came peer a b c due is ended = ends_first end came peer a b c due is ended
  first_within steps None came peer a b c due is ended =
      subst (IsSpent facts steps came a) (sym ended.3) (spends_first steps came peer a b ended.0 due is ended.1 ended.2)

  pub ended_by : (steps : Option ℕ) (end : PeerEnd) (came : List ℕ) (peer new : Peer A) (output : Option (List ℕ)) (a : Scene D) (store now : Seen D)
      → is_due_now peer ≡ true → Serves facts steps (Some end) peer store new now → IsServing facts came peer a (scene output store)
      → EndsFirst facts steps came (end_of end) a (scene output now)
  ended_by steps end came peer new output a store now due serves is =
      first_within steps (end_of end) came peer a (scene output store) (scene output now) due is
      (ended_so facts steps end (command_of peer) store now peer.outbox.unsent new.outbox.unsent output is.unsent serves.answers)

  -- what is to be sent of a command that was carried out is its answer
  sent_is : (steps : Option ℕ) (peer new : Peer A) (store now : Seen D) → (serves : Serves facts steps None peer store new now) → peer.outbox.unsent ≡ []
      → new.outbox.unsent ≡ answer store.hill serves.answers.0
  sent_is steps peer new store now serves none = serves.answers.3 ∙ ap (λ l. l ++ answer store.hill serves.answers.0) none

  pub write_failed : (steps : Option ℕ) (came : List ℕ) (peer new : Peer A) (output written : Option (List ℕ)) (a : Scene D) (store now : Seen D)
      → is_due_now peer ≡ true → Serves facts steps None peer store new now → WritesPart output written new.outbox.unsent
      → IsServing facts came peer a (scene output store) → AnswersFirst facts came SessionEnd.WriteFault a (scene written now)
  write_failed steps came peer new output written a store now due serves part is =
      ends_first SessionEnd.WriteFault came peer a (scene output store) (scene written now) due is (
        serves.answers.0,
        serves.answers.1,
        serves.answers.2,
        subst (WritesPart output written) (sent_is steps peer new store now serves is.unsent) part,
      )

  same_due : (served new : Peer A) (count : ℕ) → Sends served count new → is_due_now served ≡ is_due_now new
  same_due served new count sends = rw (sends.end, sends.inbox) refl

  -- fewer bytes wait then
  pub fewer_wait : (steps : Option ℕ) (peer served new : Peer A) (store now : Seen D) (count : ℕ) → Serves facts steps None peer store served now → Sends served count new
      → is_due_now new ≡ true → length new.inbox.waiting < length peer.inbox.waiting
  fewer_wait steps peer served new store now count serves sends due =
      let same = ap (λ (i : Inbox A). length i.waiting) sends.inbox in
      let less : length served.inbox.waiting < length peer.inbox.waiting = serves.fewer (same_due served new count sends ∙ due) in
      omega (arith, same, less)

  pub answered : (steps : Option ℕ) (came : List ℕ) (peer served new : Peer A) (output written : Option (List ℕ)) (a : Scene D) (store now : Seen D)
      (count : ℕ) → Serves facts steps None peer store served now → Sends served count new → count ≡ length served.outbox.unsent → Appends output written served.outbox.unsent
      → IsServing facts came peer a (scene output store) → is_due_now peer ≡ true → IsServing facts came new a (scene written now)
  answered steps came peer served new output written a store now count serves sends all whole is due =
      let e = serves.answers.0 in
      let done = commands_in is.es in
      let more : done ++ command_of peer ∷ [] ≡ commands_in (is.es ++ e ∷ []) =
      ap (λ (k : Command). done ++ k ∷ []) serves.answers.1 ∙ sym (commands_append is.es (e ∷ [])) in
      let reads = subst (IsPeer Reader.Session served came) more (serves.reads Reader.Session came done tt is.reads) in
      record {
        es = is.es ++ e ∷ [];
        reads = record { has_read = rw (sends.end, sends.inbox, sends.closed) reads.has_read; few = reads.few };
        answered =
            answered_on facts a (scene output store) (scene written now) is.es e is.answered serves.answers.2
            (subst (Appends output written) (sent_is steps peer served store now serves is.unsent) whole);
        unsent = sends.unsent ∙ drop_all count served.outbox.unsent (omega (arith, all));
        few = λ again.
            let less = fewer_wait steps peer served new store now count serves sends again in
            let before : length peer.inbox.waiting < 4096 = is.few due in
            omega (arith, less, before);
        open_still =
            subst IsOpen (sym (sends.end ∙ serves.end)) (open_now (is_met served.inbox.due) served.inbox.taken served.closed);
      }

  -- ---- the ends

  pub all_answered : (came : List ℕ) (peer : Peer A) (a b : Scene D) → peer.end ≡ None → is_due_now peer ≡ false
      → IsServing facts came peer a b → AnswersAll facts came a b
  all_answered came peer a b goes_on waits is = record {
    es = is.es;
    commands =
        all_done Reader.Session peer.inbox came (commands_in is.es) (unmet_then peer.end (is_met peer.inbox.due) goes_on waits)
        (reading Reader.Session peer came (commands_in is.es) goes_on is.reads).0;
    answered = is.answered;
    holds = keeps_list facts a.store b.store is.es is.answered.served;
  }

  pub ends_all : (steps : Option ℕ) (end : PeerEnd) (came : List ℕ) (left : Option (List ℕ)) (peer : Peer A) (a b : Scene D) → peer.end ≡ Some end
      → (peer.closed ≡ true → IsAtEnd left) → IsServing facts came peer a b → EndsSoWithin facts steps (end_of end) came left a b
  ends_all steps end came left peer a b is_end at_end is =
      at end (subst IsOpen is_end is.open_still) (subst (λ e. HasRead Reader.Session e peer.inbox peer.closed came (commands_in is.es)) is_end is.reads.has_read)
    where
      all : commands_of came ≡ commands_in is.es → AnswersAll facts came a b
      all commands = record { es = is.es; commands = commands; answered = is.answered; holds = keeps_list facts a.store b.store is.es is.answered.served }

      at : (end : PeerEnd) → IsOpen (Some end) → HasRead Reader.Session (Some end) peer.inbox peer.closed came (commands_in is.es) → EndsSoWithin facts steps (end_of end) came left a b
      at PeerEnd.EndOfInput open_now read = (at_end read.1, all read.0)
      at PeerEnd.Limit open_now read = (read.1, all read.0)
      at PeerEnd.Quit open_now read = absurd open_now
      at PeerEnd.Unread open_now read = absurd open_now
      at PeerEnd.StepsSpent open_now read = absurd open_now
      at PeerEnd.StoreFailed open_now read = absurd open_now
      at PeerEnd.Memory open_now read = absurd open_now

-- How the peer of a session over two streams stands: for `session` and what it calls.
use Rattle.std.proofs.Common.{◌≡◌, ◌≢◌, ℕ, ◌+◌, ◌-◌, ◌*◌, ◌<◌, ◌≤◌, arith, nat_le, Bool, true, false, true≢false, if◌then◌else◌, List, [], ◌∷◌, ◌++◌, length, Option, None, Some}
use Rattle.std.proofs.{Common.{refl, sym, ap, subst, ◌∙◌}, lemmas.List.length-append}
use Rattle.koth_protocol.specs.{Commands.{Command, Reader, commands_of, kept_source}, Reading.commands_met, declared.script.Met.Met}
use Rattle.koth_session.specs.{Inbox.{is_met, room_of}, Peer.{IsNew, IsPeer, command_due, is_due, is_due_now, may_come, may_come_now, settled}}
use Rattle.koth_session.specs.{Streams.IsOpen, declared.end.PeerEnd.PeerEnd, declared.peer.Peer.Peer}
use Rattle.koth_session.proofs.Standing.{goes_on_still, reading, unmet_then}
use Rattle.koth_protocol.specs.declared.script.Met.TheVariants as met

pub open_now : (due : Bool) (taken : ℕ) (closed : Bool) → IsOpen (settled None due taken closed)
open_now true taken closed = tt
open_now false taken closed = at (nat_le 16777216 taken) closed
  where
    at : (l c : Bool) → IsOpen (if l then Some PeerEnd.Limit else (if c then Some PeerEnd.EndOfInput else None))
    at true c = tt
    at false true = tt
    at false false = tt

-- Steps that are left, at most: a read takes some of the bytes that may still come, or is the last one, and leaves 4,096 commands at most; and
-- each command that is carried out takes some of the bytes that wait.
abbrev pub pending : Bool → ℕ → ℕ
pending false waiting = 0
pending true waiting = waiting + 1

abbrev pub left_by : Option PeerEnd → ℕ → ℕ → ℕ
left_by None taken pending = 4098 * (16777217 - taken) + pending
left_by (Some end) taken pending = 0

abbrev pub steps_left : {A : Type 0} → Peer A → ℕ
steps_left peer = left_by peer.end peer.inbox.taken (pending (is_due_now peer) (length peer.inbox.waiting))

-- ---- the command that is due

-- if nothing comes after it
pub met_alone : (m : Met) (bytes : List ℕ) → is_met m ≡ true → commands_met Reader.Session m bytes [] ≡ command_due m (kept_source bytes) ∷ []
met_alone met.Nothing bytes is = absurd (true≢false (sym is))
met_alone met.Submit bytes is = refl
met_alone met.Show bytes is = refl
met_alone met.Quit bytes is = refl
met_alone met.Request bytes is = refl
met_alone met.Bad bytes is = refl

-- none is due where there are no commands
met_none : (m : Met) (bytes : List ℕ) (others : List Command) → [] ≡ commands_met Reader.Session m bytes others → is_met m ≡ false
met_none met.Nothing bytes others is = refl
met_none met.Submit bytes others is = absurd (cc)
met_none met.Show bytes others is = absurd (cc)
met_none met.Quit bytes others is = absurd (cc)
met_none met.Request bytes others is = absurd (cc)
met_none met.Bad bytes others is = absurd (cc)

module _ {A : Type 0} where
  -- nothing waits of a peer of which nothing came
  pub none_due : (peer : Peer A) → IsNew peer → is_due_now peer ≡ false
  none_due peer new =
      let f = (reading Reader.Session peer [] [] new.goes_on (new.begins Reader.Session)).0.followed in
      let nothing : f.upto ≡ [] = nil_front f.upto peer.inbox.waiting f.split in
      let met = met_none peer.inbox.due peer.inbox.script.source _ (ap (λ l. commands_of (l ++ [])) (sym nothing) ∙ f.commands []) in
      subst (λ e. is_due e (is_met peer.inbox.due) ≡ false) (sym new.goes_on) met
    where
      nil_front : (xs ys : List ℕ) → [] ≡ xs ++ ys → xs ≡ []
      nil_front [] ys is = refl
      nil_front (x ∷ xs) ys is = absurd (cc)

  pub open_peer : (peer : Peer A) (came : List ℕ) (done : List Command) → peer.end ≡ None → is_due_now peer ≡ false → IsPeer Reader.Session peer came done
      → peer.closed ≡ false
  open_peer peer came done goes_on waits is =
      ((reading Reader.Session peer came done goes_on is).1 (unmet_then peer.end (is_met peer.inbox.due) goes_on waits)).0

  -- an inbox that has read all that came has room
  pub room_now : (peer : Peer A) (came : List ℕ) (done : List Command) → peer.end ≡ None → is_due_now peer ≡ false → IsPeer Reader.Session peer came done
      → 0 < may_come_now peer
  room_now peer came done goes_on waits is =
      let r = reading Reader.Session peer came done goes_on is in
      let unmet = unmet_then peer.end (is_met peer.inbox.due) goes_on waits in
      let empty = ap length (r.0.read unmet) in
      let counts : peer.inbox.taken ≡ length came = r.0.followed.taken in
      let more = r.1 unmet in
      subst (λ e. 0 < may_come e peer.closed (room_of peer.inbox)) (sym goes_on)
      (subst (λ c. 0 < may_come None c (room_of peer.inbox)) (sym more.0) (omega (arith, empty, counts, more.1)))

  less_left : (old new : Peer A) (came all : List ℕ) (done more : List Command) → old.end ≡ None
      → IsPeer Reader.Session old came done → IsPeer Reader.Session new all more
      → (new.end ≡ None → left_by None (length all) (pending (is_due_now new) (length new.inbox.waiting))
      < left_by None (length came) (pending (is_due_now old) (length old.inbox.waiting)))
      → steps_left new < steps_left old
  less_left old new came all done more goes_on was is less =
      subst (λ n. steps_left new < n) (sym before) (at new.end refl)
    where
      before : steps_left old ≡ left_by None (length came) (pending (is_due_now old) (length old.inbox.waiting))
      before =
          let counts : old.inbox.taken ≡ length came = (reading Reader.Session old came done goes_on was).0.followed.taken in
          rw (goes_on, counts) refl

      at : (end : Option PeerEnd) → new.end ≡ end → left_by end new.inbox.taken (pending (is_due_now new) (length new.inbox.waiting))
          < left_by None (length came) (pending (is_due_now old) (length old.inbox.waiting))
      at None is_end =
          let counts : new.inbox.taken ≡ length all = (reading Reader.Session new all more is_end is).0.followed.taken in
          rw counts (less is_end)
      at (Some end) is_end = let few : length came ≤ 16777216 = was.few in omega (arith, few)

  -- a command was carried out
  pub less_answered : (old new : Peer A) (came : List ℕ) (done more : List Command) → is_due_now old ≡ true
      → IsPeer Reader.Session old came done → IsPeer Reader.Session new came more
      → (is_due_now new ≡ true → length new.inbox.waiting < length old.inbox.waiting) → steps_left new < steps_left old
  less_answered old new came done more due was is fewer =
      less_left old new came came done more (goes_on_still old.end (is_met old.inbox.due) due) was is (λ goes_on.
      subst (λ d. left_by None (length came) (pending (is_due_now new) (length new.inbox.waiting)) < left_by None (length came) (pending d (length old.inbox.waiting)))
      (sym due) (at (is_due_now new) refl))
    where
      at : (d : Bool) → is_due_now new ≡ d → left_by None (length came) (pending d (length new.inbox.waiting)) < left_by None (length came) (length old.inbox.waiting + 1)
      at true again = let less = fewer again in omega (arith, less)
      at false none = omega arith

  -- bytes were read
  pub less_read : (old new : Peer A) (came bytes : List ℕ) (done more : List Command) → old.end ≡ None
      → IsPeer Reader.Session old came done → bytes ≢ [] → IsPeer Reader.Session new (came ++ bytes) more
      → (is_due_now new ≡ true → length new.inbox.waiting < 4096) → steps_left new < steps_left old
  less_read old new came bytes done more goes_on was some is few =
      less_left old new came (came ++ bytes) done more goes_on was is (λ on. at (is_due_now new) refl)
    where
      some_size : (xs : List ℕ) → xs ≢ [] → 0 < length xs
      some_size [] none = absurd (none refl)
      some_size (x ∷ xs) none = omega arith

      at : (d : Bool) → is_due_now new ≡ d → left_by None (length (came ++ bytes)) (pending d (length new.inbox.waiting))
          < left_by None (length came) (pending (is_due_now old) (length old.inbox.waiting))
      at true due =
          let both = length-append came bytes in let all : length (came ++ bytes) ≤ 16777216 = is.few in
          omega (arith, few due, both, all, some_size bytes some)
      at false none =
          let both = length-append came bytes in let all : length (came ++ bytes) ≤ 16777216 = is.few in
          omega (arith, both, all, some_size bytes some)

  -- the peer was closed
  pub less_closed : (old new : Peer A) (came all : List ℕ) (done more : List Command) → old.end ≡ None
      → IsPeer Reader.Session old came done → IsPeer Reader.Session new all more → new.closed ≡ true → is_met new.inbox.due ≡ false
      → steps_left new < steps_left old
  less_closed old new came all done more goes_on was is closed unmet =
      less_left old new came all done more goes_on was is (λ on. absurd (true≢false (sym closed ∙ ((reading Reader.Session new all more on is).1 unmet).0)))

-- What a command that ended a session leaves, for the crates above; and what a step serves, for `serve_next`.
use Rattle.{std.proofs.Common.{◌≡◌, ℕ, Bool, List, None, Option, Some, refl}, sector_disk.specs.Facts.DeviceFacts, hill_store.specs.Seen.Seen}
use Rattle.{koth_protocol.specs.Commands.Command, koth_session.specs.{Peer.AnswersPeer, Judge.Judged, Peers.{IsServed, ServesNext, ServesOne, Slots, step_after}, declared.{end.PeerEnd.PeerEnd, turns.Turn.Turn}}}

module _ {D : Type 0} (facts : DeviceFacts D) (steps : Option ℕ) where
  pub same_unsent : (end : PeerEnd) (command : Command) (unsent new : List ℕ) (store now : Seen D) → AnswersPeer facts steps command (Some end) unsent store new now → new ≡ unsent
  same_unsent PeerEnd.Quit command unsent new store now is = is.2
  same_unsent PeerEnd.EndOfInput command unsent new store now is = absurd is
  same_unsent PeerEnd.Limit command unsent new store now is = absurd is
  same_unsent PeerEnd.Unread command unsent new store now is = is.2
  same_unsent PeerEnd.StepsSpent command unsent new store now is = is.4
  same_unsent PeerEnd.StoreFailed command unsent new store now is = is.3
  same_unsent PeerEnd.Memory command unsent new store now is = is.2

  -- without a fault of the device
  pub same_store : (end : PeerEnd) (command : Command) (unsent new : List ℕ) (store now : Seen D) → step_after (Some end) 0 ≡ step_after None 0
      → AnswersPeer facts steps command (Some end) unsent store new now → now ≡ store
  same_store PeerEnd.Quit command unsent new store now sound is = is.1
  same_store PeerEnd.EndOfInput command unsent new store now sound is = absurd is
  same_store PeerEnd.Limit command unsent new store now sound is = absurd is
  same_store PeerEnd.Unread command unsent new store now sound is = is.1
  same_store PeerEnd.StepsSpent command unsent new store now sound is = is.3
  same_store PeerEnd.StoreFailed command unsent new store now sound is = absurd (cc)
  same_store PeerEnd.Memory command unsent new store now sound is = is.1

module _ {D A : Type 0} (facts : DeviceFacts D) (steps : Option ℕ) (turns : ℕ) where
  pub serves_next : (share : Bool) (outcome : Option PeerEnd) (n : ℕ) (old : Slots A) (start : Turn) (judge : Judged D) (new : Slots A) (next : Turn) (now : Judged D)
      → ServesOne (λ p q. IsServed facts steps outcome n p judge q now) share n start.submission old start judge new next
      → ServesNext facts steps turns share (step_after outcome n) old start judge new next now
  serves_next share None n old start judge new next now one = (None, refl, one)
  serves_next share (Some PeerEnd.Quit) n old start judge new next now one = (Some PeerEnd.Quit, refl, one)
  serves_next share (Some PeerEnd.EndOfInput) n old start judge new next now one = (Some PeerEnd.EndOfInput, refl, one)
  serves_next share (Some PeerEnd.Limit) n old start judge new next now one = (Some PeerEnd.Limit, refl, one)
  serves_next share (Some PeerEnd.Unread) n old start judge new next now one = (Some PeerEnd.Unread, refl, one)
  serves_next share (Some PeerEnd.StepsSpent) n old start judge new next now one = (Some PeerEnd.StepsSpent, refl, one)
  serves_next share (Some PeerEnd.StoreFailed) n old start judge new next now one = one
  serves_next share (Some PeerEnd.Memory) n old start judge new next now one = (Some PeerEnd.Memory, refl, one)

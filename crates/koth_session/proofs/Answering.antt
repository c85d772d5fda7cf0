-- What a command is answered, for `answer` and what it calls.
use Rattle.std.proofs.Common.{◌≡◌, inl, inr, ℕ, ◌+◌, ◌-◌, ◌^◌, ◌<◌, arith, true, true≢false, List, ◌++◌, length, Option, None, Some, codes, refl, sym, ap, subst, ◌∙◌}
use Rattle.{koth_hill.specs.Kept.table_kept, sector_disk.specs.{Facts.DeviceFacts, Served.IsKept}, hill_store.specs.{Seen.{Seen, Submits}, declared.reply.Reply.Reply}}
use Rattle.{koth_protocol.specs.{Commands.Command, Table.show_text, declared.script.Met.Met}, koth_session.specs.{Inbox.is_submission, Reply.reply_line, Transcript.Exchange}}
use Rattle.{koth_session.proofs.{Exchanges.served_same, Submissions.{exchanged, left_off}}, koth_session.specs.{Peer.{AnswersPeer, LacksPlace, Says, SaysReply, command_due}, declared.end.PeerEnd.PeerEnd}}
use Rattle.koth_protocol.specs.declared.script.Met.TheVariants as met

-- the command that is due is a submission of these bytes
pub submit_due : (m : Met) (bytes : List ℕ) → is_submission m ≡ true → Command.Submit bytes ≡ command_due m bytes
submit_due met.Nothing bytes is = absurd (true≢false (sym is))
submit_due met.Submit bytes is = refl
submit_due met.Show bytes is = absurd (true≢false (sym is))
submit_due met.Quit bytes is = absurd (true≢false (sym is))
submit_due met.Request bytes is = absurd (true≢false (sym is))
submit_due met.Bad bytes is = absurd (true≢false (sym is))

module _ {D : Type 0} (facts : DeviceFacts D) (steps : Option ℕ) where
  pub table_said : (r : Option PeerEnd) (text unsent new : List ℕ) (store : Seen D) → text ≡ show_text (table_kept store.hill) → Says text r unsent new
      → AnswersPeer facts steps Command.Show r unsent store new store
  table_said None text unsent new store is says =
      (Exchange.Table, refl, served_same facts store Exchange.Table refl (λ worn. absurd worn) (λ has. absurd has), says ∙ ap (λ l. unsent ++ l) is)
  table_said (Some PeerEnd.Unread) text unsent new store is says = (subst (λ l. 1048576 < length unsent + length l) is says.0, refl, says.1)
  table_said (Some PeerEnd.Memory) text unsent new store is says = (inl refl, refl, says.1)
  table_said (Some PeerEnd.Quit) text unsent new store is says = absurd says
  table_said (Some PeerEnd.EndOfInput) text unsent new store is says = absurd says
  table_said (Some PeerEnd.Limit) text unsent new store is says = absurd says
  table_said (Some PeerEnd.StepsSpent) text unsent new store is says = absurd says
  table_said (Some PeerEnd.StoreFailed) text unsent new store is says = absurd says

  -- a line that is no command was answered
  pub bad_said : (r : Option PeerEnd) (unsent new : List ℕ) (store : Seen D) → Says (codes "BAD\n") r unsent new
      → AnswersPeer facts steps Command.Bad r unsent store new store
  bad_said None unsent new store says =
      (Exchange.BadLine, refl, served_same facts store Exchange.BadLine refl (λ worn. absurd worn) (λ has. absurd has), says)
  bad_said (Some PeerEnd.Unread) unsent new store says = (says.0, refl, says.1)
  bad_said (Some PeerEnd.Memory) unsent new store says = (inr (says.0 (omega arith)), refl, says.1)
  bad_said (Some PeerEnd.Quit) unsent new store says = absurd says
  bad_said (Some PeerEnd.EndOfInput) unsent new store says = absurd says
  bad_said (Some PeerEnd.Limit) unsent new store says = absurd says
  bad_said (Some PeerEnd.StepsSpent) unsent new store says = absurd says
  bad_said (Some PeerEnd.StoreFailed) unsent new store says = absurd says

  -- there was no place for the reply to a submission
  pub no_place : (source : List ℕ) (end : PeerEnd) (unsent new : List ℕ) (store : Seen D) → LacksPlace end unsent → new ≡ unsent
      → AnswersPeer facts steps (Command.Submit source) (Some end) unsent store new store
  no_place source PeerEnd.Quit unsent new store lacks same = absurd lacks
  no_place source PeerEnd.EndOfInput unsent new store lacks same = absurd lacks
  no_place source PeerEnd.Limit unsent new store lacks same = absurd lacks
  no_place source PeerEnd.Unread unsent new store lacks same = (lacks, refl, same)
  no_place source PeerEnd.StepsSpent unsent new store lacks same = absurd lacks
  no_place source PeerEnd.StoreFailed unsent new store lacks same = absurd lacks
  no_place source PeerEnd.Memory unsent new store lacks same = (inr lacks, refl, same)

  -- a submission was answered, or the device failed in it
  pub reply_said : (source : List ℕ) (reply : Reply) (outcome : Option PeerEnd) (unsent mid new : List ℕ) (store now : Seen D) → Submits facts store source reply now
      → IsKept facts store.device now.device → (store.generation ≡ 2 ^ 64 - 1 → now ≡ store) → mid ≡ unsent → SaysReply reply outcome mid new
      → AnswersPeer facts steps (Command.Submit source) outcome unsent store new now
  reply_said source reply None unsent mid new store now submits kept full same says =
      let x = exchanged facts store now source reply submits kept full says.0 in
      (Exchange.Submission source x.0, refl, x.2, says.1 ∙ ap (λ l. l ++ reply_line reply) same ∙ ap (λ l. unsent ++ l) x.1)
  reply_said source reply (Some end) unsent mid new store now submits kept full same says =
      subst (λ (e : PeerEnd). AnswersPeer facts steps (Command.Submit source) (Some e) unsent store new now) (sym says.0)
      (source, refl, left_off facts store now source reply submits kept full says.1, says.2 ∙ same)

-- What the device holds after exchanges that were served, and after a session.
use Rattle.{std.proofs.Common.{◌≡◌, ◌⊎◌, ℕ, List, [], ◌∷◌, ◌++◌, None, Some, refl, sym, ap, subst, ◌∙◌}, war_types.specs.declared.settings.RawSettings.RawSettings}
use Rattle.{koth_hill.specs.{Hill.{Hill, IsHill}, Step.new_hill, Kept.{Kept, fought}}, sector_disk.specs.{Facts.DeviceFacts, Image.Images, Disk.current}}
use Rattle.{sector_disk.proofs.Images.images_read, hill_images.specs.Stands.{Reads, Stands}, hill_images.proofs.Shown.reads_hill}
use Rattle.{hill_store.specs.{Earned.{earned, kept_next, step_source, steps}, Holding.Holds, Seen.Seen}, hill_store.proofs.Fought.fought_next, koth_protocol.specs.Commands.Command}
use Rattle.koth_session.specs.{Sessions.{AnswersCommand, HoldsAt, IsAnsweredTo, IsLeftOff, AreServed, KeepsCut, KeepsList, Scene}, Transcript.{Exchange, Mark, after_anew, submitted}}
use Rattle.{koth_session.specs.declared.sessions.SessionEnd.SessionEnd, koth_session.proofs.Exchanges.served_on}

steps_append : (h : Hill) (xs ys : List (List ℕ)) → steps h (xs ++ ys) ≡ steps (steps h xs) ys
steps_append h [] ys = refl
steps_append h (x ∷ xs) ys = steps_append (step_source h x) xs ys

-- the hill after exchanges is the one that their answered submissions earn
pub hill_is : (h : Hill) (es : List Exchange) → after_anew h es ≡ steps h (submitted es)
hill_is h [] = refl
hill_is h (Exchange.Submission source Mark.Taken ∷ es) = hill_is (step_source h source) es
hill_is h (Exchange.Submission source Mark.NoMemory ∷ es) = hill_is h es
hill_is h (Exchange.Submission source Mark.Worn ∷ es) = hill_is h es
hill_is h (Exchange.Table ∷ es) = hill_is h es
hill_is h (Exchange.BadLine ∷ es) = hill_is h es

module _ {D : Type 0} (facts : DeviceFacts D) where
  -- what a device holds is a hill
  held_hill : (device : D) (s : RawSettings) (sources : List (List ℕ)) → Holds (facts.size device) (facts.disk device) s sources None → IsHill (earned s sources)
  held_hill device s sources holds =
      reads_hill (facts.size device) (current (facts.disk device)) (fought (earned s sources))
      (images_read (facts.disk device) (λ image. Stands (facts.size device) image (earned s sources)) holds)

  earned_on : (old new : Seen D) (es : List Exchange) (s : RawSettings) (sources : List (List ℕ)) → AreServed facts old new es
      → IsHill (earned s sources) → old.hill ≡ fought (earned s sources) → new.hill ≡ fought (earned s (sources ++ submitted es))
  earned_on old new es s sources is hill earns =
      let after = is.anew (earned s sources) hill earns in
      after.fought_is ∙ ap fought (hill_is (earned s sources) es ∙ sym (steps_append (new_hill s 0) sources (submitted es)))

  pub keeps_list : (old new : Seen D) (es : List Exchange) → AreServed facts old new es → KeepsList facts old new es
  keeps_list old new es is = λ s sources lawful open_still earns holds.
      let now = earned_on old new es s sources is (held_hill old.device s sources holds) earns in
      let before = subst (λ k. Images (facts.disk old.device) (λ image. Reads (facts.size old.device) image k)) (sym earns) holds in
      (now, subst (λ k. Images (facts.disk new.device) (λ image. Reads (facts.size new.device) image k)) now (is.reads lawful open_still before))

  pub keeps_cut : (old last new : Seen D) (es : List Exchange) (source : List ℕ) → AreServed facts old last es
      → IsLeftOff facts last new source → KeepsCut facts old new es source
  keeps_cut old last new es source is cut = λ s sources lawful open_still earns holds.
      let after = is.anew (earned s sources) (held_hill old.device s sources holds) earns in
      let now = earned_on old last es s sources is (held_hill old.device s sources holds) earns in
      let hill : IsHill (earned s (sources ++ submitted es)) =
      subst IsHill (hill_is (earned s sources) es ∙ sym (steps_append (new_hill s 0) sources (submitted es))) after.is_hill in
      let next : kept_next last.hill source ≡ fought (earned s ((sources ++ submitted es) ++ source ∷ [])) =
      ap (λ (k : Kept). kept_next k source) now ∙ fought_next (earned s (sources ++ submitted es)) source hill
      ∙ ap fought (sym (steps_append (new_hill s 0) (sources ++ submitted es) (source ∷ []))) in
      let images = cut.reads (is.kept.same_laws.1 lawful) (is.still ∙ open_still) in
      let first = subst (λ k. Images (facts.disk new.device) (λ image. Reads (facts.size new.device) image k ⊎ Reads (facts.size new.device) image (kept_next last.hill source))) now images in
      subst (λ k. Images (facts.disk new.device) (λ image. Stands (facts.size new.device) image (earned s (sources ++ submitted es)) ⊎ Reads (facts.size new.device) image k)) next first

  same_store : (old last new : Seen D) (es : List Exchange) → AreServed facts old last es → new ≡ last → KeepsList facts old new es
  same_store old last new es is same = subst (λ x. KeepsList facts old x es) (sym same) (keeps_list old last es is)

  pub holds_at : (end : SessionEnd) (command : Command) (a last c : Scene D) (es : List Exchange) → IsAnsweredTo facts a last es
      → AnswersCommand facts command (Some end) last c → HoldsAt facts end command a.store c.store es
  holds_at SessionEnd.Quit command a last c es is ended = same_store a.store last.store c.store es is.served ended.1
  holds_at SessionEnd.Memory command a last c es is ended = same_store a.store last.store c.store es is.served ended.1
  holds_at SessionEnd.WriteFault command a last c es is ended =
      (ended.0, ended.1, keeps_list a.store c.store (es ++ ended.0 ∷ []) (served_on facts a.store last.store c.store es (ended.0 ∷ []) is.served ended.2))
  holds_at SessionEnd.StoreFailed command a last c es is ended =
      (ended.0, ended.1, keeps_cut a.store last.store c.store es ended.0 is.served ended.2)
  holds_at SessionEnd.EndOfInput command a last c es is ended = absurd ended
  holds_at SessionEnd.ReadFault command a last c es is ended = absurd ended
  holds_at SessionEnd.Limit command a last c es is ended = absurd ended

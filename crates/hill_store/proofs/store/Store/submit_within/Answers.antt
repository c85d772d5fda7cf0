-- A submission that was replied to is as `submit` makes it.
use Rattle.std.proofs.Common.{◌≡◌, ℕ, List, [], ◌∷◌, Option, None, Some, IfSome}
use Rattle.{war_types.specs.declared.settings.RawSettings.RawSettings, koth_hill.specs.Kept.{AreTrue, IsKept}, sector_disk.specs.Facts.DeviceFacts}
use Rattle.hill_store.specs.{Holding.{HoldsMore, IsHolding}, Kept.IsAnew, Seen.{Seen, SubmitsWithin}, declared.reply.Reply.Reply}
use Rattle.hill_store.proofs.{Fought.anew, Holdings.holds_one}
use Rattle.hill_store.proofs.store.Store.submit_within.Goals as goal

module _ {D : Type 0} (facts : DeviceFacts D) (steps : Option ℕ) (old new : Seen D) (source : List ℕ) where
  anew_if : (r : Option Reply) → IsKept old.hill → SubmitsWithin facts steps old source r new → AreTrue old.hill → IfSome r (λ reply. IsAnew old.hill source reply new.hill)
  anew_if None kept is holds = tt
  anew_if (Some reply) kept is holds = anew facts old new source reply kept is holds

  holds_if : (s : RawSettings) (before : List (List ℕ)) (r : Option Reply) → IsHolding facts s before old → facts.lawful new.device → SubmitsWithin facts steps old source r new
      → IfSome r (λ reply. HoldsMore facts s before (source ∷ []) (reply ∷ []) new)
  holds_if s before None holding lawful is = tt
  holds_if s before (Some reply) holding lawful is = holds_one facts s before old new source reply holding lawful is

pub returns-clause-holds : goal.returns-clause-holds
returns-clause-holds g c = λ s. λ before. λ holding.
    holds_if g.D.Device.facts c.args.steps c.args.self.now c.reply_to.new.self c.args.source.now s before c.reply_to.result holding
    (c.reply_to.ensures.kept.same_laws.1 holding.lawful) c.reply_to.ensures.submits

pub returns-clause-anew : goal.returns-clause-anew
returns-clause-anew g c = λ holds.
    anew_if g.D.Device.facts c.args.steps c.args.self.now c.reply_to.new.self c.args.source.now c.reply_to.result c.reply_to.ensures.hill c.reply_to.ensures.submits holds

-- The warriors so far are held.
use Rattle.{std.proofs.Common.{◌++◌, ℕ, List, map, take}, war_types.specs.declared.settings.RawSettings.RawSettings}
use Rattle.{sector_disk.specs.Memory.memory_facts, hill_store.specs.Holding.IsHolding, koth_keeping.specs.Reseeding.source_of}
use Rattle.koth_keeping.proofs.reseeding.submit_members.Given as goal

abbrev pub invariant-loop-place : goal.invariant-loop-place
invariant-loop-place g l = (s : RawSettings) (before : List (List ℕ)) → IsHolding memory_facts s before l.fn.store
    → IsHolding memory_facts s (before ++ map (λ m. source_of l.hill.settings.core m.warrior) (take l.place l.hill.members)) l.store

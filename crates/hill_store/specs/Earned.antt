-- What a list of sources earns.
use Rattle.std.specs.Prelude.{ℕ, if◌then◌else◌, List, [], ◌∷◌, Result, Ok, Err}
use Rattle.{war_types.specs.{declared.settings.RawSettings.RawSettings, declared.fault.AsmFault.AsmFault, Warrior.WarriorParts}, redcode_asm.specs.Assembly.assembly}
use Rattle.{koth_hill.specs.{declared.verdict.Verdict.Verdict, Hill.Hill, Step.{step, verdict, new_hill}, Kept.{Kept, step_kept, verdict_kept}}, hill_store.specs.declared.reply.Reply.Reply}

abbrev pub step_found : Hill → Result WarriorParts AsmFault → Hill
step_found h (Ok w) = step h w
step_found h (Err fault) = h

-- the hill after a source: the step of its warrior, or the same hill if the source is refused
abbrev pub step_source : Hill → List ℕ → Hill
step_source h source = step_found h (assembly h.settings source)

abbrev pub reply_judged : Verdict → Reply
reply_judged v = if v.stays then Reply.Placed v.entry v.rank v.score else Reply.Fell v.entry v.score

abbrev pub reply_found : Hill → Result WarriorParts AsmFault → Reply
reply_found h (Ok w) = reply_judged (verdict h w)
reply_found h (Err fault) = Reply.Refused fault

-- the reply that is due to a source
abbrev pub reply_of : Hill → List ℕ → Reply
reply_of h source = reply_found h (assembly h.settings source)

-- the hill after these sources, the first of them first
abbrev pub steps : Hill → List (List ℕ) → Hill
steps h [] = h
steps h (source ∷ sources) = steps (step_source h source) sources

-- what a list of sources earns from the beginning, with every pair fought again at each step
abbrev pub earned : RawSettings → List (List ℕ) → Hill
earned s sources = steps (new_hill s 0) sources

-- ---- by what is kept, true or not

abbrev pub kept_found : Kept → Result WarriorParts AsmFault → Kept
kept_found k (Ok w) = step_kept k w
kept_found k (Err fault) = k

-- the hill after a source, by the results that it keeps
abbrev pub kept_next : Kept → List ℕ → Kept
kept_next k source = kept_found k (assembly k.settings source)

abbrev pub kept_reply_found : Kept → Result WarriorParts AsmFault → Reply
kept_reply_found k (Ok w) = reply_judged (verdict_kept k w)
kept_reply_found k (Err fault) = Reply.Refused fault

-- the reply that is due to a source, by the results that the hill keeps
abbrev pub kept_reply : Kept → List ℕ → Reply
kept_reply k source = kept_reply_found k (assembly k.settings source)

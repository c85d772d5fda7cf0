-- Rounds that one entry won, lost and tied.
use Rattle.std.specs.{Prelude.{ℕ, nat_lt, if◌then◌else◌, List}, List.sum_by}
use Rattle.{koth_match.specs.declared.bout.Bout.Bout, koth_hill.specs.Kept.{Kept, entries_of, or_no_rounds, result_of}, koth_text.specs.{Tally.{of_older, of_younger}, declared.tally.Tally.Tally}}

abbrev pub no_tally : Tally
no_tally = record { won = 0; lost = 0; tied = 0 }

-- the result that a hill keeps of two entries
abbrev pub kept_of_two : Kept → ℕ → ℕ → Bout
kept_of_two k older younger = or_no_rounds (result_of (entries_of k.members) k.results older younger)

-- the rounds of one entry in its match against another: the earlier entry is the older warrior, and nobody fights
-- itself
abbrev pub between : Kept → ℕ → ℕ → Tally
between k one other =
    if nat_lt one other then of_older (kept_of_two k one other) else (
    if nat_lt other one then of_younger (kept_of_two k other one) else no_tally)

-- and against all of these
abbrev pub against : Kept → ℕ → List ℕ → Tally
against k one entries =
    record { won = sum_by (λ other. (between k one other).won) entries; lost = sum_by (λ other. (between k one other).lost) entries; tied = sum_by (λ other. (between k one other).tied) entries }

-- and against all on the hill
abbrev pub against_all : Kept → ℕ → Tally
against_all k one = against k one (entries_of k.members)

-- What a page says of its round in words.
use Rattle.std.specs.Prelude.{ℕ, ◌+◌, Bool, if◌then◌else◌, List, ◌++◌, length, codes, decimal}
use Rattle.{war_types.specs.Warrior.WarriorParts, mars_core.specs.declared.round.Outcome.Outcome, koth_replay.specs.Replay.ReplayParts, koth_text.specs.Escape.escaped}
use Rattle.koth_watch.specs.{declared.sentence.Told.Told, declared.shown.Form.Form, Sentence.sentence_text}
use Rattle.koth_watch.specs.declared.parts.TheConstants.{OLDER_START, WARRIORS_END, YOUNGER_START}

-- who fights whom
unfoldable pub sides_text : WarriorParts → WarriorParts → List ℕ
sides_text older younger = escaped older.name ++ codes " against " ++ escaped younger.name

-- who won
unfoldable pub winner_text : WarriorParts → List ℕ
winner_text warrior = escaped warrior.name ++ codes " won"

abbrev pub outcome_text : WarriorParts → WarriorParts → Outcome → List ℕ
outcome_text older younger Outcome.First = winner_text older
outcome_text older younger Outcome.Second = winner_text younger
outcome_text older younger Outcome.Tie = codes "nobody won"

-- how many turns there are, or how many of them the page has
unfoldable pub cut_told : ℕ → List ℕ
cut_told turns = codes ". The first " ++ decimal turns ++ codes " turns are here.</p>\n"

unfoldable pub whole_told : ℕ → List ℕ
whole_told turns = codes " after " ++ decimal turns ++ codes " turns.</p>\n"

abbrev pub turns_told : Bool → ℕ → List ℕ
turns_told is_cut turns = if is_cut then cut_told turns else whole_told turns

-- the round of this number, counted from 0, and the size of its core
unfoldable pub round_told : ℕ → ℕ → List ℕ
round_told round core = codes "<p>Round " ++ decimal (round + 1) ++ codes " in a core of " ++ decimal core ++ codes " cells: "

-- how it ended, and why
unfoldable pub why_text : WarriorParts → WarriorParts → Told → List ℕ
why_text older younger told = codes "<p>" ++ sentence_text Form.Page older younger told ++ codes "</p>\n"

-- which round it is, and how it ended
unfoldable pub ending_text : WarriorParts → WarriorParts → Told → ReplayParts → List ℕ
ending_text older younger told r =
    round_told told.round r.opening.core ++ outcome_text older younger r.outcome ++ turns_told r.is_cut (length r.turns) ++ why_text older younger told

-- a warrior with its author, and both of them
unfoldable pub warrior_text : WarriorParts → List ℕ
warrior_text warrior = escaped warrior.name ++ codes "</b> by " ++ escaped warrior.author

unfoldable pub warriors_text : WarriorParts → WarriorParts → List ℕ
warriors_text older younger = OLDER_START.now ++ warrior_text older ++ YOUNGER_START.now ++ warrior_text younger ++ WARRIORS_END.now

-- How a round ended, and why, in a sentence.
use Rattle.std.specs.Prelude.{ℕ, ◌+◌, ◌==◌, if◌then◌else◌, List, ◌++◌, codes, decimal}
use Rattle.{war_types.specs.Warrior.{WarriorParts}, mars_core.specs.declared.round.Side.{Side}}
use Rattle.koth_replay.specs.declared.story.{Fall.Fall, Story.Story, Writer.Writer}
use Rattle.koth_watch.specs.{declared.shown.Form.Form, declared.sentence.Told.Told, Shown.{instruction_shown, name_text, turn_named}}

-- the warrior of a side, and the side that isn't this one
abbrev pub warrior_at : Side → WarriorParts → WarriorParts → WarriorParts
warrior_at Side.First older younger = older
warrior_at Side.Second older younger = younger

abbrev pub winner_at : Side → WarriorParts → WarriorParts → WarriorParts
winner_at Side.First older younger = younger
winner_at Side.Second older younger = older

-- which round of how many, counted from 1
unfoldable pub round_named : ℕ → ℕ → List ℕ
round_named round rounds = codes "round " ++ decimal (round + 1) ++ codes " of " ++ decimal rounds

-- who won which round
unfoldable pub won_text : Form → List ℕ → Told → List ℕ
won_text form winner told = name_text form winner ++ codes " won " ++ round_named told.round told.rounds ++ codes ": "

-- where and when the loser's last process ended, and by executing what
unfoldable pub place_named : ℕ → List ℕ
place_named at = codes " at " ++ decimal at ++ codes " in "

unfoldable pub end_text : Form → List ℕ → ℕ → Fall → List ℕ
end_text form loser core fall =
    name_text form loser ++ codes "'s last process executed " ++ instruction_shown form core fall.instr ++ place_named fall.at ++ turn_named form fall.turn

-- whether that is the loser
abbrev pub itself : Side → Side → List ℕ
itself Side.First Side.First = codes " itself had written in "
itself Side.Second Side.Second = codes " itself had written in "
itself loser writer = codes " had written in "

-- who wrote it
unfoldable pub wrote_text : Form → Side → Side → List ℕ → ℕ → List ℕ
wrote_text form loser writer name turn = codes ", which " ++ name_text form name ++ itself loser writer ++ turn_named form turn

unfoldable pub loaded_text : Form → List ℕ → List ℕ
loaded_text form name = codes ", with which " ++ name_text form name ++ codes " was loaded"

abbrev pub writer_text : Form → Side → WarriorParts → WarriorParts → Writer → List ℕ
writer_text form loser older younger (Writer.Turn side turn) = wrote_text form loser side (warrior_at side older younger).name turn
writer_text form loser older younger (Writer.Loaded side) = loaded_text form (warrior_at side older younger).name
writer_text form loser older younger Writer.Nobody = codes ", where nothing had been loaded or written"

unfoldable pub fall_text : Form → WarriorParts → WarriorParts → Told → Fall → List ℕ
fall_text form older younger told fall =
    won_text form (winner_at fall.side older younger).name told ++ end_text form (warrior_at fall.side older younger).name told.core fall
    ++ writer_text form fall.side older younger fall.writer ++ codes ".\n"

-- a number of processes
abbrev pub processes_word : ℕ → List ℕ
processes_word n = if n == 1 then codes " process" else codes " processes"

unfoldable pub left_text : Form → List ℕ → ℕ → List ℕ
left_text form name n = name_text form name ++ codes " had " ++ decimal n ++ processes_word n

unfoldable pub tie_named : ℕ → ℕ → List ℕ
tie_named round rounds = codes "Round " ++ decimal (round + 1) ++ codes " of " ++ decimal rounds ++ codes " was a tie: "

unfoldable pub tie_text : Form → WarriorParts → WarriorParts → Told → ℕ → ℕ → List ℕ
tie_text form older younger told first second =
    tie_named told.round told.rounds ++ left_text form older.name first ++ codes ", " ++ left_text form younger.name second
    ++ codes " at its end.\n"

abbrev pub story_text : Form → WarriorParts → WarriorParts → Told → Story → List ℕ
story_text form older younger told (Story.Fell fall) = fall_text form older younger told fall
story_text form older younger told (Story.Tied first second) = tie_text form older younger told first second

abbrev pub sentence_text : Form → WarriorParts → WarriorParts → Told → List ℕ
sentence_text form older younger told = story_text form older younger told told.story

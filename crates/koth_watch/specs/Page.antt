-- The page of a round.
use Rattle.std.specs.Prelude.{ℕ, List, ◌++◌, codes}
use Rattle.{war_types.specs.Warrior.WarriorParts, koth_replay.specs.Replay.ReplayParts, koth_watch.specs.declared.parts.TheConstants.{CONTROLS, END, HEAD, STYLE}}
use Rattle.koth_watch.specs.{declared.script.TheConstants.ROUND_SCRIPT, declared.drawing.TheConstants.DRAWING_SCRIPT, declared.sentence.Told.Told, Data.data_text, Heading.{ending_text, sides_text, warriors_text}}

-- its head, and above its controls who fights whom and how it ended
unfoldable pub heading_text : WarriorParts → WarriorParts → Told → ReplayParts → List ℕ
heading_text older younger told r =
    HEAD.now ++ sides_text older younger ++ STYLE.now ++ sides_text older younger ++ codes "</h1>\n" ++ ending_text older younger told r

-- the scripts that draw the data
unfoldable pub scripts_text : List ℕ
scripts_text = ROUND_SCRIPT.now ++ DRAWING_SCRIPT.now

-- the page of a round of two warriors, of which this is told: the data stand between its controls and its scripts
unfoldable pub round_page : WarriorParts → WarriorParts → Told → ReplayParts → List ℕ
round_page older younger told r =
    heading_text older younger told r ++ warriors_text older younger ++ CONTROLS.now ++ data_text r ++ scripts_text ++ END.now

-- What `submit` and `try` answer as lines of JSON.
use Rattle.std.specs.Prelude.{◌≡◌, ℕ, ◌-◌, if◌then◌else◌, List, [], ◌++◌, Option, None, Some, Ok, length, slice_get, unwrap_or}
use Rattle.war_types.specs.{Warrior.WarriorParts, declared.fault.AsmFault.AsmFault}
use Rattle.{redcode_asm.specs.Assembly.assembly, koth_match.specs.declared.bout.Bout.Bout, koth_hill.specs.{Kept.{Kept, verdict_kept}, declared.verdict.Verdict.Verdict}}
use Rattle.{hill_store.specs.declared.reply.Reply.Reply, koth_session.specs.Reply.reply_line, koth_views.specs.Fallen.least_of}
use Rattle.koth_json.specs.{Hill.bout_lines, Reply.{fell_line, judged_line, least_line, worn_line}}
use Rattle.{koth_words.specs.declared.requests.View.View, koth_commands.specs.Answer.SaysRefused}

-- the line of a reply, if this is that of a warrior that is placed; one that says nothing of the source is the word that
-- it is for people too
abbrev pub json_line : List ℕ → Reply → List ℕ
json_line placed (Reply.Placed entry rank score) = placed
json_line placed (Reply.Fell entry score) = fell_line entry score
json_line placed (Reply.Refused fault) = reply_line (Reply.Refused fault)
json_line placed Reply.Memory = reply_line Reply.Memory
json_line placed Reply.Worn = worn_line
json_line placed Reply.Disk = reply_line Reply.Disk
json_line placed Reply.Reopen = reply_line Reply.Reopen

-- the source is refused
abbrev pub IsRefused : Reply → Type 0
IsRefused reply = (fault : AsmFault) × (reply ≡ Reply.Refused fault)

-- the text of a reply: its line and this text after it, and of a refusal the line that has the place in the source and
-- the reason
abbrev pub IsJsonText : List ℕ → Reply → List ℕ → List ℕ → Type 0
IsJsonText placed (Reply.Placed entry rank score) more text = text ≡ json_line placed (Reply.Placed entry rank score) ++ more
IsJsonText placed (Reply.Fell entry score) more text = text ≡ json_line placed (Reply.Fell entry score) ++ more
IsJsonText placed (Reply.Refused fault) more text = SaysRefused View.Json fault text
IsJsonText placed Reply.Memory more text = text ≡ json_line placed Reply.Memory ++ more
IsJsonText placed Reply.Worn more text = text ≡ json_line placed Reply.Worn ++ more
IsJsonText placed Reply.Disk more text = text ≡ json_line placed Reply.Disk ++ more
IsJsonText placed Reply.Reopen more text = text ≡ json_line placed Reply.Reopen ++ more

-- a submission of the source to this hill is due this verdict
abbrev pub IsDue : Kept → List ℕ → Verdict → Type 0
IsDue k source judged = (w : WarriorParts) × (assembly k.settings source ≡ Ok w) × (judged ≡ verdict_kept k w)

-- as lines of JSON, that of a warrior that is placed is this one
abbrev pub HasLine : View → List ℕ → Reply → List ℕ → Type 0
HasLine View.Plain due reply line = Unit {0}
HasLine View.Table due reply line = Unit {0}
HasLine View.Json due (Reply.Placed entry rank score) line = line ≡ due
HasLine View.Json due (Reply.Fell entry score) line = Unit {0}
HasLine View.Json due (Reply.Refused fault) line = Unit {0}
HasLine View.Json due Reply.Memory line = Unit {0}
HasLine View.Json due Reply.Worn line = Unit {0}
HasLine View.Json due Reply.Disk line = Unit {0}
HasLine View.Json due Reply.Reopen line = Unit {0}

-- that of a warrior that is placed on this hill says who is pushed off, by the verdict that the source is due
abbrev pub IsLineOf : View → Kept → List ℕ → Reply → List ℕ → Type 0
IsLineOf view hill source reply line = (judged : Verdict) → IsDue hill source judged → HasLine view (judged_line hill judged) reply line

-- the lowest points of those that stay, if there are any
abbrev pub least_lines : Option ℕ → List ℕ
least_lines None = []
least_lines (Some points) = least_line points

-- of an entry that falls, by the results of its matches with all on the hill: the lowest points of those that stay, and
-- these matches
abbrev pub fallen_lines : ℕ → Kept → List Bout → List ℕ
fallen_lines entry hill bouts = least_lines (least_of hill bouts) ++ bout_lines entry hill.members bouts

-- the matches of a challenger with all on the hill, and before these, if it would fall, the lowest points of those that
-- stay
abbrev pub judged_lines : Kept → Verdict → List ℕ
judged_lines hill judged =
    if judged.stays then bout_lines judged.entry hill.members judged.bouts else fallen_lines judged.entry hill judged.bouts

-- the results of the youngest of those on a hill with the others
abbrev pub youngest_bouts : List (List Bout) → List Bout
youngest_bouts results = unwrap_or (slice_get results (length results - 1)) []

-- the matches that a hill keeps of its youngest, which has this entry, with the others
abbrev pub youngest_lines : ℕ → Kept → List ℕ
youngest_lines entry hill = bout_lines entry hill.members (youngest_bouts hill.results)

-- what a warrior is told that fell under this entry, by its verdict
abbrev pub fell_lines : ℕ → Kept → Option Verdict → List ℕ
fell_lines entry hill None = []
fell_lines entry hill (Some judged) = fallen_lines entry hill judged.bouts

-- what stands after the line of a reply, by the hill after it and the verdict of the submission: the matches of a
-- warrior that was placed, which is the youngest then, what one that fell is told, and else nothing
abbrev pub settled_lines : Kept → Reply → Option Verdict → List ℕ
settled_lines hill (Reply.Placed entry rank score) judged = youngest_lines entry hill
settled_lines hill (Reply.Fell entry score) judged = fell_lines entry hill judged
settled_lines hill (Reply.Refused fault) judged = []
settled_lines hill Reply.Memory judged = []
settled_lines hill Reply.Worn judged = []
settled_lines hill Reply.Disk judged = []
settled_lines hill Reply.Reopen judged = []

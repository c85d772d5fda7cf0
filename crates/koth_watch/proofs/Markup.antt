-- The tags and the attributes of a page are those of the same round without names, for `round_page`.
use Rattle.{std.proofs.{Common.{◌≡◌, ℕ, List, [], ◌++◌, length, codes, refl}, lemmas.List.Elements.filter-append}, war_types.specs.Warrior.WarriorParts}
use Rattle.{mars_core.specs.declared.round.Outcome.Outcome, koth_replay.specs.Replay.ReplayParts, koth_text.specs.Characters.markup_of}
use Rattle.{koth_text.proofs.Markup.{Alike, both, markup_of-escaped}, koth_watch.specs.declared.parts.TheConstants.{CONTROLS, END, HEAD, OLDER_START, STYLE, WARRIORS_END, YOUNGER_START}}
use Rattle.koth_watch.specs.{Data.data_text, Heading.{ending_text, outcome_text, round_told, sides_text, turns_told, warrior_text, warriors_text, why_text, winner_text}, Laws.unnamed}
use Rattle.{mars_core.specs.declared.round.Side.Side, koth_replay.specs.declared.story.{Fall.Fall, Story.Story, Writer.Writer}, koth_watch.specs.declared.{sentence.Told.Told, shown.Form.Form}}
use Rattle.koth_watch.specs.Sentence.{end_text, fall_text, left_text, loaded_text, sentence_text, story_text, tie_named, tie_text, warrior_at, winner_at, won_text, writer_text, wrote_text}
use Rattle.koth_watch.specs.Page.{heading_text, round_page, scripts_text}

-- the same text before two that are alike, and after them
before : (start a b : List ℕ) → Alike a b → Alike (start ++ a) (start ++ b)
before start a b same = both start start a b refl same

behind : (a b end : List ℕ) → Alike a b → Alike (a ++ end) (b ++ end)
behind a b end same = both a b end end same refl

sides_alike : (older younger : WarriorParts) → Alike (sides_text older younger) (sides_text (unnamed older) (unnamed younger))
unfolding sides_text
sides_alike older younger = simp (filter-append, markup_of-escaped)

outcome_alike : (older younger : WarriorParts) (o : Outcome) → Alike (outcome_text older younger o) (outcome_text (unnamed older) (unnamed younger) o)
unfolding winner_text
outcome_alike older younger Outcome.First = simp (filter-append, markup_of-escaped)
outcome_alike older younger Outcome.Second = simp (filter-append, markup_of-escaped)
outcome_alike older younger Outcome.Tie = refl

-- ---- the sentence

won_alike : (winner : List ℕ) (told : Told) → Alike (won_text Form.Page winner told) (won_text Form.Page [] told)
unfolding won_text
won_alike winner told = simp (filter-append, markup_of-escaped)

end_alike : (loser : List ℕ) (core : ℕ) (fall : Fall) → Alike (end_text Form.Page loser core fall) (end_text Form.Page [] core fall)
unfolding end_text
end_alike loser core fall = simp (filter-append, markup_of-escaped)

wrote_alike : (loser side : Side) (name : List ℕ) (turn : ℕ) → Alike (wrote_text Form.Page loser side name turn) (wrote_text Form.Page loser side [] turn)
unfolding wrote_text
wrote_alike loser side name turn = simp (filter-append, markup_of-escaped)

loaded_alike : (name : List ℕ) → Alike (loaded_text Form.Page name) (loaded_text Form.Page [])
unfolding loaded_text
loaded_alike name = simp (filter-append, markup_of-escaped)

left_alike : (name : List ℕ) (n : ℕ) → Alike (left_text Form.Page name n) (left_text Form.Page [] n)
unfolding left_text
left_alike name n = simp (filter-append, markup_of-escaped)

writer_alike : (loser : Side) (older younger : WarriorParts) (w : Writer) → Alike (writer_text Form.Page loser older younger w) (writer_text Form.Page loser (unnamed older) (unnamed younger) w)
writer_alike loser older younger (Writer.Turn Side.First turn) = wrote_alike loser Side.First older.name turn
writer_alike loser older younger (Writer.Turn Side.Second turn) = wrote_alike loser Side.Second younger.name turn
writer_alike loser older younger (Writer.Loaded Side.First) = loaded_alike older.name
writer_alike loser older younger (Writer.Loaded Side.Second) = loaded_alike younger.name
writer_alike loser older younger Writer.Nobody = refl

-- who won, and where the loser ended
sides_of : (side : Side) (older younger : WarriorParts) (told : Told) (fall : Fall)
    → Alike (won_text Form.Page (winner_at side older younger).name told ++ end_text Form.Page (warrior_at side older younger).name told.core fall)
    (won_text Form.Page (winner_at side (unnamed older) (unnamed younger)).name told ++ end_text Form.Page (warrior_at side (unnamed older) (unnamed younger)).name told.core fall)
sides_of Side.First older younger told fall =
    both (won_text Form.Page younger.name told) (won_text Form.Page [] told) (end_text Form.Page older.name told.core fall) (end_text Form.Page [] told.core fall)
    (won_alike younger.name told) (end_alike older.name told.core fall)
sides_of Side.Second older younger told fall =
    both (won_text Form.Page older.name told) (won_text Form.Page [] told) (end_text Form.Page younger.name told.core fall) (end_text Form.Page [] told.core fall)
    (won_alike older.name told) (end_alike younger.name told.core fall)

fall_alike : (older younger : WarriorParts) (told : Told) (fall : Fall) → Alike (fall_text Form.Page older younger told fall) (fall_text Form.Page (unnamed older) (unnamed younger) told fall)
unfolding fall_text
fall_alike older younger told fall =
    let first = won_text Form.Page (winner_at fall.side older younger).name told ++ end_text Form.Page (warrior_at fall.side older younger).name told.core fall in
    let other = won_text Form.Page (winner_at fall.side (unnamed older) (unnamed younger)).name told ++ end_text Form.Page (warrior_at fall.side (unnamed older) (unnamed younger)).name told.core fall in
    let wrote = writer_text Form.Page fall.side older younger fall.writer in
    let none = writer_text Form.Page fall.side (unnamed older) (unnamed younger) fall.writer in
    behind (first ++ wrote) (other ++ none) (codes ".\n")
    (both first other wrote none (sides_of fall.side older younger told fall) (writer_alike fall.side older younger fall.writer))

tie_alike : (older younger : WarriorParts) (told : Told) (a b : ℕ) → Alike (tie_text Form.Page older younger told a b) (tie_text Form.Page (unnamed older) (unnamed younger) told a b)
unfolding tie_text
tie_alike older younger told a b =
    let start = tie_named told.round told.rounds in
    let first = left_text Form.Page older.name a in
    let second = left_text Form.Page younger.name b in
    let none = left_text Form.Page [] a in
    let other = left_text Form.Page [] b in
    behind (start ++ first ++ codes ", " ++ second) (start ++ none ++ codes ", " ++ other) (codes " at its end.\n")
    (both (start ++ first ++ codes ", ") (start ++ none ++ codes ", ") second other
    (behind (start ++ first) (start ++ none) (codes ", ") (before start first none (left_alike older.name a))) (left_alike younger.name b))

story_alike : (older younger : WarriorParts) (told : Told) (story : Story) → Alike (story_text Form.Page older younger told story) (story_text Form.Page (unnamed older) (unnamed younger) told story)
story_alike older younger told (Story.Fell fall) = fall_alike older younger told fall
story_alike older younger told (Story.Tied a b) = tie_alike older younger told a b

why_alike : (older younger : WarriorParts) (told : Told) → Alike (why_text older younger told) (why_text (unnamed older) (unnamed younger) told)
unfolding why_text
why_alike older younger told =
    let named = sentence_text Form.Page older younger told in
    let none = sentence_text Form.Page (unnamed older) (unnamed younger) told in
    behind (codes "<p>" ++ named) (codes "<p>" ++ none) (codes "</p>\n") (before (codes "<p>") named none (story_alike older younger told told.story))

ending_alike : (older younger : WarriorParts) (told : Told) (r : ReplayParts)
    → Alike (ending_text older younger told r) (ending_text (unnamed older) (unnamed younger) told r)
unfolding ending_text
ending_alike older younger told r =
    let start = round_told told.round r.opening.core in
    let won = outcome_text older younger r.outcome in
    let other = outcome_text (unnamed older) (unnamed younger) r.outcome in
    let turns = turns_told r.is_cut (length r.turns) in
    both (start ++ won ++ turns) (start ++ other ++ turns) (why_text older younger told) (why_text (unnamed older) (unnamed younger) told)
    (behind (start ++ won) (start ++ other) turns (before start won other (outcome_alike older younger r.outcome))) (why_alike older younger told)

heading_alike : (older younger : WarriorParts) (told : Told) (r : ReplayParts)
    → Alike (heading_text older younger told r) (heading_text (unnamed older) (unnamed younger) told r)
unfolding heading_text
heading_alike older younger told r =
    let named = sides_text older younger in
    let none = sides_text (unnamed older) (unnamed younger) in
    let same = sides_alike older younger in
    let end = codes "</h1>\n" in
    both (HEAD.now ++ named ++ STYLE.now ++ named ++ end) (HEAD.now ++ none ++ STYLE.now ++ none ++ end) (ending_text older younger told r) (ending_text (unnamed older) (unnamed younger) told r)
    (behind (HEAD.now ++ named ++ STYLE.now ++ named) (HEAD.now ++ none ++ STYLE.now ++ none) end
    (both (HEAD.now ++ named ++ STYLE.now) (HEAD.now ++ none ++ STYLE.now) named none
    (behind (HEAD.now ++ named) (HEAD.now ++ none) STYLE.now (before HEAD.now named none same)) same))
    (ending_alike older younger told r)

warrior_alike : (warrior : WarriorParts) → Alike (warrior_text warrior) (warrior_text (unnamed warrior))
unfolding warrior_text
warrior_alike warrior = simp (filter-append, markup_of-escaped)

warriors_alike : (older younger : WarriorParts) → Alike (warriors_text older younger) (warriors_text (unnamed older) (unnamed younger))
unfolding warriors_text
warriors_alike older younger =
    let first = OLDER_START.now ++ warrior_text older ++ YOUNGER_START.now in
    let other = OLDER_START.now ++ warrior_text (unnamed older) ++ YOUNGER_START.now in
    behind (first ++ warrior_text younger) (other ++ warrior_text (unnamed younger)) WARRIORS_END.now
    (both first other (warrior_text younger) (warrior_text (unnamed younger))
    (behind (OLDER_START.now ++ warrior_text older) (OLDER_START.now ++ warrior_text (unnamed older)) YOUNGER_START.now
    (before OLDER_START.now (warrior_text older) (warrior_text (unnamed older)) (warrior_alike older)))
    (warrior_alike younger))

pub markup : (older younger : WarriorParts) (told : Told) (r : ReplayParts)
    → markup_of (round_page older younger told r) ≡ markup_of (round_page (unnamed older) (unnamed younger) told r)
unfolding round_page
markup older younger told r =
    let first = heading_text older younger told r ++ warriors_text older younger in
    let other = heading_text (unnamed older) (unnamed younger) told r ++ warriors_text (unnamed older) (unnamed younger) in
    let start : Alike first other =
    both (heading_text older younger told r) (heading_text (unnamed older) (unnamed younger) told r) (warriors_text older younger) (warriors_text (unnamed older) (unnamed younger))
    (heading_alike older younger told r) (warriors_alike older younger) in
    behind (first ++ CONTROLS.now ++ data_text r ++ scripts_text) (other ++ CONTROLS.now ++ data_text r ++ scripts_text) END.now
    (behind (first ++ CONTROLS.now ++ data_text r) (other ++ CONTROLS.now ++ data_text r) scripts_text
    (behind (first ++ CONTROLS.now) (other ++ CONTROLS.now) (data_text r) (behind first other CONTROLS.now start)))

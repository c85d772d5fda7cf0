-- What each text of a page is made of, for `round_page`: no byte of the data begins a tag, and every byte of the page is of ASCII.
use Rattle.{std.proofs.Common.{◌≡◌, ℕ, ◌-◌, ◌*◌, zero, suc, true, false, not, ltb, eqb, List, ◌++◌, codes, decimal, refl, Bool}, std.specs.List.{enumerate_from, flat_map, list_all}}
use Rattle.std.proofs.{lemmas.Bool.{and_from, and_parts, cond_both, not-true, not_from_false, or_parts}, lemmas.List.Folds.list_all-append}
use Rattle.war_types.specs.{Warrior.WarriorParts, declared.instr.Instr.Instr, declared.instr.Mode.Mode, declared.instr.Modifier.Modifier, declared.instr.Op.Op}
use Rattle.{redcode_text.specs.Vocabulary.{op_text, modifier_text}, mars_core.specs.{declared.round.Outcome.Outcome, declared.round.Side.Side}, koth_replay.specs.declared.event.Event.Event}
use Rattle.{koth_replay.specs.{declared.opening.Opening.Opening, Replay.ReplayParts}, koth_text.specs.Characters.{is_harmless, is_markup, is_page_byte, is_printable}}
use Rattle.koth_text.proofs.Ascii.{Pass, Ascii, both, each, weaker, page_byte, harmless_decimal, ascii_decimal, ascii_escaped}
use Rattle.koth_watch.specs.{declared.drawing.TheConstants.DRAWING_SCRIPT, declared.parts.TheConstants.{CONTROLS, END, HEAD, STYLE}, declared.script.TheConstants.ROUND_SCRIPT}
use Rattle.koth_watch.specs.Data.{cell_text, comma_before, data_text, event_at, event_text, events_text, opening_text, place_text, processes_text, side_text, start_text, turn_at, turn_text}
use Rattle.koth_watch.specs.{Data.turns_text, Heading.{cut_told, ending_text, outcome_text, round_told, sides_text, turns_told, warrior_text, warriors_text, whole_told, why_text, winner_text}}
use Rattle.{koth_replay.specs.declared.story.{Fall.Fall, Story.Story, Writer.Writer}, koth_watch.specs.declared.{sentence.Told.Told, shown.Form.Form}}
use Rattle.koth_watch.specs.Shown.{instruction_shown, mode_sign, operand_shown, operation_shown, turn_link, turn_named}
use Rattle.koth_watch.specs.Sentence.{end_text, fall_text, itself, left_text, loaded_text, place_named, processes_word, round_named, sentence_text, story_text, tie_named, tie_text, warrior_at}
use Rattle.koth_watch.specs.Sentence.{won_text, writer_text, wrote_text}
use Rattle.koth_watch.specs.{Instruction.{instruction_text, number_text, operand_text, sign_text}, Laws.is_data_byte, Page.{heading_text, round_page, scripts_text}}

-- ---- the data

abbrev Data : List ℕ → Type 0
Data text = Pass is_data_byte text

data_byte : (b : ℕ) → is_harmless b ≡ true → is_data_byte b ≡ true
data_byte b h =
    let none : is_markup b ≡ false = not-true (is_markup b) (and_parts (is_printable b) (not (is_markup b)) h).1 in
    let less : eqb b 60 ≡ false = (or_parts _ _ (or_parts _ _ (or_parts _ _ none).0).0).0 in
    and_from (is_page_byte b) (not (eqb b 60)) (page_byte b h) (not_from_false (eqb b 60) less)

data_decimal : (n : ℕ) → Data (decimal n)
data_decimal n = weaker is_harmless is_data_byte data_byte (decimal n) (harmless_decimal n)

data_op : (op : Op) → Data (op_text op)
data_op Op.Dat = refl
data_op Op.Mov = refl
data_op Op.Add = refl
data_op Op.Sub = refl
data_op Op.Mul = refl
data_op Op.Div = refl
data_op Op.Mdl = refl
data_op Op.Jmp = refl
data_op Op.Jmz = refl
data_op Op.Jmn = refl
data_op Op.Djn = refl
data_op Op.Seq = refl
data_op Op.Sne = refl
data_op Op.Slt = refl
data_op Op.Spl = refl
data_op Op.Nop = refl

data_modifier : (modifier : Modifier) → Data (modifier_text modifier)
data_modifier Modifier.A = refl
data_modifier Modifier.B = refl
data_modifier Modifier.AB = refl
data_modifier Modifier.BA = refl
data_modifier Modifier.F = refl
data_modifier Modifier.X = refl
data_modifier Modifier.I = refl

data_sign : (mode : Mode) → Data (sign_text mode)
data_sign Mode.Immediate = refl
data_sign Mode.Direct = refl
data_sign Mode.AIndirect = refl
data_sign Mode.BIndirect = refl
data_sign Mode.APre = refl
data_sign Mode.BPre = refl
data_sign Mode.APost = refl
data_sign Mode.BPost = refl

data_number : (core n : ℕ) → Data (number_text core n)
data_number core n =
    cond_both (ltb core (2 * n)) (codes "-" ++ decimal (core - n)) (decimal n) Data
    (λ _. both is_data_byte (codes "-") (decimal (core - n)) refl (data_decimal (core - n))) (λ _. data_decimal n)

data_operand : (core : ℕ) (mode : Mode) (n : ℕ) → Data (operand_text core mode n)
unfolding operand_text
data_operand core mode n = both is_data_byte (sign_text mode) (number_text core n) (data_sign mode) (data_number core n)

data_instruction : (core : ℕ) (i : Instr) → Data (instruction_text core i)
unfolding instruction_text
data_instruction core i = simp (list_all-append, data_op, data_modifier, data_operand)

data_side : (side : Side) → Data (side_text side)
data_side Side.First = refl
data_side Side.Second = refl

data_event : (core : ℕ) (event : Event) → Data (event_text core event)
unfolding cell_text turn_text
data_event core (Event.Turn side at) = simp (list_all-append, data_side, data_decimal)
data_event core (Event.Cell at i) = simp (list_all-append, data_decimal, data_instruction)
data_event core (Event.Process at) = data_decimal at

data_comma : (place : ℕ) → Data (comma_before place)
data_comma zero = refl
data_comma (suc place) = refl

data_event_at : (core place : ℕ) (event : Event) → Data (event_at core place event)
data_event_at core place event = both is_data_byte (comma_before place) (event_text core event) (data_comma place) (data_event core event)

data_events : (core : ℕ) (es : List Event) → Data (events_text core es)
unfolding events_text
data_events core es =
    let f = λ (p : ℕ × Event). event_at core p.0 p.1 in
    let all : Data (flat_map f (enumerate_from 0 es)) = each is_data_byte f (λ p. data_event_at core p.0 p.1) (enumerate_from 0 es) in
    simp (list_all-append, all)

data_turn_at : (core place : ℕ) (turn : List Event) → Data (turn_at core place turn)
unfolding turn_at
data_turn_at core place turn = simp (list_all-append, data_comma, data_events)

data_turns : (core : ℕ) (turns : List (List Event)) → Data (turns_text core turns)
data_turns core turns = each is_data_byte (λ (p : ℕ × List Event). turn_at core p.0 p.1) (λ p. data_turn_at core p.0 p.1) (enumerate_from 0 turns)

data_opening : (o : Opening) → Data (opening_text o)
unfolding opening_text place_text processes_text
data_opening o = simp (list_all-append, data_decimal, data_side)

data_start : (o : Opening) (loaded : List Event) → Data (start_text o loaded)
unfolding start_text
data_start o loaded = simp (list_all-append, data_opening, data_events)

pub contained : (r : ReplayParts) → list_all is_data_byte (data_text r) ≡ true
unfolding data_text
contained r = simp (list_all-append, data_start, data_turns)

-- ---- the page

ascii_data : (r : ReplayParts) → Ascii (data_text r)
ascii_data r = weaker is_data_byte is_page_byte (λ b h. (and_parts (is_page_byte b) (not (eqb b 60)) h).0) (data_text r) (contained r)

ascii_sides : (older younger : WarriorParts) → Ascii (sides_text older younger)
unfolding sides_text
ascii_sides older younger = simp (list_all-append, ascii_escaped)

ascii_outcome : (older younger : WarriorParts) (o : Outcome) → Ascii (outcome_text older younger o)
unfolding winner_text
ascii_outcome older younger Outcome.First = simp (list_all-append, ascii_escaped)
ascii_outcome older younger Outcome.Second = simp (list_all-append, ascii_escaped)
ascii_outcome older younger Outcome.Tie = refl

ascii_turns_told : (is_cut : Bool) (turns : ℕ) → Ascii (turns_told is_cut turns)
unfolding cut_told whole_told
ascii_turns_told true turns = simp (list_all-append, ascii_decimal)
ascii_turns_told false turns = simp (list_all-append, ascii_decimal)

-- ---- the sentence

ascii_op : (op : Op) → Ascii (op_text op)
ascii_op op = weaker is_data_byte is_page_byte (λ b h. (and_parts (is_page_byte b) (not (eqb b 60)) h).0) (op_text op) (data_op op)

ascii_modifier : (modifier : Modifier) → Ascii (modifier_text modifier)
ascii_modifier modifier = weaker is_data_byte is_page_byte (λ b h. (and_parts (is_page_byte b) (not (eqb b 60)) h).0) (modifier_text modifier) (data_modifier modifier)

ascii_number : (core n : ℕ) → Ascii (number_text core n)
ascii_number core n = weaker is_data_byte is_page_byte (λ b h. (and_parts (is_page_byte b) (not (eqb b 60)) h).0) (number_text core n) (data_number core n)

ascii_sign : (mode : Mode) → Ascii (mode_sign Form.Page mode)
ascii_sign Mode.Immediate = refl
ascii_sign Mode.Direct = refl
ascii_sign Mode.AIndirect = refl
ascii_sign Mode.BIndirect = refl
ascii_sign Mode.APre = refl
ascii_sign Mode.BPre = refl
ascii_sign Mode.APost = refl
ascii_sign Mode.BPost = refl

ascii_operand : (core : ℕ) (mode : Mode) (n : ℕ) → Ascii (operand_shown Form.Page core mode n)
unfolding operand_shown
ascii_operand core mode n = both is_page_byte (mode_sign Form.Page mode) (number_text core n) (ascii_sign mode) (ascii_number core n)

ascii_operation : (i : Instr) → Ascii (operation_shown i)
unfolding operation_shown
ascii_operation i = simp (list_all-append, ascii_op, ascii_modifier)

ascii_shown : (core : ℕ) (i : Instr) → Ascii (instruction_shown Form.Page core i)
unfolding instruction_shown
ascii_shown core i = simp (list_all-append, ascii_operation, ascii_operand)

ascii_turn : (n : ℕ) → Ascii (turn_named Form.Page n)
unfolding turn_link
ascii_turn n = simp (list_all-append, ascii_decimal)

ascii_round_named : (round rounds : ℕ) → Ascii (round_named round rounds)
unfolding round_named
ascii_round_named round rounds = simp (list_all-append, ascii_decimal)

ascii_won : (winner : List ℕ) (told : Told) → Ascii (won_text Form.Page winner told)
unfolding won_text
ascii_won winner told = simp (list_all-append, ascii_escaped, ascii_round_named)

ascii_place : (at : ℕ) → Ascii (place_named at)
unfolding place_named
ascii_place at = simp (list_all-append, ascii_decimal)

ascii_end : (loser : List ℕ) (core : ℕ) (fall : Fall) → Ascii (end_text Form.Page loser core fall)
unfolding end_text
ascii_end loser core fall = simp (list_all-append, ascii_escaped, ascii_shown, ascii_place, ascii_turn)

ascii_itself : (loser side : Side) → Ascii (itself loser side)
ascii_itself Side.First Side.First = refl
ascii_itself Side.First Side.Second = refl
ascii_itself Side.Second Side.First = refl
ascii_itself Side.Second Side.Second = refl

ascii_wrote : (loser side : Side) (name : List ℕ) (turn : ℕ) → Ascii (wrote_text Form.Page loser side name turn)
unfolding wrote_text
ascii_wrote loser side name turn = simp (list_all-append, ascii_escaped, ascii_itself, ascii_turn)

ascii_loaded : (name : List ℕ) → Ascii (loaded_text Form.Page name)
unfolding loaded_text
ascii_loaded name = simp (list_all-append, ascii_escaped)

ascii_writer : (loser : Side) (older younger : WarriorParts) (w : Writer) → Ascii (writer_text Form.Page loser older younger w)
ascii_writer loser older younger (Writer.Turn side turn) = ascii_wrote loser side (warrior_at side older younger).name turn
ascii_writer loser older younger (Writer.Loaded side) = ascii_loaded (warrior_at side older younger).name
ascii_writer loser older younger Writer.Nobody = refl

ascii_fall : (older younger : WarriorParts) (told : Told) (fall : Fall) → Ascii (fall_text Form.Page older younger told fall)
unfolding fall_text
ascii_fall older younger told fall = simp (list_all-append, ascii_won, ascii_end, ascii_writer)

ascii_word : (n : ℕ) → Ascii (processes_word n)
ascii_word n = cond_both (eqb n 1) (codes " process") (codes " processes") Ascii (λ _. refl) (λ _. refl)

ascii_left : (name : List ℕ) (n : ℕ) → Ascii (left_text Form.Page name n)
unfolding left_text
ascii_left name n = simp (list_all-append, ascii_escaped, ascii_decimal, ascii_word)

ascii_tie : (older younger : WarriorParts) (told : Told) (a b : ℕ) → Ascii (tie_text Form.Page older younger told a b)
unfolding tie_text tie_named
ascii_tie older younger told a b = simp (list_all-append, ascii_decimal, ascii_left)

ascii_story : (older younger : WarriorParts) (told : Told) (story : Story) → Ascii (story_text Form.Page older younger told story)
ascii_story older younger told (Story.Fell fall) = ascii_fall older younger told fall
ascii_story older younger told (Story.Tied a b) = ascii_tie older younger told a b

ascii_why : (older younger : WarriorParts) (told : Told) → Ascii (why_text older younger told)
unfolding why_text
ascii_why older younger told =
    let sentence = sentence_text Form.Page older younger told in
    both is_page_byte (codes "<p>" ++ sentence) (codes "</p>\n") (both is_page_byte (codes "<p>") sentence refl (ascii_story older younger told told.story)) refl

ascii_ending : (older younger : WarriorParts) (told : Told) (r : ReplayParts) → Ascii (ending_text older younger told r)
unfolding ending_text round_told
ascii_ending older younger told r = simp (list_all-append, ascii_decimal, ascii_outcome, ascii_turns_told, ascii_why)

ascii_heading : (older younger : WarriorParts) (told : Told) (r : ReplayParts) → Ascii (heading_text older younger told r)
unfolding heading_text
ascii_heading older younger told r =
    let named = sides_text older younger in
    let first = HEAD.now ++ named in
    let second = first ++ STYLE.now ++ named ++ codes "</h1>\n" in
    both is_page_byte second (ending_text older younger told r)
    (both is_page_byte (first ++ STYLE.now ++ named) (codes "</h1>\n")
    (both is_page_byte (first ++ STYLE.now) named
    (both is_page_byte first STYLE.now (both is_page_byte HEAD.now named refl (ascii_sides older younger)) refl) (ascii_sides older younger)) refl)
    (ascii_ending older younger told r)

ascii_warriors : (older younger : WarriorParts) → Ascii (warriors_text older younger)
unfolding warrior_text warriors_text
ascii_warriors older younger = simp (list_all-append, ascii_escaped)

ascii_scripts : Ascii scripts_text
unfolding scripts_text
ascii_scripts = both is_page_byte ROUND_SCRIPT.now DRAWING_SCRIPT.now refl refl

pub ascii : (older younger : WarriorParts) (told : Told) (r : ReplayParts) → list_all is_page_byte (round_page older younger told r) ≡ true
unfolding round_page
ascii older younger told r =
    let heading = heading_text older younger told r in
    let first = heading ++ warriors_text older younger in
    let second = first ++ CONTROLS.now in
    let third = second ++ data_text r in
    both is_page_byte (third ++ scripts_text) END.now
    (both is_page_byte third scripts_text
    (both is_page_byte second (data_text r)
    (both is_page_byte first CONTROLS.now
    (both is_page_byte heading (warriors_text older younger) (ascii_heading older younger told r) (ascii_warriors older younger)) refl)
    (ascii_data r)) ascii_scripts) refl

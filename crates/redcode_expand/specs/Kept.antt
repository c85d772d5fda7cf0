-- Counts of blocks that were worked out, until a counter or CURLINE changes. This is what the code keeps, and no part of the definition.
use Rattle.std.specs.Prelude.{◌≡◌, ℕ, ◌<◌, ◌≤◌, ◌^◌, nat_eq, if◌then◌else◌, List, [], ◌∷◌, length, drop, Option, Some, None, Ok, slice_index_or}
use Rattle.{war_types.specs.declared.settings.RawSettings.RawSettings, redcode_text.specs.Tokens.Piece, redcode_lines.specs.Line.{SourceLine, is_name}}
use Rattle.redcode_copies.specs.Counter.{Counter, in_copies}
use Rattle.redcode_expand.specs.{Walk.{WalkState, copies_of}, Marks.line_in, declared.counts.Stamped.Stamped}

-- what is kept of the line at this index
abbrev pub kept_at : List (Option ℕ) → ℕ → Option ℕ
kept_at counts at = slice_index_or counts at None

-- the count, if it was worked out in this epoch
abbrev pub latest_of : ℕ → Stamped → Option ℕ
latest_of epoch stamped = if nat_eq stamped.epoch epoch then Some stamped.copies else None

-- no epoch after this one
abbrev pub IsStamped : ℕ → Stamped → Type 0
IsStamped epoch stamped = stamped.epoch ≤ epoch

-- the name before a FOR; empty if there is none
abbrev pub counter_before : List Piece → List ℕ
counter_before [] = []
counter_before (token ∷ tokens) = if is_name token.kind then token.text else []

-- under these counters, the tokens of this FOR line ask for n copies in this state
pub record IsLatest (s : RawSettings) (counters : List Counter) (st : WalkState) (line : SourceLine) (n : ℕ) : Type 0 where
  pub count : copies_of s 0 st.before st.names.equs (drop 1 (in_copies counters line).tokens) ≡ Ok n
  pub few : n < 2 ^ 63

-- what is kept holds under these counters in this state
pub record AreKept (s : RawSettings) (lines : List SourceLine) (counters : List Counter) (st : WalkState) (counts : List (Option ℕ)) : Type 0 where
  pub room : length counts ≡ length lines
  pub kept : (at : ℕ) → (n : ℕ) → at < length lines → kept_at counts at ≡ Some n → IsLatest s counters st (line_in lines at) n

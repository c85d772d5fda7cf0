-- The table of a hill, with the matrix of its matches or without.
use Rattle.std.proofs.Common.{◌≡◌, ◌∙◌, ℕ, ◌<◌, ◌≤◌, Bool, true, false, true≢false, nat_lt, List, ◌++◌, Option, None, Some, Ok, Err, ap, append_assoc, codes, subst, sym}
use Rattle.{std.proofs.lemmas.Bool.{cond-false, cond-true, le-ltb, lt-ltb}, koth_hill.specs.Kept.{Kept, table_kept}}
use Rattle.{koth_protocol.specs.{Matches.matches_text, Table.show_text}, koth_views.specs.{Matrix.matches_view, Standing.hill_view}}
use Rattle.{koth_words.specs.declared.requests.{Shown.Shown, View.View}, koth_keeping.specs.Answers.{Answers, Outcome}}
use Rattle.koth_hills.specs.{Hills.{SaysSeen, SaysShown, SaysSight, SaysWarrior, shown_lines, shown_matrix, shown_table, sight_of}, Width.{longest_line, terminal_width}}

pub shown_with : (matches : Bool) (hill : Kept) (shown matrix items : List ℕ) → matches ≡ true → shown ≡ show_text (table_kept hill)
    → matrix ≡ matches_text hill → items ≡ shown ++ matrix → items ≡ shown_lines matches hill
shown_with true hill shown matrix items asked table_is matrix_is is = is ∙ ap (λ t. t ++ matrix) table_is ∙ ap (λ t. show_text (table_kept hill) ++ t) matrix_is
shown_with false hill shown matrix items asked table_is matrix_is is = absurd (true≢false (sym asked))

pub shown_alone : (matches : Bool) (hill : Kept) (items : List ℕ) → matches ≡ false → items ≡ show_text (table_kept hill) → items ≡ shown_lines matches hill
shown_alone true hill items asked is = absurd (true≢false asked)
shown_alone false hill items asked is = is

-- the table for people, an empty line and the matrix
pub table_of_parts : (hill : Kept) (table more matrix items : List ℕ) → table ≡ hill_view hill → more ≡ table ++ codes "\n" → matrix ≡ shown_matrix hill
    → items ≡ more ++ matrix → items ≡ shown_table true hill
table_of_parts hill table more matrix items table_is more_is matrix_is is =
    is ∙ ap (λ t. t ++ matrix) (more_is ∙ ap (λ t. t ++ codes "\n") table_is) ∙ append_assoc (hill_view hill) (codes "\n") matrix
    ∙ ap (λ t. hill_view hill ++ (codes "\n" ++ t)) matrix_is

-- the matrix for people, by the width of its columns
module _ (hill : Kept) (width : ℕ) (columns : List ℕ) (columns_are : columns ≡ matches_view hill) (width_is : width ≡ longest_line columns) where
  abbrev wide : Bool
  wide = nat_lt terminal_width (longest_line (matches_view hill))

  same_width : width ≡ longest_line (matches_view hill)
  same_width = width_is ∙ ap longest_line columns_are

  pub without_room : terminal_width < width → shown_matrix hill ≡ matches_text hill
  without_room wider =
      cond-true wide (matches_text hill) (matches_view hill)
      (lt-ltb terminal_width (longest_line (matches_view hill)) (subst (λ n. terminal_width < n) same_width wider))

  pub with_room : width ≤ terminal_width → columns ≡ shown_matrix hill
  with_room narrow =
      columns_are ∙ sym (cond-false wide (matches_text hill) (matches_view hill)
      (le-ltb terminal_width (longest_line (matches_view hill)) (subst (λ n. n ≤ terminal_width) same_width narrow)))

-- ---- what is to be seen of some hill

pub seen_of : (shown : Shown) (view : View) (hill : Kept) (r : Outcome) → shown.entry ≡ None → Answers (SaysSight view (sight_of shown) hill) r
    → Answers (SaysShown view (sight_of shown)) r
seen_of shown view hill (Ok answer) none says = (hill, subst (λ entry. SaysSeen entry view (sight_of shown) hill answer) (sym none) says)
seen_of shown view hill (Err trouble) none of_hill = of_hill

pub warrior_of : (shown : Shown) (view : View) (entry : ℕ) (hill seen : Kept) (r : Outcome) → shown.entry ≡ Some entry → seen ≡ hill → Answers (SaysWarrior entry seen) r
    → Answers (SaysShown view (sight_of shown)) r
warrior_of shown view entry hill seen (Ok answer) some is says = (seen, subst (λ e. SaysSeen e view (sight_of shown) seen answer) (sym some) says)
warrior_of shown view entry hill seen (Err trouble) some is of_hill = of_hill

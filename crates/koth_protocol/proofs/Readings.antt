-- What a line does to a reading, if only its beginning is kept.
use Rattle.std.proofs.Common.{◌≡◌, ◌≢◌, ◌⊎◌, inl, inr, ℕ, ◌+◌, ◌-◌, ◌<◌, ◌≤◌, ◌==◌, ◌&&◌, ◌||◌, not, Bool, true, false, if◌then◌else◌, suc, List, [], ◌∷◌, ◌++◌, length, take, get_or, eqb-true, Option}
use Rattle.{std.proofs.Common.{None, Some, refl, sym, ap, append-nil, append_assoc, subst, ◌∙◌, arith, codes}, std.specs.{List.list_all, Str.bytes_eq}, std.proofs.lemmas.List.{take-take, take_all, length-take-le}}
use Rattle.{std.proofs.{lemmas.Bool.cases_lt, lemmas.Bool.Decides.eqb_tells}, koth_protocol.specs.{Lines.{lines_from, without_dot, without_return}, Request.{is_foreign, is_sent, names_host, names_method}}}
use Rattle.koth_protocol.specs.{Commands.{Reader, kept_source, read_from, with_line, word_of}, Kept.kept, Reading.{IsReading, IsSourceKept, Reads, TakesCommand, TakesSourceLine, commands_met}}
use Rattle.{koth_protocol.specs.{declared.script.Met.Met, declared.script.Script.Script, declared.script.Word.Word}, koth_protocol.proofs.Cuts.{Same, same_append, same_dot, same_entry, same_return}}

-- ---- the code's line without its carriage return

pub ends_return : (xs : List ℕ) → 0 < length xs → get_or xs (length xs - 1) 0 ≡ 13 → take (length xs - 1) xs ≡ without_return xs
ends_return [] some is = absurd (omega (arith, some))
ends_return (x ∷ xs) some is =
    let last : length (x ∷ xs) - 1 ≡ length xs = omega arith in
    ap (λ n. take n (x ∷ xs)) last ∙ at x xs (ap (λ n. get_or (x ∷ xs) n 0) (sym last) ∙ is)
  where
    at : (x : ℕ) (xs : List ℕ) → get_or (x ∷ xs) (length xs) 0 ≡ 13 → take (length xs) (x ∷ xs) ≡ without_return (x ∷ xs)
    at x [] is = rw is refl
    at x (y ∷ ys) is = ap (λ l. x ∷ l) (at y ys is)

pub ends_otherwise : (xs : List ℕ) → get_or xs (length xs - 1) 0 ≢ 13 → xs ≡ without_return xs
ends_otherwise [] is = refl
ends_otherwise (x ∷ xs) is =
    let last : length (x ∷ xs) - 1 ≡ length xs = omega arith in
    at x xs (λ e. is (ap (λ n. get_or (x ∷ xs) n 0) last ∙ e))
  where
    one : (x : ℕ) (b : Bool) → (x == 13) ≡ b → x ≢ 13 → x ∷ [] ≡ (if b then [] else x ∷ [])
    one x true e other = absurd (other (eqb-true x 13 e))
    one x false e other = refl

    at : (x : ℕ) (xs : List ℕ) → get_or (x ∷ xs) (length xs) 0 ≢ 13 → x ∷ xs ≡ without_return (x ∷ xs)
    at x [] is = one x (x == 13) refl is
    at x (y ∷ ys) is = ap (λ l. x ∷ l) (at y ys is)

-- ---- words of a line that is cut

and_false : (b : Bool) → (b && false) ≡ false
and_false true = refl
and_false false = refl

differs : (xs ys : List ℕ) → length xs ≢ length ys → bytes_eq xs ys ≡ false
differs [] [] other = absurd (other refl)
differs [] (y ∷ ys) other = refl
differs (x ∷ xs) [] other = refl
differs (x ∷ xs) (y ∷ ys) other = rw (differs xs ys (λ e. other (ap suc e))) (and_false (x == y))

long_return : (xs : List ℕ) → length xs ≤ length (without_return xs) + 1
long_return [] = omega arith
long_return (b ∷ []) = omega arith
long_return (b ∷ c ∷ cs) = omega (arith, long_return (c ∷ cs))

-- a line that is none of the three words
abbrev other_word : List ℕ → Word
other_word line = if is_foreign line then Word.Request else Word.Other

long_word : (xs : List ℕ) → 100 < length xs → word_of (without_return xs) ≡ other_word (without_return xs)
long_word xs long =
    let longer = long_return xs in
    rw (
      differs (without_return xs) (codes "SUBMIT") (λ e. absurd (omega (arith, long, longer, e))),
      differs (without_return xs) (codes "SHOW") (λ e. absurd (omega (arith, long, longer, e))),
      differs (without_return xs) (codes "QUIT") (λ e. absurd (omega (arith, long, longer, e))),
    ) refl

long_no_end : (xs : List ℕ) → 100 < length xs → bytes_eq (without_return xs) (codes ".") ≡ false
long_no_end xs long = let longer = long_return xs in differs (without_return xs) (codes ".") (λ e. absurd (omega (arith, long, longer, e)))

-- a line is kept whole, or both are long
whole_or_long : (line : List ℕ) → (kept line ≡ line) ⊎ ((65540 < length line) × (length (kept line) ≡ 65540))
whole_or_long line =
    elim (cases_lt 65540 (length line)) [
      | inl long ↦ inr (long, length-take-le 65540 line (omega (arith, long)))
      | inr short ↦ inl (take_all 65540 line short)
    ]

-- the beginning of a line stays if its end is cut off far after it
long_start : (count : ℕ) (line : List ℕ) → count ≤ 256 → 65540 < length line → take count (without_return (kept line)) ≡ take count (without_return line)
long_start count line few long =
    let cut : length (kept line) ≡ 65540 = length-take-le 65540 line (omega (arith, long)) in
    ap (take count) (sym (append-nil (without_return (kept line)))) ∙ same_return count (kept line) [] (omega (arith, cut, few))
    ∙ take-take count 65540 line (omega (arith, few))
    ∙ sym (same_return count line [] (omega (arith, long, few))) ∙ ap (take count) (append-nil (without_return line))

abbrev word_by_start : List ℕ → List ℕ → Word
word_by_start start front =
    if (names_method start || names_host start) || not (list_all is_sent front) then Word.Request else Word.Other

word_by_both : (line : List ℕ) → 65540 < length line → other_word (without_return (kept line)) ≡ other_word (without_return line)
word_by_both line long =
    ap (λ start. word_by_start start (take 256 (without_return (kept line)))) (long_start 8 line (omega arith) long)
    ∙ ap (λ front. word_by_start (take 8 (without_return line)) front) (long_start 256 line (omega arith) long)

pub word_kept : (line : List ℕ) → word_of (without_return (kept line)) ≡ word_of (without_return line)
word_kept line = elim (whole_or_long line) [
  | inl whole ↦ ap (λ l. word_of (without_return l)) whole
  | inr long ↦ long_word (kept line) (omega (arith, long.1)) ∙ word_by_both line long.0 ∙ sym (long_word line (omega (arith, long.0)))
]

pub end_kept : (line : List ℕ) → bytes_eq (without_return (kept line)) (codes ".") ≡ bytes_eq (without_return line) (codes ".")
end_kept line = elim (whole_or_long line) [
  | inl whole ↦ ap (λ l. bytes_eq (without_return l) (codes ".")) whole
  | inr long ↦ long_no_end (kept line) (omega (arith, long.1)) ∙ sym (long_no_end line (omega (arith, long.0)))
]

abbrev pub entry : List ℕ → List ℕ
entry line = without_dot (without_return line) ++ 10 ∷ []

pub entry_kept : (line : List ℕ) → Same 65537 (entry (kept line)) (entry line)
entry_kept line = elim (whole_or_long line) [
  | inl whole ↦ ap (λ l. take 65537 (entry l)) whole
  | inr long ↦ same_entry 65537 (kept line) (omega (arith, long.1)) ∙ same_dot 65537 65540 line (omega arith)
      ∙ sym (same_entry 65537 line (omega (arith, long.0)))
]

-- ---- what a line makes of the reading

-- the source's beginning after a line, of which less is kept
abbrev pub grown : List ℕ → List ℕ → List ℕ
grown bytes line = kept (kept (bytes ++ without_dot (without_return (kept line))) ++ 10 ∷ [])

grown_kept : (bytes source line : List ℕ) → kept_source bytes ≡ kept_source source
    → kept_source (grown bytes line) ≡ kept_source (with_line source (without_return line))
grown_kept bytes source line is =
    let front = bytes ++ without_dot (without_return (kept line)) in
    let cut_end = take-take 65537 65540 (kept front ++ 10 ∷ []) (omega arith) in
    let cut_front : Same 65537 (kept front ++ 10 ∷ []) (front ++ 10 ∷ []) =
    same_append 65537 (kept front) front (10 ∷ []) (10 ∷ []) (take-take 65537 65540 front (omega arith)) refl in
    let moved = ap (take 65537) (append_assoc bytes (without_dot (without_return (kept line))) (10 ∷ [])) in
    let back = ap (take 65537) (append_assoc source (without_dot (without_return line)) (10 ∷ [])) in
    cut_end ∙ cut_front ∙ moved ∙ same_append 65537 bytes source (entry (kept line)) (entry line) is (entry_kept line) ∙ sym back

not_equal : (a b : ℕ) → a ≢ b → (a == b) ≡ false
not_equal a b other = elim (eqb_tells a b) [ inl same ↦ absurd (other same.1) | inr differ ↦ differ.0 ]

module _ {A : Type 0} where
  -- a line that leaves no source under way
  no_source : (script : Script A) (line : List ℕ) (source : Option (List ℕ)) (m : Met) → script.line ≡ [] → script.in_source ≡ false
      → ((reader : Reader) (more : List ℕ) → read_from reader source (lines_from line (10 ∷ more))
      ≡ commands_met reader m script.source (read_from reader None (lines_from [] more)))
      → Reads line source 10 m script
  no_source script line source m empty out commands = record {
    new_line = [];
    new_source = None;
    reading = record { line_kept = empty; source_kept = rw out tt };
    commands = commands;
  }

  command_line : (script : Script A) (line : List ℕ) (m : Met) → script.line ≡ []
      → TakesCommand (without_return (kept line)) m script.in_source script.source → Reads line None 10 m script
  command_line script line Met.Nothing empty takes = record {
    new_line = [];
    new_source = Some [];
    reading = record { line_kept = empty; source_kept = rw (takes.1, takes.2) refl };
    commands = λ reader more. rw (sym (word_kept line) ∙ takes.0) refl;
  }
  command_line script line Met.Submit empty takes = absurd takes
  command_line script line Met.Show empty takes = no_source script line None Met.Show empty takes.1 (λ reader more. rw (sym (word_kept line) ∙ takes.0) refl)
  command_line script line Met.Quit empty takes = no_source script line None Met.Quit empty takes.1 (λ reader more. rw (sym (word_kept line) ∙ takes.0) refl)
  command_line script line Met.Request empty takes = no_source script line None Met.Request empty takes.1 (λ reader more. rw (sym (word_kept line) ∙ takes.0) refl)
  command_line script line Met.Bad empty takes = no_source script line None Met.Bad empty takes.1 (λ reader more. rw (sym (word_kept line) ∙ takes.0) refl)

  source_line : (script : Script A) (bytes line source : List ℕ) (m : Met) → script.line ≡ [] → kept_source bytes ≡ kept_source source
      → TakesSourceLine (without_return (kept line)) bytes m script.in_source script.source → Reads line (Some source) 10 m script
  source_line script bytes line source Met.Nothing empty is takes = record {
    new_line = [];
    new_source = Some (with_line source (without_return line));
    reading = record { line_kept = empty; source_kept = rw (takes.1, takes.2) (grown_kept bytes source line is) };
    commands = λ reader more. rw (sym (end_kept line) ∙ takes.0) refl;
  }
  source_line script bytes line source Met.Submit empty is takes =
      no_source script line (Some source) Met.Submit empty takes.1 (λ reader more. rw (sym (end_kept line) ∙ takes.0, takes.2, is) refl)
  source_line script bytes line source Met.Show empty is takes = absurd takes
  source_line script bytes line source Met.Quit empty is takes = absurd takes
  source_line script bytes line source Met.Request empty is takes = absurd takes
  source_line script bytes line source Met.Bad empty is takes = absurd takes

  -- the end of a line while a command is due
  pub command_ends : (old script : Script A) (cut : List ℕ) (m : Met) → old.in_source ≡ false → cut ≡ without_return old.line → script.line ≡ []
      → TakesCommand cut m script.in_source script.source
      → (line : List ℕ) (source : Option (List ℕ)) → IsReading old line source → Reads line source 10 m script
  command_ends old script cut m due is empty takes line source reading =
      by old.in_source due source reading.source_kept
    where
      same : cut ≡ without_return (kept line)
      same = is ∙ ap without_return reading.line_kept

      by : (b : Bool) → b ≡ false → (source : Option (List ℕ)) → IsSourceKept b old.source source → Reads line source 10 m script
      by true due source kept_so = absurd (cc)
      by false due (Some s) kept_so = absurd kept_so
      by false due None kept_so = command_line script line m empty (subst (λ l. TakesCommand l m script.in_source script.source) same takes)

  -- the end of a line of a source
  pub source_ends : (old script : Script A) (cut : List ℕ) (m : Met) → old.in_source ≡ true → cut ≡ without_return old.line → script.line ≡ []
      → TakesSourceLine cut old.source m script.in_source script.source
      → (line : List ℕ) (source : Option (List ℕ)) → IsReading old line source → Reads line source 10 m script
  source_ends old script cut m under is empty takes line source reading =
      by old.in_source under source reading.source_kept
    where
      same : cut ≡ without_return (kept line)
      same = is ∙ ap without_return reading.line_kept

      by : (b : Bool) → b ≡ true → (source : Option (List ℕ)) → IsSourceKept b old.source source → Reads line source 10 m script
      by false under source kept_so = absurd (cc)
      by true under None kept_so = absurd kept_so
      by true under (Some s) kept_so =
          source_line script old.source line s m empty kept_so (subst (λ l. TakesSourceLine l old.source m script.in_source script.source) same takes)

  -- another byte of a line
  pub byte_comes : (old script : Script A) (byte : ℕ) → byte ≢ 10 → script.line ≡ kept (old.line ++ byte ∷ []) → script.source ≡ old.source
      → script.in_source ≡ old.in_source → (line : List ℕ) (source : Option (List ℕ)) → IsReading old line source → Reads line source byte Met.Nothing script
  byte_comes old script byte other is same_source same_state line source reading = record {
    new_line = line ++ byte ∷ [];
    new_source = source;
    reading = record {
      line_kept = is ∙ ap (λ l. kept (l ++ byte ∷ [])) reading.line_kept
          ∙ same_append 65540 (kept line) line (byte ∷ []) (byte ∷ []) (take-take 65540 65540 line (omega arith)) refl;
      source_kept = rw (same_source, same_state) reading.source_kept;
    };
    commands = λ reader more. rw (not_equal byte 10 other) refl;
  }

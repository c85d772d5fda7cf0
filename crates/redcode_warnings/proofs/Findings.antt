-- What is found in lines, for `findings_by`.
use Rattle.std.proofs.Common.{◌≡◌, ℕ, List, [], Bool, ◌++◌, refl, ap}
use Rattle.{redcode_lines.specs.Line.SourceLine, redcode_warnings.specs.{Named.{is_among, names_of}, Start.{Starts, starts_of}, Warnings.{Noted, missing, noted_by, noted_lines, noted_unread}}}

-- what is found depends on which names are in use, and not on how they are kept
same-findings : (is_named is_named' : List ℕ → Bool) (starts : Starts) (lines : List SourceLine) → ((name : List ℕ) → is_named name ≡ is_named' name) → noted_lines is_named starts lines ≡ noted_lines is_named' starts lines
same-findings is_named is_named' starts lines same = ap (λ (named : List ℕ → Bool). noted_lines named starts lines) (λ i name. same name i)

pub all-found : (is_named : List ℕ → Bool) (starts : Starts) (read unread : List SourceLine) (none of_all of_lines found : List Noted) → none ≡ [] → ((name : List ℕ) → is_named name ≡ is_among (names_of read) name)
    → starts ≡ starts_of read → of_all ≡ none ++ missing read → of_lines ≡ of_all ++ noted_lines is_named starts read → found ≡ of_lines ++ noted_unread unread → found ≡ noted_by read unread
all-found is_named starts read unread none of_all of_lines found none-is named-is starts-is of_all-is of_lines-is found-is =
    rw (found-is, of_lines-is, of_all-is, none-is, starts-is, same-findings is_named (is_among (names_of read)) (starts_of read) read named-is) refl

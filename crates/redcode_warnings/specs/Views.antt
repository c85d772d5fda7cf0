-- What a contract sees of names and findings in memory.
use Rattle.std.specs.{Prelude.{ℕ, Bool, List, map}, Borrow.Bor, Ordering.nat_cmp, Cmp.Lexicographic.slice_cmp}
use Rattle.std.specs.BTreeSet.{BTreeSet, contains_by}
use Rattle.redcode_warnings.specs.{declared.finding.Finding.Finding, Warnings.{Noted, noted}}

-- a name is in the set
abbrev pub has_name : BTreeSet (Bor (List ℕ)) → List ℕ → Bool
has_name names name = contains_by (λ key. slice_cmp nat_cmp name key.now) names

-- the kind and the line of a finding
abbrev pub note_of : Finding → Noted
note_of finding = noted finding.kind finding.line

abbrev pub notes : List Finding → List Noted
notes found = map note_of found

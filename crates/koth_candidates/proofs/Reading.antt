-- A source as its bytes come: for `sources`.
use Rattle.std.proofs.Common.{◌≡◌, ℕ, ◌≤◌, Bool, true, false, List, [], ◌∷◌, ◌++◌, take, length, Option, None, Some, Ok, refl, sym, ap, subst, ◌∙◌, append-nil, append_assoc, arith}
use Rattle.std.{specs.Io.KnownBytes.{Consumes, Keeps, IsAtEnd}, proofs.KnownBytes.{Consumes-nil, Consumes-trans}}
use Rattle.koth_protocol.specs.{Commands.{Command, Reader, commands_of, kept_source, read_from}, Lines.lines_from, Reading.{IsReading, Reads, commands_met}, declared.{script.Met.Met, script.Script.Script}}
use Rattle.koth_candidates.specs.{Sources.{IsAt, ReadsByte, TakesNext, TakesSource, opening}, declared.sources.Taken.Taken}

-- nothing was read
pub none_read : {A : Type 0} (script : Script A) → IsReading script [] None → IsAt script []
none_read script reading = record { line = []; source = None; reading = reading; rest = λ more. refl }

module _ {A : Type 0} (script new : Script A) (text : List ℕ) (byte : ℕ) (met : Met) (at : IsAt script text) (reads : Reads at.line at.source byte met new) where
  pub goes_on : met ≡ Met.Nothing → IsAt new (text ++ byte ∷ [])
  goes_on is = record {
    line = reads.new_line;
    source = reads.new_source;
    reading = reads.reading;
    rest = λ more.
        ap (λ l. read_from Reader.Session None (lines_from [] l)) (append_assoc text (byte ∷ []) more)
        ∙ at.rest (byte ∷ more) ∙ reads.commands Reader.Session more
        ∙ ap (λ m. commands_met Reader.Session m new.source (read_from Reader.Session reads.new_source (lines_from reads.new_line more))) is;
  }

  pub submits : met ≡ Met.Submit → commands_of (text ++ byte ∷ []) ≡ Command.Submit (kept_source new.source) ∷ []
  submits is =
      at.rest (byte ∷ []) ∙ reads.commands Reader.Session []
      ∙ ap (λ m. commands_met Reader.Session m new.source (read_from Reader.Session reads.new_source (lines_from reads.new_line []))) is

-- the bytes of a source so far
pub record SoFar {A : Type 0} (script : Script A) (is_begun : Bool) (i j : Option (List ℕ)) : Type 0 where
  pub bytes : List ℕ
  pub at : IsAt script (opening ++ bytes)
  pub taken : Consumes i j bytes
  pub fresh : is_begun ≡ false → bytes ≡ []

pub none_so_far : {A : Type 0} (script : Script A) (i : Option (List ℕ)) → IsAt script opening → SoFar script false i i
none_so_far script i at = record { bytes = []; at = subst (IsAt script) (sym (append-nil opening)) at; taken = Consumes-nil i; fresh = λ is. refl }

module _ {A : Type 0} (script new : Script A) (is_begun : Bool) (i j k : Option (List ℕ)) (byte : ℕ) (met : Met) (so_far : SoFar script is_begun i j)
    (read : Consumes j k (byte ∷ [])) where
  pub one_more : ((text : List ℕ) → IsAt script text → met ≡ Met.Nothing → IsAt new (text ++ byte ∷ [])) → met ≡ Met.Nothing → SoFar new true i k
  one_more goes is = record {
    bytes = so_far.bytes ++ byte ∷ [];
    at = subst (IsAt new) (append_assoc opening so_far.bytes (byte ∷ [])) (goes (opening ++ so_far.bytes) so_far.at is);
    taken = Consumes-trans i j k so_far.bytes (byte ∷ []) so_far.taken read;
    fresh = λ t. cc;
  }

  pub whole : ((text : List ℕ) → IsAt script text → met ≡ Met.Submit → commands_of (text ++ byte ∷ []) ≡ Command.Submit (kept_source new.source) ∷ [])
      → met ≡ Met.Submit → TakesSource (kept_source new.source) i k
  whole ends is = (
    so_far.bytes ++ byte ∷ [],
    ap commands_of (sym (append_assoc opening so_far.bytes (byte ∷ []))) ∙ ends (opening ++ so_far.bytes) so_far.at is,
    Consumes-trans i j k so_far.bytes (byte ∷ []) so_far.taken read,
  )

-- bytes that stay lose none
pub none_lost : (i j : Option (List ℕ)) → Keeps i j → Consumes i j []
none_lost None j kept = tt
none_lost (Some xs) None kept = kept
none_lost (Some xs) (Some ys) kept = sym kept

-- one byte was read
pub one_byte : (bytes : List ℕ) (count byte : ℕ) → length bytes ≡ 1 → count ≤ 1 → (count ≡ 0 → ⊥) → bytes ≡ byte ∷ [] → take count bytes ≡ byte ∷ []
one_byte bytes count byte one few some is =
    let all : count ≡ 1 = omega (arith, few, some) in
    ap (λ n. take n bytes) all ∙ ap (take 1) is

-- what was read, by cases

pub read_one : (t : Option ℕ) (byte : ℕ) (i j : Option (List ℕ)) → t ≡ Some byte → ReadsByte (Ok t) i j → Consumes i j (byte ∷ [])
read_one t byte i j is reads = subst (λ x. ReadsByte (Ok x) i j) is reads

pub takes_source : {A : Type 0} (t : Taken A) (script : Script A) (i j : Option (List ℕ)) → t ≡ Taken.Source script → TakesNext (Ok t) i j → TakesSource (kept_source script.source) i j
takes_source t script i j is takes = subst (λ x. TakesNext (Ok x) i j) is takes

pub takes_none : {A : Type 0} (t : Taken A) (i j : Option (List ℕ)) → t ≡ Taken.End → TakesNext (Ok t) i j → Consumes i j [] × IsAtEnd j
takes_none t i j is takes = subst (λ x. TakesNext (Ok x) i j) is takes

pub takes_cut : {A : Type 0} (t : Taken A) (i j : Option (List ℕ)) → t ≡ Taken.Cut → TakesNext (Ok t) i j → (bytes : List ℕ) × Consumes i j bytes
takes_cut t i j is takes = subst (λ x. TakesNext (Ok x) i j) is takes

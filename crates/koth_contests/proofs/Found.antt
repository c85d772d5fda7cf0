-- The sources that words stand for, one after the other.
use Rattle.std.proofs.Common.{◌≡◌, inl, inr, ℕ, ◌+◌, ◌<◌, List, [], ◌∷◌, ◌++◌, length, take, get_or, All, refl, sym, ap, ◌∙◌, append-nil, append_assoc}
use Rattle.{std.specs.List.flat_map, std.proofs.lemmas.{List.{map_push, take_more}, List.Concat.flat_map-append, List.Elements.{All-nil, All-push}}}
use Rattle.{koth_words.specs.declared.requests.Source.Source, koth_commands.specs.Streams.source_name, koth_contests.specs.Opponents.{AreFiles, IsIn, IsPart, Part, PutsFiles, PutsIn}}

-- names in a folder were put after the old ones
abbrev pub InFolder : List ℕ → List (List ℕ) → List (List ℕ) → Type 0
InFolder folder old new = (files : List (List ℕ)) × All (IsIn folder) files × (new ≡ old ++ files)

pub none_in : (folder : List ℕ) (old : List (List ℕ)) → InFolder folder old old
none_in folder old = ([], All-nil (IsIn folder), sym (append-nil old))

pub one_in : (folder : List ℕ) (old mid new : List (List ℕ)) → InFolder folder old mid → PutsIn folder mid new → InFolder folder old new
one_in folder old mid new (files, are, so_far) (file, is, puts) = (
  files ++ file ∷ [],
  All-push (IsIn folder) files file are is,
  puts ∙ ap (λ l. l ++ file ∷ []) so_far ∙ append_assoc old files (file ∷ []),
)

pub all_in : (folder : List ℕ) (old new : List (List ℕ)) → InFolder folder old new → PutsFiles folder old new
all_in folder old new (files, are, so_far) = (files, inr are, so_far)

pub only : (word : List ℕ) (old new : List (List ℕ)) → new ≡ old ++ word ∷ [] → PutsFiles word old new
only word old new is = (word ∷ [], inl refl, is)

-- ---- the names that the first words stand for

pub no_words : (words : List Source) → AreFiles (take 0 words) []
no_words words = record { parts = []; given = refl; stand = All-nil IsPart; all = refl }

pub one_word : (words : List Source) (place : ℕ) (d : Source) (old new : List (List ℕ)) → place < length words → AreFiles (take place words) old
    → PutsFiles (source_name (get_or words place d)) old new → AreFiles (take (place + 1) words) new
one_word words place d old new within so_far (files, stands, puts) =
    let word = get_or words place d in
    let part : Part = record { word = word; files = files } in
    record {
      parts = so_far.parts ++ part ∷ [];
      given = map_push (λ (p : Part). p.word) so_far.parts part ∙ ap (λ l. l ++ word ∷ []) so_far.given ∙ sym (take_more words place d within);
      stand = All-push IsPart so_far.parts part so_far.stand stands;
      all = puts ∙ ap (λ l. l ++ files) so_far.all ∙ ap (λ l. flat_map (λ (p : Part). p.files) so_far.parts ++ l) (sym (append-nil files))
          ∙ sym (flat_map-append (λ (p : Part). p.files) so_far.parts (part ∷ []));
    }

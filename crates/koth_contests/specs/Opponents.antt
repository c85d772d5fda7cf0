-- The sources that the words for opponents stand for.
use Rattle.std.specs.{Prelude.{◌≡◌, ◌⊎◌, ℕ, List, [], ◌∷◌, ◌++◌, map, All, string_bytes}, List.flat_map}
use Rattle.{koth_words.specs.declared.requests.Source.Source, koth_commands.specs.Streams.source_name, koth_contests.specs.declared.opponents.Opponent.Opponent}

-- what messages call the sources of opponents
abbrev pub names_of : {A : Type 0} → List (Opponent A) → List (List ℕ)
names_of {A} opponents = map (λ (o : Opponent A). string_bytes o.name) opponents

-- the name of something in a folder
abbrev pub IsIn : List ℕ → List ℕ → Type 0
IsIn folder file = (rest : List ℕ) × (file ≡ folder ++ rest)

-- the names of the sources that a word stands for: the word itself, or names of files in the folder of that name
abbrev pub StandsFor : List ℕ → List (List ℕ) → Type 0
StandsFor word files = (files ≡ word ∷ []) ⊎ All (IsIn word) files

-- the names that the word stands for were put after the old ones
abbrev pub PutsFiles : List ℕ → List (List ℕ) → List (List ℕ) → Type 0
PutsFiles word old new = (files : List (List ℕ)) × StandsFor word files × (new ≡ old ++ files)

-- one name in this folder was put after the old ones
abbrev pub PutsIn : List ℕ → List (List ℕ) → List (List ℕ) → Type 0
PutsIn folder old new = (file : List ℕ) × IsIn folder file × (new ≡ old ++ file ∷ [])

-- a word, and the names of the sources that it stands for
pub record Part : Type 0 where
  pub word : Source
  pub files : List (List ℕ)

abbrev pub IsPart : Part → Type 0
IsPart p = StandsFor (source_name p.word) p.files

-- the names of all the sources that words stand for, in the order of the words
pub record AreFiles (words : List Source) (files : List (List ℕ)) : Type 0 where
  pub parts : List Part
  pub given : map (λ (p : Part). p.word) parts ≡ words
  pub stand : All IsPart parts
  pub all : files ≡ flat_map (λ (p : Part). p.files) parts

-- What is done with a file of sectors, and what each call of it adds.
use Rattle.std.specs.Prelude.{ℕ, List, ◌∷◌, Result, MatchResult}
use Rattle.hill_file.specs.declared.sector_file.Headers.{Headers}

-- Both headers were read, and were these. This content was read from a sector, or written to it. A write of it failed,
-- so it may have been written. All that was written was synced, or a sync failed. The file's name was synced.
pub data Done : Type 0 where
  Looked : Headers → Done
  Read : ℕ → List ℕ → Done
  Wrote : ℕ → List ℕ → Done
  Tried : ℕ → List ℕ → Done
  Synced : Done
  Unsynced : Done
  Named : Done

-- nothing is added
abbrev pub Stays : {F : Type 0} → (F → List Done → Type 0) → F → F → Type 0
Stays happened old new = (log : List Done) → happened old log → happened new log

-- this is added
abbrev pub Adds : {F : Type 0} → (F → List Done → Type 0) → Done → F → F → Type 0
Adds happened what old new = (log : List Done) → happened old log → happened new (what ∷ log)

-- the headers that were read are added
abbrev pub Looks : {F E : Type 0} → (F → List Done → Type 0) → F → Result Headers E → F → Type 0
Looks happened old result new =
    MatchResult result (λ headers. Adds happened (Done.Looked headers) old new) (λ _. Stays happened old new)

-- the content that was read is added
abbrev pub Reads : {F T E : Type 0} → (F → List Done → Type 0) → ℕ → F → List ℕ → Result T E → F
    → Type 0
Reads happened n old content result new =
    MatchResult result (λ _. Adds happened (Done.Read n content) old new) (λ _. Stays happened old new)

-- the content that was written is added, or that it may have been
abbrev pub Writes : {F T E : Type 0} → (F → List Done → Type 0) → ℕ → F → List ℕ → Result T E → F
    → Type 0
Writes happened n old content result new =
    MatchResult result (λ _. Adds happened (Done.Wrote n content) old new)
    (λ _. Adds happened (Done.Tried n content) old new)

-- a sync is added, or one that failed
abbrev pub Syncs : {F T E : Type 0} → (F → List Done → Type 0) → F → Result T E → F → Type 0
Syncs happened old result new =
    MatchResult result (λ _. Adds happened Done.Synced old new) (λ _. Adds happened Done.Unsynced old new)

-- a sync of the name is added
abbrev pub Names : {F T E : Type 0} → (F → List Done → Type 0) → F → Result T E → F → Type 0
Names happened old result new = MatchResult result (λ _. Adds happened Done.Named old new)
    (λ _. Stays happened old new)

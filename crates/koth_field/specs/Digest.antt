-- What tells a field from others: the SHA-256 of its warriors, by what they are called and by their load texts.
use Rattle.std.specs.{Prelude.{ℕ, List, ◌++◌, codes}, List.flat_map}
use Rattle.{hex.specs.Hex.encode_lower, sha2.specs.Sha256.sha256, redcode_asm.specs.LoadText.load_text}
use Rattle.{koth_commands.specs.Name.shown_name, koth_contests.specs.Lines.Entrant}

-- what a warrior is called in a line: its name, its author and its file
abbrev pub label_of : Entrant → List ℕ
label_of e = e.warrior.name ++ (codes "\t" ++ (e.warrior.author ++ (codes "\t" ++ shown_name e.file)))

-- a warrior in full: what it is called, and its load text
abbrev pub entrant_text : ℕ → Entrant → List ℕ
entrant_text core e = label_of e ++ (codes "\n" ++ load_text core e.warrior)

-- the warriors of a field in full, in their order
abbrev pub field_text : ℕ → List Entrant → List ℕ
field_text core entrants = flat_map (entrant_text core) entrants

-- the SHA-256 of that in hexadecimal digits
abbrev pub digest_of : ℕ → List Entrant → List ℕ
digest_of core entrants = encode_lower (sha256 (field_text core entrants))

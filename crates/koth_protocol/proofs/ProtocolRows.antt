-- Tables, matches and commands, computed.
use Rattle.{std.proofs.Common.{◌≡◌, ℕ, true, false, [], ◌∷◌, ◌++◌, replicate, codes, refl}, std.specs.Fmt.digits, war_types.specs.{declared.settings.RawSettings.RawSettings, Warrior.warrior_parts}}
use Rattle.{koth_hill.specs.{Hill.{Member, member_of}, Kept.{Kept, kept_of}}, koth_protocol.specs.{Commands.{Command, commands_of, commands_served}, Matches.matches_text, Request.{is_foreign, is_request}, Table.show_text}}

table_of_two : show_text (record { entry = 1; name = codes "Imp"; author = codes "A. K. Dewdney"; score = 2; age = 1 } ∷ record { entry = 2; name = codes "Unnamed"; author = codes "Anonymous"; score = 2; age = 0 } ∷ [])
    ≡ codes "1 1 2 1 Imp by A. K. Dewdney\n2 2 2 0 Unnamed by Anonymous\n.\n"
unfolding digits
table_of_two = refl

abbrev with_rounds : ℕ → RawSettings
with_rounds rounds = record { core = 8000; cycles = 80000; processes = 8000; length = 100; distance = 100; rounds = rounds; seed = 1; capacity = 20; read_limit = 8000; write_limit = 8000 }

abbrev entered : ℕ → Member
entered entry = member_of entry 0 (warrior_parts [] 0 [] [])

-- two on a hill, with what is kept of them
abbrev two_with : ℕ → ℕ → ℕ → ℕ → Kept
two_with rounds older younger ties =
    kept_of (with_rounds rounds) 2 (entered 1 ∷ entered 2 ∷ []) ([] ∷ (record { older_wins = older; younger_wins = younger; ties = ties } ∷ []) ∷ [])

matches_of_two : matches_text (two_with 10 7 2 1) ≡ codes "    1  2\n 1  -  7\n 2  2  -\n"
unfolding digits
matches_of_two = refl

-- the younger is the first, and the cells have as many places as the number of rounds
younger_first : matches_text (two_with 1000 250 650 100) ≡ codes "      1    2\n 1    -  650\n 2  250    -\n"
unfolding digits
younger_first = refl

-- the first, the second and the third by rank entered as 3, 1 and 2
matches_of_three : matches_text
    (kept_of (with_rounds 10) 3 (entered 1 ∷ entered 2 ∷ entered 3 ∷ [])
    ([] ∷ (record { older_wins = 6; younger_wins = 3; ties = 1 } ∷ []) ∷ (record { older_wins = 1; younger_wins = 9; ties = 0 } ∷ record { older_wins = 2; younger_wins = 7; ties = 1 } ∷ []) ∷ []))
    ≡ codes "    1  2  3\n 1  -  9  7\n 2  1  -  6\n 3  2  3  -\n"
unfolding digits
matches_of_three = refl

matches_of_none : matches_text (kept_of (with_rounds 10) 0 [] []) ≡ codes "  \n"
unfolding digits
matches_of_none = refl

-- a submission and a line that is none; the same cut before its last line; a carriage return, two of them, and a blank at the end; an
-- empty source; a line of two dots; a line without its line feed; nothing after the first `QUIT`
commands : (commands_of (codes "SUBMIT\nMOV 0,1\n.\nBOGUS\nQUIT\n") ≡ Command.Submit (codes "MOV 0,1\n") ∷ Command.Bad ∷ Command.Quit ∷ [])
    × (commands_of (codes "SUBMIT\nMOV 0,1\n") ≡ [])
    × (commands_of (codes "SHOW\r\n") ≡ Command.Show ∷ [])
    × (commands_of (codes "SHOW\r\r\n") ≡ Command.Bad ∷ [])
    × (commands_of (codes "SHOW \nQUIT\n") ≡ Command.Bad ∷ Command.Quit ∷ [])
    × (commands_of (codes "SUBMIT\n.\nQUIT\n") ≡ Command.Submit [] ∷ Command.Quit ∷ [])
    × (commands_of (codes "SUBMIT\n..\n.\r\nQUIT\n") ≡ Command.Submit (codes ".\n") ∷ Command.Quit ∷ [])
    × (commands_of (codes "SUBMIT\n...a\n.\n") ≡ Command.Submit (codes "..a\n") ∷ [])
    × (commands_of (codes "\nQUIT") ≡ Command.Bad ∷ [])
    × (commands_of (codes "QUIT\nSHOW\n") ≡ Command.Quit ∷ [])
commands = (refl, refl, refl, refl, refl, refl, refl, refl, refl, refl)

-- a method and a blank, `Host:` in any letter case; a method without a blank, in small letters, or longer by a letter; a blank before it
requests : (is_request (codes "POST / HTTP/1.1") ≡ true) × (is_request (codes "OPTIONS *") ≡ true) × (is_request (codes "hOST:127.0.0.1") ≡ true)
    × (is_request (codes "GET") ≡ false) × (is_request (codes "get /") ≡ false) × (is_request (codes "GETS /") ≡ false) × (is_request (codes " GET /") ≡ false)
    × (is_request (codes "SHOW") ≡ false) × (is_request [] ≡ false)
requests = (refl, refl, refl, refl, refl, refl, refl, refl, refl)

-- a record of TLS, an escape and a byte 127; the last of 256 bytes and the one after it; a tab and a carriage return; no bytes
foreign : (is_foreign (22 ∷ 3 ∷ 1 ∷ []) ≡ true) × (is_foreign (codes "SHOW" ++ 27 ∷ []) ≡ true) × (is_foreign (127 ∷ []) ≡ true)
    × (is_foreign (replicate 255 65 ++ 0 ∷ []) ≡ true) × (is_foreign (replicate 256 65 ++ 0 ∷ []) ≡ false)
    × (is_foreign (codes "SHOW\t\r") ≡ false) × (is_foreign (195 ∷ 164 ∷ []) ≡ false) × (is_foreign [] ≡ false)
foreign = (refl, refl, refl, refl, refl, refl, refl, refl)

-- a warrior that a page posts: a session reads it, and a service doesn't; so it is with one that a record of TLS has; a request within a source is a line of it
posted : (commands_of (codes "SHOW\nPOST / HTTP/1.1\r\nSUBMIT\nMOV 0,1\n.\n") ≡ Command.Show ∷ Command.Bad ∷ Command.Submit (codes "MOV 0,1\n") ∷ [])
    × (commands_served (codes "SHOW\nPOST / HTTP/1.1\r\nSUBMIT\nMOV 0,1\n.\n") ≡ Command.Show ∷ [])
    × (commands_served (codes "SUBMIT\nGET /\n.\nQUIT\n") ≡ Command.Submit (codes "GET /\n") ∷ Command.Quit ∷ [])
    × (commands_served (codes "QUIT\nGET /\n") ≡ Command.Quit ∷ [])
    × (commands_of (22 ∷ codes "\nSUBMIT\nMOV 0,1\n.\n") ≡ Command.Bad ∷ Command.Submit (codes "MOV 0,1\n") ∷ [])
    × (commands_served (codes "SHOW\n" ++ 22 ∷ codes "\nSUBMIT\nMOV 0,1\n.\n") ≡ Command.Show ∷ [])
posted = (refl, refl, refl, refl, refl, refl)

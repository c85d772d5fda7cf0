-- Small lines, computed. `json.loads` of Python gives these values of the texts on the right.
use Rattle.std.proofs.Common.{◌≡◌, ℕ, List, true, Option, Some, None, [], ◌∷◌, ◌++◌, codes, refl}
use Rattle.std.specs.{Char.encode_utf8, Fmt.digits, Str.{chars, is_utf8}, Str.Lossy.utf8_valid_len}
use Rattle.{war_types.specs.{declared.settings.RawSettings.RawSettings, Warrior.warrior_parts}, koth_match.specs.declared.bout.Bout.Bout}
use Rattle.koth_hill.specs.{declared.verdict.Verdict.Verdict, Hill.{Member, member_of}, Kept.{Kept, kept_of}}
use Rattle.koth_json.specs.{Keys.key_text, Objects.{field_text, further_field}, Reply.{audit_line, fell_line, judged_line, worn_line}, Strings.{mended, string_text}}

-- a quotation mark and a backslash; a tab, a line feed and the last control character; a letter of two bytes, and one of three, as they are;
-- a byte that no text has; three bytes of a character of four, a replacement each, and what is after them; and nothing
strings : (string_text (codes "a\"b\\c") ≡ codes "\"a\\\"b\\\\c\"")
    × (string_text (9 ∷ 10 ∷ 127 ∷ []) ≡ codes "\"\\u0009\\u000a\\u007f\"")
    × (string_text (0xC3 ∷ 0xA9 ∷ 0xE2 ∷ 0x82 ∷ 0xAC ∷ []) ≡ codes "\"" ++ 0xC3 ∷ 0xA9 ∷ 0xE2 ∷ 0x82 ∷ 0xAC ∷ codes "\"")
    × (string_text (120 ∷ 0xFF ∷ []) ≡ codes "\"x" ++ 0xEF ∷ 0xBF ∷ 0xBD ∷ codes "\"")
    × (string_text (0xF0 ∷ 0x9F ∷ 0x98 ∷ 121 ∷ []) ≡ codes "\"" ++ 0xEF ∷ 0xBF ∷ 0xBD ∷ 0xEF ∷ 0xBF ∷ 0xBD ∷ 0xEF ∷ 0xBF ∷ 0xBD ∷ codes "y\"")
    × (string_text [] ≡ codes "\"\"")
unfolding chars encode_utf8 is_utf8 mended utf8_valid_len
strings = (refl, refl, refl, refl, refl, refl)

-- an object with its type alone, one with numbers, and one of an audit that found nothing
objects : (worn_line ≡ codes "{\"type\":\"worn\"}\n")
    × (fell_line 12 0 ≡ codes "{\"type\":\"fell\",\"entry\":12,\"points\":0}\n")
    × (audit_line None ≡ codes "{\"type\":\"audit\",\"holds\":true}\n")
unfolding chars digits encode_utf8 field_text further_field is_utf8 key_text mended utf8_valid_len
objects = (refl, refl, refl)

-- a result that isn't its match's
untrue : audit_line (Some (record {
  older = 1;
  younger = 2;
  kept = record { older_wins = 2; younger_wins = 0; ties = 0 };
  fought = record { older_wins = 1; younger_wins = 1; ties = 0 };
}))
    ≡ codes "{\"type\":\"audit\",\"holds\":false,\"older\":1,\"younger\":2,\"kept_won\":2,\"kept_lost\":0,\"kept_tied\":0,"
    ++ codes "\"fought_won\":1,\"fought_lost\":1,\"fought_tied\":0}\n"
unfolding chars digits encode_utf8 field_text further_field is_utf8 key_text mended utf8_valid_len
untrue = refl

-- a hill of two. The first has 10 points, and the second 19
abbrev settings : RawSettings
settings =
    record { core = 8000; cycles = 80000; processes = 8000; length = 100; distance = 100; rounds = 10; seed = 1; capacity = 2; read_limit = 8000; write_limit = 8000 }

abbrev entered : ℕ → ℕ → List ℕ → Member
entered entry age name = member_of entry age (warrior_parts [] 0 name (codes "koth"))

abbrev two : Kept
two =
    kept_of settings 2 (entered 1 1 (codes "Imp") ∷ entered 2 0 (codes "Dwarf") ∷ [])
    ([] ∷ (record { older_wins = 3; younger_wins = 6; ties = 1 } ∷ []) ∷ [])

abbrev third : Option ℕ → Verdict
third falls = record { entry = 3; stays = true; falls = falls; score = 22; rank = 1; bouts = [] }

-- the points of who is pushed off are those of the table before it falls
placed : (judged_line two (third (Some 1))
    ≡ codes "{\"type\":\"placed\",\"entry\":3,\"rank\":1,\"points\":22,\"pushed_off\":1,\"pushed_off_name\":\"Imp\","
    ++ codes "\"pushed_off_author\":\"koth\",\"pushed_off_points\":10}\n")
    × (judged_line two (third None)
    ≡ codes "{\"type\":\"placed\",\"entry\":3,\"rank\":1,\"points\":22,\"pushed_off\":null,\"pushed_off_name\":null,"
    ++ codes "\"pushed_off_author\":null,\"pushed_off_points\":null}\n")
unfolding chars digits encode_utf8 field_text further_field is_utf8 key_text mended utf8_valid_len
placed = (refl, refl)

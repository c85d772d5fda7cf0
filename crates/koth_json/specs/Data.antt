-- A hill as one object, which a service shows to programs.
use Rattle.std.specs.{Prelude.{ℕ, nat_lt, if◌then◌else◌, List, [], ◌++◌, codes}, List.{enumerate_from, flat_map}}
use Rattle.{war_types.specs.declared.settings.RawSettings.RawSettings, koth_hill.specs.{Kept.{Kept, table_kept}, Table.RowParts}}
use Rattle.koth_json.specs.{Hill.{bound_fields, row_line, size_fields}, Objects.{field_text, further_text, type_field}}

abbrev pub comma_before : ℕ → List ℕ
comma_before rank = if nat_lt 1 rank then codes "," else []

-- a warrior on this hill, as its line has it, after a comma if it isn't the first
abbrev pub row_element : Kept → ℕ → RowParts → List ℕ
row_element k rank row = comma_before rank ++ row_line k rank row

-- the warriors in these rows, which stand by rank from 1 on
abbrev pub row_elements : Kept → List RowParts → List ℕ
row_elements k rows = flat_map (λ (rank, row). row_element k rank row) (enumerate_from 1 rows)

-- the settings without the seed, as further fields
abbrev pub settings_text : RawSettings → List ℕ
settings_text given = further_text (size_fields given ++ bound_fields given)

-- what a hill is, its settings without the seed, and the beginning of its warriors
abbrev pub head_text : RawSettings → List ℕ
head_text given = codes "{" ++ (field_text (type_field (codes "hill")) ++ (settings_text given ++ codes ",\"warriors\":[\n"))

-- a hill with these settings, and its warriors by rank
abbrev pub data_text : RawSettings → Kept → List ℕ
data_text given k = head_text given ++ (row_elements k (table_kept k) ++ codes "]}\n")

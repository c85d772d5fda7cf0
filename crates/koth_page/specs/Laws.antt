-- What holds of every page.
use Rattle.std.specs.Prelude.{ℕ, List, [], map}
use Rattle.{war_types.specs.declared.settings.RawSettings.RawSettings, koth_hill.specs.{Hill.{Member, member_of}, Kept.{Kept, kept_of}}, koth_page.specs.Ranked.{OriginParts, RankedParts}}

-- a warrior without a name and an author
abbrev pub nameless_member : Member → Member
nameless_member m = member_of m.entry m.age (record m.warrior { name = []; author = [] })

-- the same hill, on which nobody has a name
abbrev pub nameless : Kept → Kept
nameless k = kept_of k.settings k.counter (map nameless_member k.members) k.results

-- the same without the name of a file
abbrev pub nameless_origin : OriginParts → OriginParts
nameless_origin (OriginParts.Entered age) = OriginParts.Entered age
nameless_origin (OriginParts.File file) = OriginParts.File []

-- the same row without names
abbrev pub nameless_row : RankedParts → RankedParts
nameless_row row = record row { name = []; author = []; origin = nameless_origin row.origin }

abbrev pub nameless_rows : List RankedParts → List RankedParts
nameless_rows rows = map nameless_row rows

-- the same settings under another seed
abbrev pub another_seed : ℕ → RawSettings → RawSettings
another_seed seed s = record s { seed = seed }

-- the same hill under another seed
abbrev pub with_seed : ℕ → Kept → Kept
with_seed seed k = kept_of (another_seed seed k.settings) k.counter k.members k.results

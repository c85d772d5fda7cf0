-- What is found in the sectors of the headers.
use Rattle.std.specs.Prelude.{◌≡◌, ℕ, ◌%◌, Bool, true, false, List, Option, Some, None}
use Rattle.{hill_bytes.specs.{declared.format.Format.Format, Layout.{Layout, HeaderParts, IsHeader, layout_of}}, hill_images.specs.Stands.IsNewestIn}

-- what these bytes are as sector n: the valid header, or nothing only if there is none
abbrev pub IsFoundIn : Layout → ℕ → List ℕ → Option HeaderParts → Type 0
IsFoundIn layout n bytes None = (h : HeaderParts) → h.generation % 2 ≡ n → IsHeader layout bytes h → ⊥
IsFoundIn layout n bytes (Some h) = (h.generation % 2 ≡ n) × IsHeader layout bytes h

-- the newest of all headers, or nothing only if there is none
abbrev pub IsNewestFound : Layout → (ℕ → List ℕ) → Option HeaderParts → Type 0
IsNewestFound layout image None = (h : HeaderParts) → IsHeader layout (image (h.generation % 2)) h → ⊥
IsNewestFound layout image (Some h) = IsNewestIn layout image h

-- these bytes, as sector n, are a valid header of a format
pub record IsHeaderAt (n : ℕ) (bytes : List ℕ) : Type 0 where
  pub format : Format
  pub header : HeaderParts
  pub found : IsFoundIn (layout_of format) n bytes (Some header)

-- whether they are
abbrev pub HoldsIf : ℕ → List ℕ → Bool → Type 0
HoldsIf n bytes true = IsHeaderAt n bytes
HoldsIf n bytes false = (format : Format) → IsFoundIn (layout_of format) n bytes None

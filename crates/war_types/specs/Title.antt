-- The title of a warrior or of its author.
use Rattle.std.specs.Prelude.{ℕ, ◌≤◌, ◌-◌, Bool, ◌||◌, ◌&&◌, ◌==◌, nat_le, if◌then◌else◌, List, [], ◌∷◌, ◌++◌, length, map, replicate, take, All}

-- a space, a tab or a carriage return
abbrev pub is_blank : ℕ → Bool
is_blank b = b == 32 || b == 9 || b == 13

-- the text from its first byte that is no blank
abbrev pub after_blanks : List ℕ → List ℕ
after_blanks [] = []
after_blanks (b ∷ bs) = if is_blank b then after_blanks bs else b ∷ bs

-- a byte before a text; a blank before an empty text is dropped
abbrev pub onto_trimmed : ℕ → List ℕ → List ℕ
onto_trimmed b [] = if is_blank b then [] else b ∷ []
onto_trimmed b (c ∷ cs) = b ∷ c ∷ cs

-- the text up to its last byte that is no blank
abbrev pub before_blanks : List ℕ → List ℕ
before_blanks [] = []
before_blanks (b ∷ bs) = onto_trimmed b (before_blanks bs)

-- a byte as a title shows it: a question mark for what can't be printed
abbrev pub shown : ℕ → ℕ
shown b = if nat_le 32 b && nat_le b 126 then b else 63

abbrev pub title_or : List ℕ → List ℕ → List ℕ
title_or [] default = default
title_or (b ∷ bs) default = map shown (take 48 (b ∷ bs))

-- the text without blanks at both ends, cut to 48 bytes, then shown; the default if nothing is left
abbrev pub title_of : List ℕ → List ℕ → List ℕ
title_of text default = title_or (before_blanks (after_blanks text)) default

pub record IsPrintable (b : ℕ) : Type 0 where
  pub low : 32 ≤ b
  pub high : b ≤ 126

-- 1 to 48 bytes that can be printed
pub record IsTitle (bytes : List ℕ) : Type 0 where
  pub not_empty : 1 ≤ length bytes
  pub short : length bytes ≤ 48
  pub printable : All IsPrintable bytes

-- a title as it is stored, in 48 bytes: zeros follow it
abbrev pub stored_title : List ℕ → List ℕ
stored_title title = title ++ replicate (48 - length title) 0

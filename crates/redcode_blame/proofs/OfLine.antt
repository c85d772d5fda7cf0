-- Parts of a line that may be told.
use Rattle.std.proofs.Common.{◌≡◌, ℕ, true, nat_le, List, length, refl, inl, inr, arith}
use Rattle.{redcode_lines.specs.declared.place.Span.Span, redcode_blame.specs.Place.{IsOfLine, is_of_tokens, is_whole}}

pub of_whole : (text : List ℕ) (span : Span) → is_whole text span ≡ true → IsOfLine text span
of_whole text span is = inl is

pub of_tokens : (text : List ℕ) (read : ℕ) (span : Span) → is_of_tokens text read span ≡ true → IsOfLine text span
of_tokens text read span is = inr (read, is)

none-least : (n : ℕ) → nat_le 0 n ≡ true
none-least n = grind arith

pub of_line : (text : List ℕ) → IsOfLine text (record { from = 0; width = 4294967295 })
of_line text = inl (rw (none-least (length text)) refl)

-- What titles keep: trimming at the end, byte by byte, and that what is shown can be printed.
use Rattle.std.proofs.{Common.{◌≡◌, ℕ, ◌≤◌, true, false, List, [], ◌∷◌, ◌++◌, ◌+◌, ◌-◌, length, get_or, map, take, All, min, eqb, arith, refl, sym, ap, ◌∙◌}, lemmas.Bool.Decides.nat_tests}
use Rattle.std.proofs.{lemmas.List.{length-map, take_all, take_more, take_min}, Math.Nat.min_comm, lemmas.List.Elements.{All-nil, All-cons}}
use Rattle.war_types.specs.Title.{is_blank, onto_trimmed, before_blanks, shown, title_or, IsPrintable, IsTitle}

onto_trimmed-push : (x : ℕ) (xs : List ℕ) (b : ℕ) → onto_trimmed x (xs ++ b ∷ []) ≡ x ∷ (xs ++ b ∷ [])
onto_trimmed-push x [] b = refl
onto_trimmed-push x (y ∷ ys) b = refl

-- a blank at the end is dropped
pub before_blanks-push_blank : (xs : List ℕ) (b : ℕ) → is_blank b ≡ true → before_blanks (xs ++ b ∷ []) ≡ before_blanks xs
before_blanks-push_blank [] b h = rw h
before_blanks-push_blank (x ∷ xs) b h = rw (before_blanks-push_blank xs b h)

-- a byte at the end that is no blank keeps all before it
pub before_blanks-push_other : (xs : List ℕ) (b : ℕ) → is_blank b ≡ false → before_blanks (xs ++ b ∷ []) ≡ xs ++ b ∷ []
before_blanks-push_other [] b h = rw h
before_blanks-push_other (x ∷ xs) b h = rw (before_blanks-push_other xs b h) (onto_trimmed-push x xs b)

whole-from_last : (xs : List ℕ) → 1 ≤ length xs → xs ≡ take (length xs - 1) xs ++ get_or xs (length xs - 1) 0 ∷ []
whole-from_last xs h =
    let n : length xs - 1 + 1 ≡ length xs = omega arith in
    sym (take_all (length xs - 1 + 1) xs (omega arith)) ∙ take_more xs (length xs - 1) 0 (omega arith)

-- without its last byte, a blank, a text is the same up to its last byte that is no blank
pub before_blanks-last_blank : (xs : List ℕ) → 1 ≤ length xs → is_blank (get_or xs (length xs - 1) 0) ≡ true → before_blanks (take (length xs - 1) xs) ≡ before_blanks xs
before_blanks-last_blank xs h b =
    sym (ap before_blanks (whole-from_last xs h) ∙ before_blanks-push_blank (take (length xs - 1) xs) (get_or xs (length xs - 1) 0) b)

-- a text whose last byte is no blank stays as it is
pub before_blanks-last_other : (xs : List ℕ) → 1 ≤ length xs → is_blank (get_or xs (length xs - 1) 0) ≡ false → before_blanks xs ≡ xs
before_blanks-last_other xs h b =
    ap before_blanks (whole-from_last xs h) ∙ (before_blanks-push_other (take (length xs - 1) xs) (get_or xs (length xs - 1) 0) b ∙ sym (whole-from_last xs h))

pub IsPrintable-shown : (b : ℕ) → IsPrintable (shown b)
IsPrintable-shown b = record { low = grind (arith, nat_tests); high = grind (arith, nat_tests) }

All-map-shown : (xs : List ℕ) → All IsPrintable (map shown xs)
All-map-shown [] = All-nil IsPrintable
All-map-shown (x ∷ xs) = All-cons IsPrintable _ _ (IsPrintable-shown x) (All-map-shown xs)

-- 1 to 48 bytes are a title as they are shown
pub IsTitle-map-shown : (xs : List ℕ) → 1 ≤ length xs → length xs ≤ 48 → IsTitle (map shown xs)
IsTitle-map-shown xs h k = record { not_empty = simp length-map h; short = simp length-map k; printable = All-map-shown xs }

-- if something is left, the title is its first 48 bytes as they are shown
pub title_or-some : (xs default : List ℕ) → eqb (length xs) 0 ≡ false → title_or xs default ≡ map shown (take (min (length xs) 48) xs)
title_or-some [] default h = cc
title_or-some (x ∷ xs) default h = ap (map shown) (sym (ap (λ n. take n (x ∷ xs)) (min_comm (length (x ∷ xs)) 48) ∙ take_min 48 (x ∷ xs)))

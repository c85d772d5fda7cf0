-- A buffer that is filled from the front, for `fill_until`.
use borrow.Rule.Slice.PartMut.{put_mid, post_of}
use lib.Seq.{take-add, take-append-le}
use Rattle.std.proofs.{Common.{◌≡◌, ℕ, ◌+◌, ◌≤◌, List, ◌++◌, length, take, drop, ap, ◌∙◌, le_refl, drop_at, length-take-le}, lemmas.Slice.take-put_mid_below}

-- what was filled, and n bytes more after it
pub take-put_mid_more : (a k n : ℕ) (xs ys : List ℕ) → a ≤ length xs → n ≤ length ys → take (a + n) (put_mid a k xs ys) ≡ take a xs ++ take n ys
take-put_mid_more a k n xs ys within fits =
    let front = take-put_mid_below a k xs ys a (le_refl a) within in
    let behind : drop a (put_mid a k xs ys) ≡ ys ++ post_of a k xs = drop_at (take a xs) (ys ++ post_of a k xs) a (length-take-le a xs within) in
    take-add a n (put_mid a k xs ys) ∙ ap (λ l. l ++ take n (drop a (put_mid a k xs ys))) front
    ∙ ap (λ l. take a xs ++ take n l) behind ∙ ap (λ l. take a xs ++ l) (take-append-le n ys (post_of a k xs) fits)

-- The text is what filled the buffer.
use Rattle.std.proofs.{Common.{◌≡◌, ◌∙◌, ◌++◌, ◌≤◌, ◌<◌, ℕ, List, Option, ap, arith, drop, length, length-take-le, rules, sym, subst, take}, Math.Seq.take-append_seam}
use Rattle.{std.specs.Io.KnownBytes.{Consumes, IsAtEnd}, koth_commands.specs.Streams.{Takes, read_limit}}
use Rattle.koth_commands.proofs.source.text_from.Goals as goal

-- what a slice of the whole was given back
given_back : (n : ℕ) (xs ys : List ℕ) → n ≡ length ys → take n (ys ++ drop (length ys) xs) ≡ ys
given_back n xs ys is = ap (λ k. take k (ys ++ drop (length ys) xs)) is ∙ take-append_seam ys (drop (length ys) xs)

filled_from : (i j : Option (List ℕ)) (count : ℕ) (xs : List ℕ) → count ≤ length xs → length xs ≡ read_limit → Consumes i j (take count xs)
    → (count < length xs → IsAtEnd j) → Takes i j (take count xs)
filled_from i j count xs within size taken whole =
    let is : length (take count xs) ≡ count = length-take-le count xs within in
    record { bytes = taken; most = omega (arith, is, within, size); whole = λ short. whole (omega (arith, is, size, short)) }

pub returns-in-Ok-fill-clause-taken : goal.returns-in-Ok-fill-clause-taken
returns-in-Ok-fill-clause-taken g c =
    let filled = c.fill.new.buffer in
    let count = c.in-Ok-fill.count in
    let len : c.in-Ok.buffer.len ≡ length filled = search rules in
    let size : length filled ≡ read_limit = search rules in
    let taken = filled_from _ _ count filled c.in-Ok-fill.ensures.within size c.in-Ok-fill.ensures.taken c.in-Ok-fill.ensures.whole in
    subst (Takes _ _) (sym (c.truncate.ensures.items ∙ ap (take count) (given_back _ _ filled len))) taken

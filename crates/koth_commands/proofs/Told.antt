-- A text of which a part was written.
use Rattle.std.proofs.Common.{◌≡◌, inl, inr, ℕ, List, [], ◌++◌, Option, None, Some, Result, Ok, Err, OnOk, OnErr, refl, sym, ap, subst, ◌∙◌, append-nil, append_assoc}
use Rattle.{std.specs.Io.KnownBytes.{Appends, Keeps}, std.proofs.KnownBytes.{Appends-nil, Appends-trans}, koth_text.specs.Written.WritesPart}
use Rattle.koth_commands.specs.{Cause.cause_told, Told.{TellsAlone, TellsCause, TellsWord, WritesSome}, Trouble.TellsAbout}
use Rattle.koth_commands.specs.declared.{cause.Cause.Cause, telling.Apart.TheVariants.{Line, Blank}, trouble.About.About}

-- all of it was
pub whole_part : (old new : Option (List ℕ)) (text line : List ℕ) → text ≡ line → Appends old new text → WritesPart old new line
whole_part old new text line is whole = record { part = text; rest = []; split = sym is ∙ sym (append-nil text); written = whole }

-- whole, or as far as the output took it
pub in_part : {T E : Type 0} (r : Result T E) (old new : Option (List ℕ)) (text line : List ℕ) → text ≡ line
    → OnOk r (Appends old new text) → OnErr r (WritesPart old new text) → WritesPart old new line
in_part (Ok done) old new text line is whole part = whole_part old new text line is whole
in_part (Err fault) old new text line is whole part = subst (WritesPart old new) is part

-- bytes that stay grow by nothing
pub nothing_more : (a b : Option (List ℕ)) → Keeps a b → Appends a b []
nothing_more None b kept = tt
nothing_more (Some xs) None kept = kept
nothing_more (Some xs) (Some ys) kept = kept ∙ sym (append-nil xs)

-- nothing was
pub kept_part : (old new : Option (List ℕ)) (text : List ℕ) → Keeps old new → WritesPart old new text
kept_part old new text kept = record { part = []; rest = text; split = refl; written = nothing_more old new kept }

abbrev pub none_yet : (old : Option (List ℕ)) (text : List ℕ) → WritesPart old old text
none_yet old text = record { part = []; rest = text; split = refl; written = Appends-nil old }

-- a part of a text is one of a longer text
pub in_longer : (o p : Option (List ℕ)) (text more : List ℕ) → WritesPart o p text → WritesPart o p (text ++ more)
in_longer o p text more w = record {
  part = w.part;
  rest = w.rest ++ more;
  split = ap (λ t. t ++ more) w.split ∙ append_assoc w.part w.rest more;
  written = w.written;
}

-- a part of a text after one that was written whole
pub behind : (o p q : Option (List ℕ)) (whole text : List ℕ) → Appends o p whole → WritesPart p q text → WritesPart o q (whole ++ text)
behind o p q whole text before w = record {
  part = whole ++ w.part;
  rest = w.rest;
  split = ap (λ t. whole ++ t) w.split ∙ sym (append_assoc whole w.part w.rest);
  written = Appends-trans o p q whole w.part before w.written;
}

-- ---- some text

pub writes_nothing : (a : Option (List ℕ)) → WritesSome a a
writes_nothing a = ([], none_yet a [])

-- bytes that stay are some text, which is empty
pub keeps_some : (a b : Option (List ℕ)) → Keeps a b → WritesSome a b
keeps_some a b kept = ([], kept_part a b [] kept)

pub writes_more : (a b c : Option (List ℕ)) → WritesSome a b → WritesSome b c → WritesSome a c
writes_more a b c (first, one) (second, other) = (
  one.part ++ other.part,
  whole_part a c (one.part ++ other.part) (one.part ++ other.part) refl (Appends-trans a b c one.part other.part one.written other.written),
)

-- ---- a text after another, if the first one's bytes are those of a text

pub first_err : {T E : Type 0} (r : Result T E) (o p : Option (List ℕ)) (bytes first more : List ℕ) → bytes ≡ first → WritesPart o p bytes
    → OnErr r (WritesPart o p (first ++ more))
first_err (Ok done) o p bytes first more is part = tt
first_err (Err fault) o p bytes first more is part = in_longer o p first more (subst (WritesPart o p) is part)

pub both_err : {T E : Type 0} (r : Result T E) (o p q : Option (List ℕ)) (bytes first text more : List ℕ) → bytes ≡ first → text ≡ more
    → Appends o p bytes → OnErr r (WritesPart p q text) → OnErr r (WritesPart o q (first ++ more))
both_err (Ok done) o p q bytes first text more is more_is whole part = tt
both_err (Err fault) o p q bytes first text more is more_is whole part =
    behind o p q first more (subst (Appends o p) is whole) (subst (WritesPart p q) more_is part)

pub both_ok : {T E : Type 0} (r : Result T E) (o p q : Option (List ℕ)) (bytes first text more : List ℕ) → bytes ≡ first → text ≡ more
    → Appends o p bytes → OnOk r (Appends p q text) → OnOk r (Appends o q (first ++ more))
both_ok (Ok done) o p q bytes first text more is more_is whole both =
    Appends-trans o p q first more (subst (Appends o p) is whole) (subst (Appends p q) more_is both)
both_ok (Err fault) o p q bytes first text more is more_is whole both = tt

-- ---- a word with its cause is a word with some text after it

pub alone_word : (word : List ℕ) (a b : Option (List ℕ)) → TellsAlone word a b → TellsWord word a b
alone_word word a b part = record { apart = Line; text = []; written = part }

pub cause_word : (word : List ℕ) (cause : Option Cause) (a b : Option (List ℕ)) → TellsCause word cause a b → TellsWord word a b
cause_word word None a b told = alone_word word a b told
cause_word word (Some cause) a b told = elim told [
  | inl alone ↦ alone_word word a b alone
  | inr both ↦ record { apart = Blank; text = cause_told cause; written = both }
]

pub about_word : (word : List ℕ) (about : About) (a b : Option (List ℕ)) → TellsAbout word about a b → TellsWord word a b
about_word word About.Nothing a b told = alone_word word a b told
about_word word (About.Cause cause) a b told = cause_word word (Some cause) a b told
about_word word (About.Given given) a b told = told
about_word word (About.Round rounds round) a b told = told
about_word word (About.Definition words) a b told = told
about_word word (About.Kind name) a b told = told

-- The parts of a field joined: for `joining`.
use Rattle.std.proofs.Common.{◌≡◌, inl, inr, ℕ, ◌+◌, ◌-◌, ◌≤◌, List, [], ◌∷◌, ◌++◌, map, All, length, Option, Result, Ok, Err, Vec, MatchResult, refl, sym, ap, subst, ◌∙◌, arith}
use Rattle.std.{specs.Io.KnownBytes.{Keeps}, proofs.{KnownBytes.{Keeps-trans}, lemmas.{List.{length_push, Elements.All-nil, FromFn.length-map-range_with_len}, Simd.map-map}}}
use Rattle.{koth_json.specs.Contest.ContenderParts, koth_text.specs.{declared.tally.Tally.Tally}, koth_words.specs.declared.requests.View.View}
use Rattle.koth_commands.{specs.{Told.{TellsWord, WritesSome}, declared.status.Status.Status}, proofs.Told.{keeps_some, kept_part, writes_more}}
use Rattle.koth_contests.specs.Met.{EndsLine}
use Rattle.koth_standings.{specs.{Pairs.pairs, Parts.{numbers, sums_of}, PartText.{AreJoined, HeadParts, PartParts, numbered, tallies}, Standings.{AreOf, StandingsParts, counts_of, no_rounds, rounds_of}, declared.pairs.Pair.Pair}, proofs.Shared.{counts_shared, shares_out}}
use Rattle.koth_rank.specs.{Join.{EndsJoin, Fails, IsJoined, IsNamedTable, Joined, JoinsAll, JoinsOne, label_of, named_parts}, Table.IsTableOf, declared.names.Named.Named}

-- all parts are joined, and their table is made
pub whole_table : (view : View) (head : HeadParts) (n count : ℕ) (labels : List (List ℕ)) (standings : StandingsParts) (table : List ℕ) → Joined head n count standings
    → head.count ≡ count → 1 ≤ count → n ≡ length labels → IsNamedTable view labels standings.counts table → IsJoined view count table
whole_table view head n count labels standings table j counted some is named =
    let sums = j.are.counts ∙ ap (λ m. sums_of m (map tallies j.parts)) is in
    record {
      head = head;
      parts = j.parts;
      labels = labels;
      heads = j.are.same ∙ ap (λ m. map (numbered head) (numbers m)) j.as_many;
      counted = counted;
      many = subst (λ m. All (λ (p : PartParts). length p.rows ≡ m) j.parts) is j.are.many;
      table = subst (λ c. IsNamedTable view labels c table) sums named;
      whole = λ match_of shares.
          subst (λ c. IsNamedTable view labels c table)
          (sums ∙ ap (sums_of (length labels)) shares
          ∙ counts_shared match_of (length labels) count (pairs (length labels)) (shares_out count (pairs (length labels)) some)) named;
    }

-- none are joined
pub none_joined : (head : HeadParts) (places : ℕ) (s : StandingsParts) → ((match_of : Pair → Tally) → AreOf match_of places [] s)
    → Joined head (length s.counts) 0 s × (length s.counts ≡ places)
none_joined head places s of =
    let are = of (λ p. no_rounds) in
    let many : length s.counts ≡ places = ap length are.counts ∙ length-map-range_with_len (rounds_of (λ p. no_rounds) []) 0 places in (
      record {
        parts = [];
        as_many = refl;
        are = record { same = refl; many = All-nil (λ (p : PartParts). length p.rows ≡ length s.counts); counts = are.counts ∙ ap (λ m. counts_of (λ p. no_rounds) m []) (sym many) };
      },
      many,
    )

-- one more is joined
pub joined_one : (head : HeadParts) (n number : ℕ) (p : PartParts) (old new : StandingsParts) → 1 ≤ number
    → ((parts : List PartParts) → length parts + 1 ≡ number → AreJoined head n parts old → AreJoined head n (parts ++ p ∷ []) new)
    → Joined head n (number - 1) old → Joined head n number new
joined_one head n number p old new some joins j =
    let next : length j.parts + 1 ≡ number = omega (arith, j.as_many, some) in
    record { parts = j.parts ++ p ∷ []; as_many = length_push j.parts p ∙ next; are = joins j.parts next j.are }

-- why no table is written comes after nothing
pub fails_after : (status : Status) (e f g : Option (List ℕ)) → Keeps e f → Fails status f g → Fails status e g
fails_after Status.Done e f g kept fails = fails
fails_after Status.Refused e f g kept fails = writes_more e f g (keeps_some e f kept) fails
fails_after Status.WordFault e f g kept fails = fails
fails_after Status.StreamFault e f g kept fails = writes_more e f g (keeps_some e f kept) fails
fails_after Status.NoMemory e f g kept fails = writes_more e f g (keeps_some e f kept) fails

some_told : (word : List ℕ) (e f : Option (List ℕ)) → TellsWord word e f → WritesSome e f
some_told word e f told = (_, told.written)

-- the table was written, or not all of it
pub table_written : (view : View) (count : ℕ) (table : List ℕ) (status : Status) (o p e f g : Option (List ℕ)) → IsJoined view count table → Keeps e f
    → EndsLine table status o p f g → EndsJoin view count status o p e g
table_written view count table Status.Done o p e f g is kept (written, same) = inl (refl, (table, is, written), Keeps-trans e f g kept same)
table_written view count table Status.StreamFault o p e f g is kept (part, told) =
    inr (inl ((table, is, part), fails_after Status.StreamFault e f g kept (some_told _ f g told)))
table_written view count table Status.NoMemory o p e f g is kept (same, told) =
    inr (inl ((table, is, kept_part o p table same), fails_after Status.NoMemory e f g kept (some_told _ f g told)))
table_written view count table status o p e f g is kept ends = absurd ends

-- one isn't joined
pub fails_one : (head : HeadParts) (n number : ℕ) (old new : StandingsParts) (status : Status) (e f : Option (List ℕ)) → Fails status e f → JoinsOne head n number old new status e f
fails_one head n number old new Status.Done e f fails = absurd fails
fails_one head n number old new Status.Refused e f fails = fails
fails_one head n number old new Status.WordFault e f fails = fails
fails_one head n number old new Status.StreamFault e f fails = fails
fails_one head n number old new Status.NoMemory e f fails = fails

-- and so not all are
pub fails_all : (head : HeadParts) (n count : ℕ) (new : StandingsParts) (status : Status) (e f : Option (List ℕ)) → Fails status e f → JoinsAll head n count new status e f
fails_all head n count new Status.Done e f fails = absurd fails
fails_all head n count new Status.Refused e f fails = fails
fails_all head n count new Status.WordFault e f fails = fails
fails_all head n count new Status.StreamFault e f fails = fails
fails_all head n count new Status.NoMemory e f fails = fails

pub one_fails : (head : HeadParts) (n number : ℕ) (old new : StandingsParts) (status : Status) (e f : Option (List ℕ)) → (status ≡ Status.Done → ⊥)
    → JoinsOne head n number old new status e f → Fails status e f
one_fails head n number old new Status.Done e f other joins = absurd (other refl)
one_fails head n number old new Status.Refused e f other joins = joins
one_fails head n number old new Status.WordFault e f other joins = joins
one_fails head n number old new Status.StreamFault e f other joins = joins
one_fails head n number old new Status.NoMemory e f other joins = joins

pub all_fail : (head : HeadParts) (n count : ℕ) (new : StandingsParts) (status : Status) (e f : Option (List ℕ)) → (status ≡ Status.Done → ⊥)
    → JoinsAll head n count new status e f → Fails status e f
all_fail head n count new Status.Done e f other joins = absurd (other refl)
all_fail head n count new Status.Refused e f other joins = joins
all_fail head n count new Status.WordFault e f other joins = joins
all_fail head n count new Status.StreamFault e f other joins = joins
all_fail head n count new Status.NoMemory e f other joins = joins

-- one is joined after nothing was told
pub one_after : (head : HeadParts) (n number : ℕ) (old new : StandingsParts) (status : Status) (e f g : Option (List ℕ)) → Keeps e f
    → JoinsOne head n number old new status f g → JoinsOne head n number old new status e g
one_after head n number old new Status.Done e f g kept (joins, still) = (joins, Keeps-trans e f g kept still)
one_after head n number old new Status.Refused e f g kept fails = fails_after Status.Refused e f g kept fails
one_after head n number old new Status.WordFault e f g kept fails = fails
one_after head n number old new Status.StreamFault e f g kept fails = fails_after Status.StreamFault e f g kept fails
one_after head n number old new Status.NoMemory e f g kept fails = fails_after Status.NoMemory e f g kept fails

-- all are joined, and then their table is made or isn't
pub summed : {A : Type 0} (r : Result (Vec ℕ A) Status) (view : View) (head : HeadParts) (n count : ℕ) (labels : List (List ℕ)) (standings : StandingsParts) (e f g : Option (List ℕ))
    → Joined head n count standings → head.count ≡ count → 1 ≤ count → n ≡ length labels → Keeps e f
    → MatchResult r (λ t. IsNamedTable view labels standings.counts t.items × Keeps f g) (λ status. Fails status f g)
    → MatchResult r (λ t. IsJoined view count t.items × Keeps e g) (λ status. Fails status e g)
summed (Ok t) view head n count labels standings e f g joined counted some is kept (named, still) =
    (whole_table view head n count labels standings t.items joined counted some is named, Keeps-trans e f g kept still)
summed (Err status) view head n count labels standings e f g joined counted some is kept fails = fails_after status e f g kept fails

-- the table of warriors is that of their labels
pub labels_called : (view : View) (contenders : List ContenderParts) (names : List Named) (labels : List (List ℕ)) (counts : List Tally) (text : List ℕ)
    → contenders ≡ map named_parts names → map (λ (n : Named). label_of (named_parts n)) names ≡ labels → IsTableOf view contenders counts text
    → IsNamedTable view labels counts text
labels_called view contenders names labels counts text are called table =
    record { contenders = contenders; called = ap (map label_of) are ∙ map-map label_of named_parts names ∙ called; table = table }

-- what comes of parts after nothing was told
pub joined_after : {A : Type 0} (r : Result (Vec ℕ A) Status) (view : View) (count : ℕ) (e f g : Option (List ℕ)) → Keeps e f
    → MatchResult r (λ t. IsJoined view count t.items × Keeps f g) (λ status. Fails status f g)
    → MatchResult r (λ t. IsJoined view count t.items × Keeps e g) (λ status. Fails status e g)
joined_after (Ok t) view count e f g kept (is, still) = (is, Keeps-trans e f g kept still)
joined_after (Err status) view count e f g kept fails = fails_after status e f g kept fails

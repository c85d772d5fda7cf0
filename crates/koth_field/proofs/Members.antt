-- One source more of a field: for `field_of` and `put_member`.
use Rattle.std.proofs.Common.{◌≡◌, ℕ, ◌+◌, ◌<◌, ◌≤◌, Bool, true, false, ◌&&◌, List, [], ◌∷◌, ◌++◌, map, length, take, get_or, All, Option, None, Some, refl, sym, ap, subst, ◌∙◌, append-nil}
use Rattle.std.{specs.Io.KnownBytes.Keeps, specs.List.flat_map, proofs.{KnownBytes.{Keeps-refl, Keeps-trans}, lemmas.List.{map_push, take_all, take_more}}}
use Rattle.std.proofs.lemmas.List.{Concat.flat_map-append, Elements.{All-get_or, All-nil, All-push}, Folds.list_all-append}
use Rattle.war_types.specs.{Warrior.Fits, declared.settings.RawSettings.RawSettings}
use Rattle.koth_commands.{specs.{Told.WritesSome, Trouble.{Tells, no_memory}, declared.{status.Status.Status, trouble.Trouble.Trouble}}, proofs.Told.{keeps_some, writes_more}}
use Rattle.koth_contests.specs.{Lines.{Entrant, entrant}, Met.{IsMet, Met, TellsNone, all_fought, is_fought, met}}
use Rattle.koth_field.specs.{Field.{EndsField, IsField, PutsMember, entrant_of, entrants_at, entrants_met, entrants_of}, Digest.{entrant_text, field_text}, declared.field.Member.Member}

-- how it ends if no source comes after those that were read
abbrev pub status_of : Bool → Status
status_of true = Status.Done
status_of false = Status.Refused

-- the first `place` files were read
pub record SoFar (s : RawSettings) (files : List (List ℕ)) (place : ℕ) (status : Status) (entrants : List Entrant) : Type 0 where
  pub found : List Met
  pub named : map (λ (m : Met). m.file) found ≡ take place files
  pub come : All (IsMet s) found
  pub ends : status ≡ status_of (all_fought found)
  pub are : entrants ≡ entrants_met found

-- what standard error got while they were read
abbrev pub TellsSo : Status → Option (List ℕ) → Option (List ℕ) → Type 0
TellsSo Status.Done e f = Keeps e f
TellsSo status e f = WritesSome e f

pub none_so_far : (s : RawSettings) (files : List (List ℕ)) → SoFar s files 0 Status.Done []
none_so_far s files = record { found = []; named = refl; come = All-nil (IsMet s); ends = refl; are = refl }

more_named : (files : List (List ℕ)) (place : ℕ) (ms : List Met) (m : Met) → place < length files → m.file ≡ get_or files place []
    → map (λ (x : Met). x.file) ms ≡ take place files → map (λ (x : Met). x.file) (ms ++ m ∷ []) ≡ take (place + 1) files
more_named files place ms m within is named =
    map_push (λ (x : Met). x.file) ms m ∙ ap (λ l. l ++ m.file ∷ []) named ∙ ap (λ f. take place files ++ f ∷ []) is
    ∙ sym (take_more files place [] within)

and_true : (b : Bool) → (b && (true && true)) ≡ b
and_true true = refl
and_true false = refl

and_false : (b : Bool) → (b && (false && true)) ≡ false
and_false true = refl
and_false false = refl

all_more : (ms : List Met) (m : Met) → all_fought (ms ++ m ∷ []) ≡ (all_fought ms && (is_fought m.warrior && true))
all_more ms m = list_all-append (λ (x : Met). is_fought x.warrior) ms (m ∷ [])

more_entrants : (ms : List Met) (m : Met) → entrants_met (ms ++ m ∷ []) ≡ entrants_met ms ++ entrants_at m.file m.warrior
more_entrants ms m =
    let f = λ (x : Met). entrants_at x.file x.warrior in
    flat_map-append f ms (m ∷ []) ∙ ap (λ l. entrants_met ms ++ l) (append-nil (entrants_at m.file m.warrior))

module _ (s : RawSettings) (files : List (List ℕ)) (place : ℕ) (status : Status) (old new : List Entrant) (e f : Option (List ℕ)) (file : List ℕ)
    (within : place < length files) (is : file ≡ get_or files place []) (so_far : SoFar s files place status old) where
  -- it has a warrior
  pub one_there : PutsMember s file old new Status.Done e f → SoFar s files (place + 1) status new
  one_there ((warrior, comes, puts), kept) =
      let ms = so_far.found in
      let m = met file (Some warrior) in
      record {
        found = ms ++ m ∷ [];
        named = more_named files place ms m within is so_far.named;
        come = All-push (IsMet s) ms m so_far.come comes;
        ends = so_far.ends ∙ ap status_of (sym (all_more ms m ∙ and_true (all_fought ms)));
        are = puts ∙ ap (λ l. l ++ entrant file warrior ∷ []) so_far.are ∙ sym (more_entrants ms m);
      }

  -- it has none
  pub one_missing : PutsMember s file old new Status.Refused e f → SoFar s files (place + 1) Status.Refused new
  one_missing (same, told) =
      let ms = so_far.found in
      let m = met file None in
      record {
        found = ms ++ m ∷ [];
        named = more_named files place ms m within is so_far.named;
        come = All-push (IsMet s) ms m so_far.come tt;
        ends = ap status_of (sym (all_more ms m ∙ and_false (all_fought ms)));
        are = same ∙ so_far.are ∙ sym (append-nil (entrants_met ms)) ∙ sym (more_entrants ms m);
      }

-- its source gives no warrior
pub puts_none : (s : RawSettings) (file : List ℕ) (old new : List Entrant) (status : Status) (e f : Option (List ℕ)) → new ≡ old → TellsNone status e f
    → PutsMember s file old new status e f
puts_none s file old new Status.Refused e f same told = (same, told)
puts_none s file old new Status.NoMemory e f same told = told
puts_none s file old new status e f same told = absurd told

-- there is no memory for its warrior
pub puts_lost : (s : RawSettings) (file : List ℕ) (old new : List Entrant) (trouble : Trouble) (status : Status) (e f : Option (List ℕ)) → trouble ≡ no_memory
    → Tells trouble status e f → PutsMember s file old new status e f
puts_lost s file old new trouble status e f is told =
    let so = subst (λ t. Tells t status e f) is told in
    subst (λ t. PutsMember s file old new t e f) (sym so.ends) so.word

pub some_so_far : (status : Status) (e f : Option (List ℕ)) → TellsSo status e f → WritesSome e f
some_so_far Status.Done e f kept = keeps_some e f kept
some_so_far status e f some = some

pub tells_kept : (status : Status) (e f g : Option (List ℕ)) → TellsSo status e f → Keeps f g → TellsSo status e g
tells_kept Status.Done e f g kept still = Keeps-trans e f g kept still
tells_kept status e f g some kept = writes_more e f g some (keeps_some f g kept)

pub tells_more : (status : Status) (e f g : Option (List ℕ)) → TellsSo status e f → WritesSome f g → WritesSome e g
tells_more status e f g told more = writes_more e f g (some_so_far status e f told) more

-- reading ended early
pub read_failed : (s : RawSettings) (files : List (List ℕ)) (status end : Status) (file : List ℕ) (old new all : List Entrant) (e f g : Option (List ℕ))
    → (end ≡ Status.Done → ⊥) → (end ≡ Status.Refused → ⊥) → TellsSo status e f → PutsMember s file old new end f g → EndsField s files all end e g
read_failed s files status Status.Done file old new all e f g done refused told puts = absurd (done refl)
read_failed s files status Status.Refused file old new all e f g done refused told puts = absurd (refused refl)
read_failed s files status Status.WordFault file old new all e f g done refused told puts = absurd puts
read_failed s files status Status.StreamFault file old new all e f g done refused told puts = absurd puts
read_failed s files status Status.NoMemory file old new all e f g done refused told puts = (f, some_so_far status e f told, puts)

module _ (s : RawSettings) (files : List (List ℕ)) (place : ℕ) (entrants : List Entrant) (e f : Option (List ℕ)) (past : length files ≤ place) where
  field : (status : Status) (so_far : SoFar s files place status entrants) (whole : Bool) → whole ≡ all_fought so_far.found → IsField s files whole entrants
  field status so_far whole is = record {
    found = so_far.found;
    named = so_far.named ∙ take_all place files past;
    come = so_far.come;
    all = is;
    are = so_far.are;
  }

  -- all were read
  pub all_read : (status : Status) → SoFar s files place status entrants → TellsSo status e f → EndsField s files entrants status e f
  all_read status so_far told = ends_as (all_fought so_far.found) refl so_far.ends
    where
      ends_as : (whole : Bool) → whole ≡ all_fought so_far.found → status ≡ status_of whole → EndsField s files entrants status e f
      ends_as true is ends = subst (λ t. EndsField s files entrants t e f) (sym ends)
          (field status so_far true is, subst (λ t. TellsSo t e f) ends told)
      ends_as false is ends = subst (λ t. EndsField s files entrants t e f) (sym ends)
          (field status so_far false is, some_so_far status e f told)

-- ---- the text of a field

module _ {A : Type 0} (core : ℕ) (members : List (Member A)) (i : ℕ) (m : Member A) (within : i < length members) (is : m ≡ get_or members i m) where
  -- with one member more
  pub text_more : field_text core (entrants_of (take (i + 1) members)) ≡ field_text core (entrants_of (take i members)) ++ entrant_text core (entrant_of m)
  text_more =
      let f = entrant_text core in
      let first = entrants_of (take i members) in
      ap (λ l. flat_map f (entrants_of l)) (take_more members i m within ∙ ap (λ x. take i members ++ x ∷ []) (sym is))
      ∙ ap (flat_map f) (map_push (λ (x : Member A). entrant_of x) (take i members) m)
      ∙ flat_map-append f first (entrant_of m ∷ [])
      ∙ ap (λ l. flat_map f first ++ l) (append-nil (f (entrant_of m)))

pub fits_at : {A : Type 0} (s : RawSettings) (members : List (Member A)) (i : ℕ) (m : Member A) → i < length members → m ≡ get_or members i m
    → All (λ (x : Member A). Fits s x.warrior) members → Fits s m.warrior
fits_at {A} s members i m within is fit = subst (λ (x : Member A). Fits s x.warrior) (sym is) (All-get_or (λ (x : Member A). Fits s x.warrior) members i m within fit)

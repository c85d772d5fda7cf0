-- What comes of a source that was taken.
use Rattle.std.proofs.Common.{◌≡◌, ◌∙◌, ◌⊎◌, inl, inr, ℕ, Bool, true, false, true≢false, List, [], Option, None, Some, Result, Ok, Err, is_some, option_map, ap, refl, sym}
use Rattle.{war_types.specs.{Warrior.{WarriorParts, Fits}, declared.fault.AsmFault.AsmFault, declared.settings.RawSettings.RawSettings}, redcode_asm.specs.Assembly.{Assembles, assembly}}
use Rattle.{koth_commands.specs.{Define.{HasNoText, fault_of, text_by}, Streams.{From, Takes}, declared.trouble.{Fault.Fault, Trouble.Trouble}}}
use Rattle.koth_contests.specs.{Pair.{AreTaken, IsDefineFault, IsNoneOf, IsTaken, IsUndefinedFor, TakesNone, TakesWarrior, WasUndefined}, declared.pair.NoWarrior.NoWarrior}

-- the warrior of a source, which has this text
pub assembled : (define : Option (List ℕ)) (s : RawSettings) (read text source : List ℕ) (warrior : WarriorParts) (i j : Option (List ℕ)) → read ≡ text
    → Assembles (Ok warrior) (assembly s read) → Fits s warrior → text_by define source ≡ Some text → Takes i j source → TakesWarrior define s warrior i j
assembled define s read text source warrior i j is (inl memory) fits defined takes = absurd (cc)
assembled define s read text source warrior i j is (inr comes) fits defined takes =
    (record { source = text; comes = ap (assembly s) (sym is) ∙ sym comes; fits = fits }, (source, takes, defined))

-- a source for which nothing is assembled
no_text_of : (fault : Fault) (definition : Option (List ℕ × List ℕ)) → fault ≡ fault_of definition → (fault ≡ Fault.NoEqu) ⊎ (fault ≡ Fault.BadDefine)
no_text_of fault None is = inr is
no_text_of fault (Some definition) is = inl is

no_text : (define : Option (List ℕ)) (source : List ℕ) (trouble : Trouble) → HasNoText define source trouble → IsDefineFault trouble
no_text None source trouble has = absurd (cc)
no_text (Some words) source trouble has = no_text_of trouble.fault _ has.1

pub undefined_comes : {A : Type 0} (define : Option (List ℕ)) (s : RawSettings) (source : List ℕ) (none : NoWarrior A) → IsUndefinedFor define source none → IsNoneOf s none
undefined_comes define s source (NoWarrior.Refused name text fault) is = absurd is
undefined_comes define s source (NoWarrior.Failed trouble) is = is
undefined_comes define s source (NoWarrior.Undefined trouble) is = no_text define source trouble is

pub undefined_taken : {A : Type 0} (define : Option (List ℕ)) (s : RawSettings) (source : List ℕ) (none : NoWarrior A) (i j : Option (List ℕ)) → IsUndefinedFor define source none → Takes i j source
    → TakesNone define s none i j
undefined_taken define s source (NoWarrior.Refused name text fault) i j is takes = absurd is
undefined_taken define s source (NoWarrior.Failed trouble) i j is takes = (is, (source, takes.bytes))
undefined_taken define s source (NoWarrior.Undefined trouble) i j is takes = (source, takes, is)

-- for which a definition was given
given_for : (define : Option (List ℕ)) (source : List ℕ) (trouble : Trouble) → HasNoText define source trouble → is_some define ≡ true
given_for None source trouble has = absurd (cc)
given_for (Some words) source trouble has = refl

given_by : {A : Type 0} (define : Option (List ℕ)) (s : RawSettings) (none : NoWarrior A) (i j : Option (List ℕ)) → TakesNone define s none i j → WasUndefined none → is_some define ≡ true
given_by define s (NoWarrior.Refused name text fault) i j taken was = absurd was
given_by define s (NoWarrior.Failed trouble) i j taken was = absurd was
given_by define s (NoWarrior.Undefined trouble) i j (source, takes, has) was = given_for define source trouble has

given_from : {A : Type 0} (of_input : Bool) (define : Option (List ℕ)) (s : RawSettings) (none : NoWarrior A) (i j : Option (List ℕ)) → From of_input (TakesNone define s none) i j → WasUndefined none
    → is_some define ≡ true
given_from true define s none i j taken was = given_by define s none i j taken was
given_from false define s none i j taken was = given_by define s none None None taken.0 was

-- the same of one of two sources, of which the first has the definition
pub given_one : {A : Type 0} (of_input : Bool) (define : Option (List ℕ)) (s : RawSettings) (none : NoWarrior A) (i j : Option (List ℕ)) → From of_input (IsTaken define s (Err none)) i j
    → WasUndefined none → is_some define ≡ true
given_one true define s none i j taken was = given_by define s none i j taken was
given_one false define s none i j taken was = given_by define s none None None taken.0 was

pub given_two : {A : Type 0} (define : Option (List ℕ)) (s : RawSettings) (first second : Bool) (none : NoWarrior A) (i k : Option (List ℕ)) → AreTaken define s first second (Err none) i k
    → WasUndefined none → is_some define ≡ true
given_two define s first second none i k (inl taken) was = given_from first define s none i k taken was
given_two define s first second none i k (inr (older, j, one, other)) was = absurd (true≢false (sym (given_from second None s none j k other was)))

unknown_takes : (source : List ℕ) (i j : Option (List ℕ)) → Takes i j source → Takes None None source
unknown_takes source i j takes = record { bytes = tt; most = takes.most; whole = λ short. tt }

-- the same of a reader of which no bytes are known
pub unknown : {A : Type 0} (define : Option (List ℕ)) (s : RawSettings) (r : Result WarriorParts (NoWarrior A)) (i j : Option (List ℕ)) → IsTaken define s r i j → IsTaken define s r None None
unknown define s (Ok warrior) i j (made, (source, takes, defined)) = (made, (source, unknown_takes source i j takes, defined))
unknown define s (Err (NoWarrior.Refused name text fault)) i j (is, (source, takes, defined)) = (is, (source, unknown_takes source i j takes, defined))
unknown define s (Err (NoWarrior.Failed trouble)) i j (is, taken) = (is, ([], tt))
unknown define s (Err (NoWarrior.Undefined trouble)) i j (source, takes, has) = (source, unknown_takes source i j takes, has)

-- a text that is given is one that is copied
pub some_mapped : {A B : Type 0} (f : A → B) (given : Option A) → is_some (option_map f given) ≡ true → is_some given ≡ true
some_mapped f None is = is
some_mapped f (Some x) is = refl
